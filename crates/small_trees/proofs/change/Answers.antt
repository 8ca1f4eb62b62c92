-- `small_trees::change` meets its contract.
use mathlib.Core.Path.{◌∙◌}
use native.Mathlib.Omega.{arith}
use Rattle.small_trees.proofs.Changing.{change_start, old_byte, new_byte, change_byte, change_end}
use Rattle.small_trees.proofs.change.Goals as goal

pub loop-j-init : goal.loop-j-init
loop-j-init c = change_start _ _ _ _ (λ j. omega (arith, c.type_inv.tree j))

pub loop-j-preserved : goal.loop-j-preserved
loop-j-preserved c =
    let C = c.loop-j.invariant in
    change_byte _ _ _ _ C _ c.loop-j-test.true (c.changed_byte.ensures ∙ new_byte _ _ _ _ c.loop-j.j _ (old_byte _ _ _ _ C))

pub returns : goal.returns
returns c = change_end _ _ _ _ c.loop-j.invariant c.loop-j-test.false
