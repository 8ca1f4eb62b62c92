-- `small_trees::changed_byte` meets its contract.
use native.Mathlib.Omega.{arith}
use Rattle.small_trees.proofs.Changing.{weights_byte}
use Rattle.small_trees.proofs.changed_byte.Goals as goal

pub overflow_sub-result : goal.overflow_sub-result
overflow_sub-result c = (weights_byte c.args.byte _ _ _ _ c.requires.1 c.requires.2 c.weight_before.ensures c.weight_before-3.ensures c.weight_before-2.ensures).enough

pub overflow_cast-result : goal.overflow_cast-result
overflow_cast-result c =
    let w = weights_byte c.args.byte _ _ _ _ c.requires.1 c.requires.2 c.weight_before.ensures c.weight_before-3.ensures c.weight_before-2.ensures in
    omega (arith, w.fits)

pub returns : goal.returns
returns c = (weights_byte c.args.byte _ _ _ _ c.requires.1 c.requires.2 c.weight_before.ensures c.weight_before-3.ensures c.weight_before-2.ensures).is
