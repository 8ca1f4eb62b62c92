-- `search::sums::Sum::falls_in` meets its contract.
use mathlib.Core.Path.{ap, ◌∙◌}
use lib.IntN.{pos, ◌+ℤ◌}
use lib.Signed.{lt_z}
use mir.Syntax.{w32}
use mir.Val.{to_z, of_z}
use Rattle.excess.specs.Excess.{half_min_excess}
use Rattle.search.proofs.Signed.{back, fits, negative, lowest_is, lowest_fits}
use Rattle.search.proofs.sums.Sum.falls_in.Goals as goal

pub overflow_add-result : goal.overflow_add-result
overflow_add-result c = rw (lowest_is c.args.self.0 c.requires.0 c.args.half c.requires.1 c.args.halves.now.lowest_known) (fits (lowest_fits c.args.self.0 c.requires.0 c.args.half c.requires.1))

pub returns : goal.returns
returns c =
    let z = c.args.self.0 +ℤ half_min_excess c.args.half in
    ap (λ x. lt_z (to_z w32 (of_z w32 x)) (pos 0)) (lowest_is c.args.self.0 c.requires.0 c.args.half c.requires.1 c.args.halves.now.lowest_known)
    ∙ ap (λ x. lt_z x (pos 0)) (back z (lowest_fits c.args.self.0 c.requires.0 c.args.half c.requires.1))
    ∙ negative z
