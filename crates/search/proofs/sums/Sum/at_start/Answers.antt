-- `search::sums::Sum::at_start` meets its contract.
use mathlib.Core.Path.{ap, ◌∙◌}
use native.Mathlib.Omega.{arith}
use mir.Syntax.{w32}
use mir.Val.{to_z, of_z}
use Rattle.search.proofs.Signed.{back, fits, excess_near, excess_entry, start_is, start_fits}
use Rattle.search.proofs.sums.Sum.at_start.Goals as goal

pub overflow_cast-result : goal.overflow_cast-result
overflow_cast-result c = rw (excess_entry c.args.half c.requires.1 c.args.halves.now.sums_known) (fits (omega (arith, excess_near c.args.half)))

pub overflow_sub-result : goal.overflow_sub-result
overflow_sub-result c = rw (start_is c.args.self.0 c.requires.0 c.args.half c.requires.1 c.args.halves.now.sums_known) (fits (start_fits c.args.self.0 c.requires.0 c.args.half c.requires.1))

pub returns : goal.returns
returns c =
    ap (λ z. to_z w32 (of_z w32 z)) (start_is c.args.self.0 c.requires.0 c.args.half c.requires.1 c.args.halves.now.sums_known) ∙ back _ (start_fits c.args.self.0 c.requires.0 c.args.half c.requires.1)
