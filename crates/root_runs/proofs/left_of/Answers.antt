-- `root_runs::left_of` meets its contract.
use native.Mathlib.Omega.{arith}
use Rattle.root_runs.proofs.Scanning.{at_most}
use Rattle.root_runs.proofs.left_of.Goals as goal

pub returns : goal.returns
returns g c = omega (arith, at_most _ _ _ _ c.loop-x.invariant (omega arith) {most = c.min-most.result} (omega (arith, c.min-most.ensures)) (omega arith))
