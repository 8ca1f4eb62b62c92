-- The loops of `search::sums::bytes_on`.
use Prim.Native.Nat.{◌*◌, ◌-◌}
use Rattle.search.specs.Steps.{GoingOn}
use Rattle.search.proofs.sums.bytes_on.Given as goal

abbrev pub invariant-loop-j : goal.invariant-loop-j
invariant-loop-j l = GoingOn l.tree (8 * l.first) (8 * l.stop) l.initial.sum.0 (8 * l.j) l.sum.0

abbrev pub decreases-loop-j : goal.decreases-loop-j
decreases-loop-j l = l.stop - l.j
