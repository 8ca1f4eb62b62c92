-- The loops of `search::sums::pass_on`.
use Prim.Native.Nat.{◌*◌}
use Rattle.search.specs.Steps.{GoingOn}
use Rattle.search.proofs.sums.pass_on.Given as goal

abbrev pub invariant-loop-j : goal.invariant-loop-j
invariant-loop-j l = GoingOn l.tree (8 * l.first) (8 * l.stop) l.initial.sum.0 (8 * l.j) l.sum.0
