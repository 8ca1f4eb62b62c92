-- The loops of `search::sums::pass_back`.
use Prim.Native.Nat.{◌*◌}
use Rattle.search.specs.Steps.{GoingBack}
use Rattle.search.proofs.sums.pass_back.Given as goal

abbrev pub invariant-loop-j : goal.invariant-loop-j
invariant-loop-j l = GoingBack l.tree (8 * l.first) 0 l.initial.sum.0 (8 * l.j) l.sum.0
