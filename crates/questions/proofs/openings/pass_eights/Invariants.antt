-- The loops of `questions::openings::pass_eights`.
use Prim.Native.Nat.{◌*◌}
use Rattle.questions.proofs.Counting.{Passing}
use Rattle.questions.proofs.openings.pass_eights.Given as goal

abbrev pub invariant-loop-k : goal.invariant-loop-k
invariant-loop-k l = Passing l.tree l.i (8 * l.k) l.left
