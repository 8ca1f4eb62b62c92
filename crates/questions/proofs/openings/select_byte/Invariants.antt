-- The loops of `questions::openings::select_byte`.
use Rattle.questions.proofs.Counting.{Passing}
use Rattle.questions.proofs.openings.select_byte.Given as goal

abbrev pub invariant-loop-j : goal.invariant-loop-j
invariant-loop-j l = Passing l.tree l.i l.j l.left
