-- The loop of `small_trees::go_on`.
use Rattle.small_trees.proofs.Turning.{Searching}
use Rattle.small_trees.proofs.go_on.Given as goal

abbrev pub invariant-loop-k : goal.invariant-loop-k
invariant-loop-k l = Searching l.size l.initial.tree l.tree l.k l.openings
