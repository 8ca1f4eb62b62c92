-- The loop of `small_trees::change`.
use Rattle.small_trees.proofs.Changing.{ChangedTo}
use Rattle.small_trees.proofs.change.Given as goal

abbrev pub invariant-loop-j : goal.invariant-loop-j
invariant-loop-j l = ChangedTo l.initial.tree l.k l.from l.to l.j l.tree
