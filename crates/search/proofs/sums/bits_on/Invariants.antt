-- The loops of `search::sums::bits_on`.
use Rattle.search.specs.Steps.{GoingOn}
use Rattle.search.proofs.sums.bits_on.Given as goal

abbrev pub invariant-loop-k : goal.invariant-loop-k
invariant-loop-k l = GoingOn l.tree l.fn.start.at l.end l.initial.sum.0 l.k l.sum.0
