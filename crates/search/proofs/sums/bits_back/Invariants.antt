-- The loops of `search::sums::bits_back`.
use Rattle.search.specs.Steps.{GoingBack}
use Rattle.search.proofs.sums.bits_back.Given as goal

abbrev pub invariant-loop-k : goal.invariant-loop-k
invariant-loop-k l = GoingBack l.tree l.fn.start.at l.end l.initial.sum.0 l.k l.sum.0
