-- The loops of `word::longest_lyndon_prefix`.
use Rattle.std.proofs.Common.{map}
use Rattle.suffix.proofs.Order.{extended}
use Rattle.word.proofs.Duval.{Repeats}
use Rattle.word.proofs.longest_lyndon_prefix.Given as goal

abbrev pub invariant-loop-j : goal.invariant-loop-j
invariant-loop-j g l = Repeats (extended (map g.S.Letter.rank l.string)) l.k l.j
