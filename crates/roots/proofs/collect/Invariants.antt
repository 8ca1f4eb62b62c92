-- The loop of `roots::collect`.
use Rattle.std.specs.Prelude.{map}
use Rattle.roots.proofs.Gathering.{Collecting}
use Rattle.roots.proofs.collect.Given as goal

abbrev pub invariant-loop-i : goal.invariant-loop-i
invariant-loop-i g l = Collecting (map g.S.Letter.rank l.string) l.i l.initial.list l.list
