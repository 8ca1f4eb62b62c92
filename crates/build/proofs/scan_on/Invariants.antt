-- The loop of `build::scan_on`.
use Rattle.std.specs.Prelude.{map}
use Rattle.ranks.specs.Ranks.{oriented}
use Rattle.build.proofs.Settling.{Scanning}
use Rattle.build.proofs.scan_on.Given as goal

abbrev pub invariant-loop-m : goal.invariant-loop-m
invariant-loop-m g l = Scanning (oriented l.reverse (map g.S.Letter.rank l.string)) l.l l.r l.from l.equal l.unequal l.m
