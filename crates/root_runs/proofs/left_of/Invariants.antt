-- The loop of `root_runs::left_of`.
use Rattle.std.specs.Prelude.{map}
use Rattle.root_runs.proofs.Scanning.{Agreeing}
use Rattle.root_runs.proofs.left_of.Given as goal

abbrev pub invariant-loop-x : goal.invariant-loop-x
invariant-loop-x g l = Agreeing (map g.S.Letter.rank l.string) l.i l.j l.x
