-- The loops of `cabinet_bodies::flaw_of`.
use mathlib.Core.Path.{◌≡◌}
use lib.ListN.{drop}
use Rattle.cabinet.specs.File.{body_bytes, count_in}
use Rattle.cabinet.proofs.Bodies.{SoundTo}
use Rattle.cabinet_bodies.proofs.flaw_of.Given as goal

abbrev pub invariant-loop-n : goal.invariant-loop-n
invariant-loop-n l =
    let start = body_bytes (count_in l.counts) l.n-index in SoundTo l.trees 0 (count_in l.counts) l.n-index start × (l.rest ≡ drop start l.trees)
