-- The loops of `cabinet_reader::read_counts`.
use mathlib.Core.Path.{◌≡◌}
use lib.ListN.{drop}
use Rattle.cabinet.specs.File.{contents_end}
use Rattle.cabinet_reader.proofs.Reading.{RightTo, ListedTo}
use Rattle.cabinet_reader.proofs.read_counts.Given as goal

abbrev pub invariant-loop-count : goal.invariant-loop-count
invariant-loop-count l =
    let k = l.count-index in RightTo l.file k l.end × ListedTo l.file l.counts k × (l.rest ≡ drop (contents_end k) l.file)
