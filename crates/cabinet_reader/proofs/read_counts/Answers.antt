-- `cabinet_reader::read_counts` meets its contract.
use mathlib.Core.Path.{◌∙◌}
use native.Mathlib.Omega.{arith}
use Rattle.cabinet_reader.proofs.Reading.{wrong_entry, right_more, listed_more, place_split, letters_split, left_then}
use Rattle.cabinet_reader.proofs.read_counts.Goals as goal

pub returns-then-place-end-clause-verdict : goal.returns-then-place-end-clause-verdict
returns-then-place-end-clause-verdict c =
    let file = c.args.file.now in
    let k = c.loop-count.count-index in
    let left = c.loop-count.invariant.2 in
    let place = c.number_at-place.ensures ∙ place_split file k left c.split_at.ensures.front in
    let n = c.number_at-n.ensures ∙ letters_split file k left c.split_at.ensures.front in
    rw (wrong_entry file c.loop-count.invariant.0 (omega arith) place n (λ p q. omega (arith, p, q, c.then-place-end.either)))

pub loop-count-preserved : goal.loop-count-preserved
loop-count-preserved c =
    let file = c.args.file.now in
    let k = c.loop-count.count-index in
    let left = c.loop-count.invariant.2 in
    let place = c.number_at-place.ensures ∙ place_split file k left c.split_at.ensures.front in
    let n = c.number_at-n.ensures ∙ letters_split file k left c.split_at.ensures.front in (
      right_more file c.loop-count.invariant.0 (omega (arith, c.tree_length-end.ensures, n)) (omega (arith, place, c.if-place-end.false)) (omega (arith, n)),
      listed_more file c.loop-count.counts c.loop-count.invariant.1 (omega (arith, c.loop-count.invariant.1.size)) n,
      left_then file k left c.split_at.ensures.back,
    )
