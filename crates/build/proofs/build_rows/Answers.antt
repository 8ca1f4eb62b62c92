-- `build::build_rows` meets its contract: each way through its two loops is a law of proofs/Invariants.antt.
use mathlib.Core.Path.{◌≡◌, refl, sym, ap, ap₂, ◌∙◌}
use Prim.Native.Nat.{◌+◌}
use native.Mathlib.Omega.{arith}
use lib.ListN.{length, take, length-set}
use Rattle.std.specs.Prelude.{map}
use Rattle.ranks.specs.Ranks.{oriented}
use Rattle.suffix.specs.Tree.{tree_bytes}
use Rattle.entries.specs.Lent.{tables_in}
use Rattle.build.proofs.Strings.{string_length}
use Rattle.build.proofs.Invariants as law
use Rattle.build.proofs.build_rows.Goals as goal

pub returns-then-rows-eq0-clause-steps : goal.returns-then-rows-eq0-clause-steps
returns-then-rows-eq0-clause-steps g c =
    let long = string_length g.S.Letter.rank c.args.reverse c.args.string.now in
    rw (c.if-rows-eq0.true, ← long) (law.no_rows _ _ (law.sizes_are long c.requires.long))

pub returns-then-rows-eq0-clause-bits : goal.returns-then-rows-eq0-clause-bits
returns-then-rows-eq0-clause-bits g c =
    let long = string_length g.S.Letter.rank c.args.reverse c.args.string.now in
    rw c.if-rows-eq0.true (law.no_bits _ _ (law.sizes_are long c.requires.long) _ (rw long c.requires.clear.0) c.requires.clear.1)

pub rows-init : goal.rows-init
rows-init g c =
    let long = string_length g.S.Letter.rank c.args.reverse c.args.string.now in
    let first = law.first_row _ _ (law.sizes_are long c.requires.long) _ _ _ (omega arith) (omega (arith, long, c.requires.few.1)) (sym long) (rw long c.requires.clear.0) c.requires.clear.1 in
    (first, refl, record { previous = refl; next = refl; previous_match = refl; next_match = refl })

pub set_bit-requires : goal.set_bit-requires
set_bit-requires g c =
    law.byte_room c.rows.invariant.0

pub walk-init : goal.walk-init
walk-init g c =
    let long = string_length g.S.Letter.rank c.args.reverse c.args.string.now in
    let recorded = law.row_is (tables_in c.rows.tables) _ _ _ _ c.record_entry.ensures.0 c.record_entry-in-rows.ensures.0 c.record_entry.ensures.1 c.record_entry-in-rows.ensures.1 in
    let lent = c.rows.invariant.2 in
    (law.begins c.rows.invariant.0 (omega arith) (rw long recorded) c.set_bit.ensures, record { previous = lent.previous; next = lent.next; previous_match = lent.previous_match; next_match = lent.next_match })

pub settle-pair-requires-clause-safe : goal.settle-pair-requires-clause-safe
settle-pair-requires-clause-safe g c =
    let long = string_length g.S.Letter.rank c.args.reverse c.args.string.now in
    law.safe c.walk.invariant.0 long

pub rows-preserved-then-pair : goal.rows-preserved-then-pair
rows-preserved-then-pair g c =
    let told : law.Settled c.walk.invariant.0 c.settle-pair.result = record { pair = c.settle-pair.ensures.settled; rows_stay = c.settle-pair.ensures.rows } in
    (law.ends_left c.walk.invariant.0 told c.if-pair.true, ap length c.set_bit.ensures ∙ length-set _ _ _ ∙ c.rows.invariant.1, c.walk.invariant.1)

pub record_entry-requires-in-walk : goal.record_entry-requires-in-walk
record_entry-requires-in-walk g c =
    let long = string_length g.S.Letter.rank c.args.reverse c.args.string.now in
    let told : law.Settled c.walk.invariant.0 c.settle-pair.result = record { pair = c.settle-pair.ensures.settled; rows_stay = c.settle-pair.ensures.rows } in
    law.next_fits c.walk.invariant.0 told (omega (arith, long, c.requires.few.0))

pub rows-preserved-then-p-n : goal.rows-preserved-then-p-n
rows-preserved-then-p-n g c =
    let long = string_length g.S.Letter.rank c.args.reverse c.args.string.now in
    let told : law.Settled c.walk.invariant.0 c.settle-pair.result = record { pair = c.settle-pair.ensures.settled; rows_stay = c.settle-pair.ensures.rows } in
    let recorded = law.next_is (tables_in c.walk.tables) _ _ _ c.record_entry-in-walk.ensures.0 c.record_entry-in-walk.ensures.1 in
    let lent = c.walk.invariant.1 in
    (law.ends_none c.walk.invariant.0 told c.if-pair.false recorded (c.if-p-n.true ∙ sym long), ap length c.set_bit.ensures ∙ length-set _ _ _ ∙ c.rows.invariant.1, record { previous = lent.previous; next = lent.next; previous_match = lent.previous_match; next_match = lent.next_match })

pub rows-preserved : goal.rows-preserved
rows-preserved g c =
    let long = string_length g.S.Letter.rank c.args.reverse c.args.string.now in
    let told : law.Settled c.walk.invariant.0 c.settle-pair.result = record { pair = c.settle-pair.ensures.settled; rows_stay = c.settle-pair.ensures.rows } in
    let recorded = law.next_is (tables_in c.walk.tables) _ _ _ c.record_entry-in-walk.ensures.0 c.record_entry-in-walk.ensures.1 in
    let some = law.not_none long c.if-p-n.false in
    let lent = c.walk.invariant.1 in
    (law.ends_less c.walk.invariant.0 told c.if-pair.false recorded some (omega arith), ap length c.set_bit.ensures ∙ length-set _ _ _ ∙ c.rows.invariant.1, record { previous = lent.previous; next = lent.next; previous_match = lent.previous_match; next_match = lent.next_match })

pub offset_bounds-tables-l : goal.offset_bounds-tables-l
offset_bounds-tables-l g c =
    let long = string_length g.S.Letter.rank c.args.reverse c.args.string.now in
    let told : law.Settled c.walk.invariant.0 c.settle-pair.result = record { pair = c.settle-pair.ensures.settled; rows_stay = c.settle-pair.ensures.rows } in
    let recorded = law.next_is (tables_in c.walk.tables) _ _ _ c.record_entry-in-walk.ensures.0 c.record_entry-in-walk.ensures.1 in
    let some = law.not_none long c.if-p-n.false in
    let inside = law.p_in c.walk.invariant.0 told c.if-pair.false recorded some in
    omega (arith, inside.0)

pub bounds-tables-l : goal.bounds-tables-l
bounds-tables-l g c =
    let long = string_length g.S.Letter.rank c.args.reverse c.args.string.now in
    let told : law.Settled c.walk.invariant.0 c.settle-pair.result = record { pair = c.settle-pair.ensures.settled; rows_stay = c.settle-pair.ensures.rows } in
    let recorded = law.next_is (tables_in c.walk.tables) _ _ _ c.record_entry-in-walk.ensures.0 c.record_entry-in-walk.ensures.1 in
    let some = law.not_none long c.if-p-n.false in
    (law.p_in c.walk.invariant.0 told c.if-pair.false recorded some).0

pub offset_bounds-tables-l-in-walk : goal.offset_bounds-tables-l-in-walk
offset_bounds-tables-l-in-walk g c =
    let long = string_length g.S.Letter.rank c.args.reverse c.args.string.now in
    let told : law.Settled c.walk.invariant.0 c.settle-pair.result = record { pair = c.settle-pair.ensures.settled; rows_stay = c.settle-pair.ensures.rows } in
    let recorded = law.next_is (tables_in c.walk.tables) _ _ _ c.record_entry-in-walk.ensures.0 c.record_entry-in-walk.ensures.1 in
    let some = law.not_none long c.if-p-n.false in
    let inside = law.p_in c.walk.invariant.0 told c.if-pair.false recorded some in
    omega (arith, inside.1)

pub bounds-tables-l-in-walk : goal.bounds-tables-l-in-walk
bounds-tables-l-in-walk g c =
    let long = string_length g.S.Letter.rank c.args.reverse c.args.string.now in
    let told : law.Settled c.walk.invariant.0 c.settle-pair.result = record { pair = c.settle-pair.ensures.settled; rows_stay = c.settle-pair.ensures.rows } in
    let recorded = law.next_is (tables_in c.walk.tables) _ _ _ c.record_entry-in-walk.ensures.0 c.record_entry-in-walk.ensures.1 in
    let some = law.not_none long c.if-p-n.false in
    (law.p_in c.walk.invariant.0 told c.if-pair.false recorded some).1

pub walk-smaller : goal.walk-smaller
walk-smaller g c =
    let long = string_length g.S.Letter.rank c.args.reverse c.args.string.now in
    let told : law.Settled c.walk.invariant.0 c.settle-pair.result = record { pair = c.settle-pair.ensures.settled; rows_stay = c.settle-pair.ensures.rows } in
    let recorded = law.next_is (tables_in c.walk.tables) _ _ _ c.record_entry-in-walk.ensures.0 c.record_entry-in-walk.ensures.1 in
    let some = law.not_none long c.if-p-n.false in
    law.falls c.walk.invariant.0 told c.if-pair.false recorded some

pub walk-preserved : goal.walk-preserved
walk-preserved g c =
    let long = string_length g.S.Letter.rank c.args.reverse c.args.string.now in
    let told : law.Settled c.walk.invariant.0 c.settle-pair.result = record { pair = c.settle-pair.ensures.settled; rows_stay = c.settle-pair.ensures.rows } in
    let recorded = law.next_is (tables_in c.walk.tables) _ _ _ c.record_entry-in-walk.ensures.0 c.record_entry-in-walk.ensures.1 in
    let some = law.not_none long c.if-p-n.false in
    let lent = c.walk.invariant.1 in
    (law.goes c.walk.invariant.0 told c.if-pair.false recorded some (omega arith) refl refl, record { previous = lent.previous; next = lent.next; previous_match = lent.previous_match; next_match = lent.next_match })

pub returns-clause-steps : goal.returns-clause-steps
returns-clause-steps g c =
    let long = string_length g.S.Letter.rank c.args.reverse c.args.string.now in
    let recorded = law.row_is (tables_in c.rows.tables) _ _ _ _ c.record_entry.ensures.0 c.record_entry-in-rows.ensures.0 c.record_entry.ensures.1 c.record_entry-in-rows.ensures.1 in
    rw (← long) (law.rows_are_done c.rows.invariant.0 (rw long recorded) c.args.rows (omega (arith, c.rows.invariant.0.most)))

pub returns-clause-bits : goal.returns-clause-bits
returns-clause-bits g c =
    let tree_long = ap length c.set_bit.ensures ∙ length-set _ _ _ ∙ c.rows.invariant.1 in
    let all : c.rows.state.rows + 1 ≡ c.args.rows = omega (arith, c.rows.invariant.0.most) in
    law.bit_set c.rows.invariant.0 c.set_bit.ensures ∙ ap₂ (λ k r. take k (tree_bytes (oriented c.args.reverse (map g.S.Letter.rank c.args.string.now)) r)) tree_long all

pub returns-clause-still_long : goal.returns-clause-still_long
returns-clause-still_long g c =
    let long = string_length g.S.Letter.rank c.args.reverse c.args.string.now in
    let recorded = law.row_is (tables_in c.rows.tables) _ _ _ _ c.record_entry.ensures.0 c.record_entry-in-rows.ensures.0 c.record_entry.ensures.1 c.record_entry-in-rows.ensures.1 in
    law.are_sizes long (law.recorded_sizes c.rows.invariant.0 (rw long recorded))
