-- A buffer filled with a file.
use mathlib.Core.Path.{◌≡◌, refl, sym, ap, ◌∙◌}
use mathlib.Core.List.{List, [], ◌∷◌, ◌++◌, append-nil}
use Prim.Native.Nat.{ℕ, ◌+◌, ◌*◌, ◌≤◌, ◌<◌}
use native.Mathlib.Omega.{arith}
use lib.ListN.{length, take, drop, length-drop}
use lib.Seq.{take-length, take_all, length-take-le}
use Rattle.std.specs.Int.{w32, to_le_bytes}
use Rattle.std.proofs.lemmas.List.{drop_all}
use Rattle.suffix.specs.Search.{sum_below}
use Rattle.suffix.specs.Tree.{tree_length}
use Rattle.writing.specs.Writing.{Wrote}
use Rattle.writing.proofs.Writes.{wrote_none, wrote_then, wrote_part}
use Rattle.cabinet.specs.LittleEndian.{four_bytes}
use Rattle.cabinet.specs.declared.Mark.TheVariants.{LYN2}
use Rattle.cabinet.specs.File.{mark_bytes, contents_end, contents, body_bytes, count_in}
use Rattle.cabinet.specs.Refusals.{Allowed}
use Rattle.cabinet.proofs.Marks.{spelled}
use Rattle.cabinet.proofs.LittleEndian.{four_length, low_bytes}
use Rattle.cabinet.proofs.Contents.{bytes_more, bytes_most, contents_more}

-- a text copied over as many bytes from place x on
pub copied : (a s e : List ℕ) (x k : ℕ) → x + k ≤ length a → length s ≡ k → e ≡ s → Wrote a (take x a ++ (e ++ drop k (drop x a))) s x (x + k)
copied a s e x k h g w = wrote_part a s e x k k (omega arith) (omega arith) (sym g) (w ∙ whole)
  where
    none : drop (length s) (take k (drop x a)) ≡ []
    none = drop_all (length s) (take k (drop x a)) (omega (arith, length-take-le k (drop x a) (omega (arith, length-drop x a))))

    whole : s ≡ take (length s) s ++ drop (length s) (take k (drop x a))
    whole = rw (none, take_all (length s) s (omega arith)) (sym (append-nil s))

-- a number is put
pub number_put : (file e : List ℕ) (at v k : ℕ) → at + 4 ≤ length file → k ≡ 4 → e ≡ to_le_bytes w32 v → Wrote file (take at file ++ (e ++ drop k (drop at file))) (four_bytes v) at (at + 4)
number_put file e at v k h z w = rw z (copied file (four_bytes v) e at 4 h (four_length v) (w ∙ low_bytes v))

-- k entries are put behind the entry count, and the next body's place is `place`
pub record EntriesTo (counts before now : List ℕ) (k place : ℕ) : Type 0 where
  pub ends : place ≡ contents_end (length counts) + body_bytes (count_in counts) k
  pub wrote : Wrote before now (contents (contents_end (length counts)) (take k counts)) 8 (8 + 8 * k)

module _ (counts before : List ℕ) where
  pub entries_none : {place : ℕ} → place ≡ contents_end (length counts) → EntriesTo counts before before 0 place
  unfolding sum_below contents
  entries_none e = record { ends = omega arith; wrote = wrote_none before 8 }

  module _ {now : List ℕ} {k place : ℕ} (S : EntriesTo counts before now k place) where
    pub place_most : Allowed counts → k ≤ length counts → place ≤ contents_end (length counts) + 250000 * k
    place_most A h = omega (arith, S.ends, bytes_most (count_in counts) k (λ j w. A.short j (omega arith)))

    pub entries_more : {after : List ℕ} {next : ℕ} → k < length counts → next ≡ place + tree_length (count_in counts k)
        → Wrote now after (four_bytes place ++ four_bytes (count_in counts k)) (8 + 8 * k) (8 + 8 * k + 8) → EntriesTo counts before after (k + 1) next
    entries_more h n p =
        let z : 8 + 8 * (k + 1) ≡ 8 + 8 * k + 8 = omega arith in
        record {
          ends = omega (arith, n, S.ends, bytes_more (count_in counts) k);
          wrote = rw (z, contents_more (contents_end (length counts)) counts k h, sym S.ends) (wrote_then S.wrote p);
        }

    pub entries_all : k ≡ length counts → Wrote before now (contents (contents_end (length counts)) counts) 8 (contents_end (length counts))
    entries_all e = rw (take-length counts) at (rw e at S.wrote)

-- what the loop over the entries needs
pub ruleset entries = (entries_none, place_most, entries_all)

-- the mark at the start
pub mark_put : (before after : List ℕ) {d : ℕ} → after ≡ (0x4C ∷ 0x59 ∷ 0x4E ∷ d ∷ []) ++ drop 4 before → d ≡ 0x32 → Wrote before after (mark_bytes LYN2) 0 4
mark_put before after e z = let w = e ∙ ap (λ l. l ++ drop 4 before) (spelled LYN2 z) in record { size = refl; text = ap (take 4) w; rest = ap (drop 4) w }

-- a text that fills the buffer
pub filled : {before after t : List ℕ} {z : ℕ} → Wrote before after t 0 z → z ≡ length after → after ≡ t
filled {after = after} {z = z} W e = sym (take_all z after (omega arith)) ∙ W.text
