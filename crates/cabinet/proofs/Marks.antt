-- Which mark a file has.
use mathlib.Core.Path.{◌≡◌, refl, sym, ap, ◌∙◌}
use mathlib.Core.Logic.{◌≢◌}
use mathlib.Core.Bool.{true, false, true≢false}
use mathlib.Core.List.{List, [], ◌∷◌}
use Prim.Native.Nat.{ℕ, ◌≤◌, ◌<◌}
use native.Mathlib.Omega.{arith}
use lib.Dec.{eqb, ltb}
use lib.ListN.{length, get_or, take}
use lib.Seq.{ext_get_or, get_or-take, length-take-le}
use borrow.Author.Tests.{le-ltb, ltb-false, eqb-true, eq-eqb, ne_eqb}
use Rattle.suffix.proofs.Cases.{Same, same, other, same?, Test, holds, fails, test}
use Rattle.suffix.proofs.Search.{all_true, all_false, all_at}
use Rattle.cabinet.specs.declared.Mark.{Mark}
use Rattle.cabinet.specs.declared.Mark.TheVariants.{LYN1, LYN2}
use Rattle.cabinet.specs.File.{mark_bytes, mark_number, begins, mark_of}
use Rattle.cabinet.specs.Refusals.{not_marked}

pub mark_length : (m : Mark) → length (mark_bytes m) ≡ 4
mark_length LYN1 = refl
mark_length LYN2 = refl

-- a mark has a number, and no two have the same
pub mark_some : (m : Mark) → 0 < mark_number m
mark_some LYN1 = omega arith
mark_some LYN2 = omega arith

pub one_mark : (m k : Mark) → mark_number m ≡ mark_number k → m ≡ k
one_mark LYN1 LYN1 e = refl
one_mark LYN1 LYN2 e = absurd (omega arith)
one_mark LYN2 LYN1 e = absurd (omega arith)
one_mark LYN2 LYN2 e = refl

-- the marks differ in their last byte
pub spelled : (m : Mark) {d : ℕ} → d ≡ get_or (mark_bytes m) 3 0 → 0x4C ∷ 0x59 ∷ 0x4E ∷ d ∷ [] ≡ mark_bytes m
spelled LYN1 e = rw e
spelled LYN2 e = rw e

-- a file that is long enough and begins with a mark
pub record Marked (file : List ℕ) : Type 0 where
  pub long : 8 ≤ length file
  pub mark : Mark
  pub first : take 4 file ≡ mark_bytes mark

module _ (file : List ℕ) where
  byte : {bytes : List ℕ} → take 4 file ≡ bytes → (k : ℕ) → k < 4 → get_or file k 0 ≡ get_or bytes k 0
  byte e k h = sym (get_or-take 4 file k 0 h) ∙ ap (λ l. get_or l k 0) e

  begins_so : (m : Mark) → take 4 file ≡ mark_bytes m → begins file m ≡ true
  unfolding begins
  begins_so m e = all_true (λ k. eqb (get_or file k 0) (get_or (mark_bytes m) k 0)) 4 (λ k h. eq-eqb _ _ (byte e k h))

  not_first : take 4 file ≡ mark_bytes LYN2 → begins file LYN1 ≡ false
  unfolding begins
  not_first e = all_false (λ k. eqb (get_or file k 0) (get_or (mark_bytes LYN1) k 0)) 4 3 (omega arith) (ne_eqb (get_or file 3 0) 0x31 (λ z. omega (arith, z, byte e 3 (omega arith))))

  met : (m : Mark) → 8 ≤ length file → take 4 file ≡ mark_bytes m → mark_of file ≡ mark_number m
  unfolding mark_of
  met LYN1 h e = rw (le-ltb (length file) 8 h, begins_so LYN1 e, mark_of)
  met LYN2 h e = rw (le-ltb (length file) 8 h, not_first e, begins_so LYN2 e, mark_of)

  pub mark_met : (M : Marked file) → mark_of file ≡ mark_number M.mark
  mark_met M = met M.mark M.long M.first

  begun : (m : Mark) → ltb (length file) 8 ≡ false → begins file m ≡ true → Marked file
  unfolding begins
  begun m s b =
      let long = ltb-false (length file) 8 s in
      record {
        long = long;
        mark = m;
        first =
            ext_get_or 0 (take 4 file) (mark_bytes m) (length-take-le 4 file (omega arith) ∙ sym (mark_length m))
            (λ i h. let w : i < 4 = omega (arith, length-take-le 4 file (omega arith)) in get_or-take 4 file i 0 w ∙ eqb-true _ _ (all_at (λ k. eqb (get_or file k 0) (get_or (mark_bytes m) k 0)) 4 b i w));
      }

  is_marked : mark_of file ≢ 0 → Marked file
  unfolding mark_of
  is_marked q = long (test (ltb (length file) 8))
    where
      second : ltb (length file) 8 ≡ false → begins file LYN1 ≡ false → Test (begins file LYN2) → Marked file
      second s a (holds b) = begun LYN2 s b
      second s a (fails b) = absurd (q (rw (s, a, b, mark_of)))

      first : ltb (length file) 8 ≡ false → Test (begins file LYN1) → Marked file
      first s (holds a) = begun LYN1 s a
      first s (fails a) = second s a (test (begins file LYN2))

      long : Test (ltb (length file) 8) → Marked file
      long (holds s) = absurd (q (rw (s, mark_of)))
      long (fails s) = first s (test (begins file LYN1))

  pub marked : not_marked file ≡ false → Marked file
  marked e = is_marked (λ z. true≢false (sym (eq-eqb (mark_of file) 0 z) ∙ e))

  pub marked_long : not_marked file ≡ false → 8 ≤ length file
  marked_long e = (marked e).long

  -- where it is not so, it has no mark
  unmarked : (Marked file → ⊥) → mark_of file ≡ 0
  unmarked q = go (same? (mark_of file) 0)
    where
      go : Same (mark_of file) 0 → mark_of file ≡ 0
      go (same e) = e
      go (other e) = absurd (q (is_marked e))

  pub mark_short : length file < 8 → mark_of file ≡ 0
  mark_short h = unmarked (λ M. omega (arith, M.long))

  pub mark_neither : take 4 file ≢ mark_bytes LYN1 → take 4 file ≢ mark_bytes LYN2 → mark_of file ≡ 0
  mark_neither p q = unmarked (λ M. go M.mark M.first)
    where
      go : (m : Mark) → take 4 file ≢ mark_bytes m
      go LYN1 = p
      go LYN2 = q
