-- The longest-word question, refused and not; and the laws that prove specs/Claims.antt.
use mathlib.Core.Path.{◌≡◌, refl, sym, ap, ap₂, ◌∙◌}
use mathlib.Core.Logic.{◌≢◌}
use mathlib.Core.Bool.{Bool, true, false}
use mathlib.Core.List.{List, [], ◌∷◌}
use Prim.Native.Nat.{ℕ, ◌+◌, ◌-◌, ◌*◌, ◌≤◌, ◌<◌}
use native.Mathlib.Nat.{zero-add, zero-mul}
use native.Mathlib.Omega.{arith}
use lib.ListN.{length, take, drop, length-drop, length-map}
use lib.Seq.{length-take-le}
use Rattle.std.proofs.Common.{map}
use Rattle.std.specs.List.{between}
use Rattle.std.proofs.lemmas.List.{nil_from_length, drop-map, get_or-take, get_or-drop}
use Rattle.std.proofs.lemmas.Slice.{between_to_end}
use borrow.Author.Tests.{lt-ltb, le-ltb, le-leb, lt-leb, leb-false, eq-eqb, ne_eqb}
use denote.Ref.{Bor}
use Rattle.suffix.specs.Lyndon.{part, longest_lyndon}
use Rattle.suffix.proofs.Nearest.{next_le}
use Rattle.suffix.proofs.Lyndon.{longest_next}
use Rattle.refusal.specs.Numbers.{lowest, lowest_from}
use Rattle.refusal.specs.Conditions.{too_long, position_outside, word_refusal}
use Rattle.word.specs.Word.{word_part, word_start, WordAnswered}
use Rattle.word.specs.Claims.{WordIsLongest, WordAsItStands, OneByteOrFour}

-- ---- the number

pub too_long_lem : (n i : ℕ) → 1000000 < n → word_refusal n i ≡ 1
unfolding word_refusal lowest lowest_from
too_long_lem n i h = simp (lt-ltb _ _ h)

pub outside : (n i : ℕ) → n ≤ 1000000 → n ≤ i → word_refusal n i ≡ 5
unfolding word_refusal lowest lowest_from
outside n i h g = simp (le-ltb _ _ h, le-leb _ _ g)

pub not_refused : (n i : ℕ) → n ≤ 1000000 → i < n → word_refusal n i ≡ 0
unfolding word_refusal lowest lowest_from
not_refused n i h g = simp (le-ltb _ _ h, lt-leb _ _ g)

-- a position that is not refused is one of the string
pub inside : (n i : ℕ) → word_refusal n i ≡ 0 → i < n
unfolding word_refusal lowest lowest_from
inside n i e = leb-false n i (go (too_long n) (position_outside n i) e)
  where
    go : (long out : Bool) → lowest (long ∷ false ∷ false ∷ false ∷ out ∷ []) ≡ 0 → out ≡ false
    go true out e = absurd (omega arith)
    go false true e = absurd (omega arith)
    go false false e = refl

-- ---- the part

-- the longest Lyndon word at the front of a suffix
longest_from : (y : List ℕ) (i : ℕ) → longest_lyndon (drop i y) 0 ≡ longest_lyndon y i
unfolding longest_lyndon part
longest_from y i = let z : length (drop i y) - 0 ≡ length y - i = omega (arith, length-drop i y) in rw z

module _ {S : Type 0} (letters : List S) (y : List ℕ) (i : ℕ) where
  pub part_taken : word_refusal (length letters) i ≡ 0 → word_part letters y i ≡ take (longest_lyndon y i) (drop i letters)
  unfolding word_part
  part_taken e = rw (eq-eqb _ 0 e, word_part)

  pub part_refused : word_refusal (length letters) i ≢ 0 → word_part letters y i ≡ []
  unfolding word_part
  part_refused e = rw (ne_eqb _ 0 e, word_part)

module _ {S : Type 0} (letters : List S) (i : ℕ) where
  pub start_taken : word_refusal (length letters) i ≡ 0 → word_start letters i ≡ i
  unfolding word_start
  start_taken e = rw (eq-eqb _ 0 e, word_start)

  pub start_refused : word_refusal (length letters) i ≢ 0 → word_start letters i ≡ 0
  unfolding word_start
  start_refused e = rw (ne_eqb _ 0 e, word_start)

-- the longest Lyndon word from a position of the string ends in it
fits : (y : List ℕ) (i : ℕ) → i < length y → longest_lyndon y i ≤ length y - i
fits y i h = omega (arith, longest_next y i h, next_le y i)

-- so the part has as many letters as it
pub taken_length : {S : Type 0} (letters : List S) (y : List ℕ) (i : ℕ) → length y ≡ length letters → word_refusal (length letters) i ≡ 0
    → length (word_part letters y i) ≡ longest_lyndon y i
taken_length letters y i q e =
    let h : i < length y = omega (arith, q, inside (length letters) i e) in
    ap length (part_taken letters y i e) ∙ length-take-le _ _ (omega (arith, q, length-drop i letters, fits y i h))

pub word_is_longest : WordIsLongest
word_is_longest letters y i q e =
    let h : i < length y = omega (arith, q, inside (length letters) i e) in
    let z = taken_length letters y i q e in
    (omega (arith, z, longest_next y i h), z)

pub word_as_it_stands : WordAsItStands
word_as_it_stands letters y i k e h =
    let n = longest_lyndon y i in
    rw (part_taken letters y i e) (get_or-take n (drop i letters) k 0 h ∙ get_or-drop i letters k 0)

pub one_byte_or_four : OneByteOrFour
one_byte_or_four = (refl, refl)

-- ---- the answer

-- where it is refused
module _ {S : Type 0} {bytes : ℕ} (string : Bor (List S)) (y : List ℕ) (i : ℕ) where
  module _ {word : Bor (List S)} (empty : length word.now ≡ 0) (block : word.ref_ptr.0 ≡ string.ref_ptr.0) (place : word.ref_ptr.1 ≡ string.ref_ptr.1) where
    refused : {number : ℕ} → number ≡ word_refusal (length string.now) i → number ≢ 0 → WordAnswered bytes string y i number word
    refused e d =
        let g : word_refusal (length string.now) i ≢ 0 = λ q. d (e ∙ q) in
        record { refusal = e; part = nil_from_length word.now empty ∙ sym (part_refused string.now y i g); own = ap₂ (λ b p. (b, p)) block place ∙ rw (start_refused string.now i g, zero-mul, zero-add) refl }

    pub refused_long : 1000000 < length string.now → WordAnswered bytes string y i 1 word
    refused_long h = refused (sym (too_long_lem (length string.now) i h)) (omega arith)

    pub refused_outside : length string.now ≤ 1000000 → length string.now ≤ i → WordAnswered bytes string y i 5 word
    refused_outside h g = refused (sym (outside (length string.now) i h g)) (omega arith)

-- at a position of the string, where the search finds k in the suffix
module _ {S : Type 0} (rank : S → ℕ) (string : Bor (List S)) (i : ℕ) (few : length string.now ≤ 1000000) (h : i < length string.now) where
  abbrev suffix : List S
  suffix = between i (length string.now) string.now

  module _ {k : ℕ} (found : k ≡ longest_lyndon (map rank suffix) 0) where
    from : k ≡ longest_lyndon (map rank string.now) i
    from = rw (between_to_end string.now i (length string.now) (omega arith), ← drop-map rank i string.now) at found ∙ longest_from (map rank string.now) i

    pub within : k ≡ length (take k suffix)
    within =
        let n = length-map string.now rank in
        rw (between_to_end string.now i (length string.now) (omega arith))
        (sym (length-take-le _ _ (omega (arith, length-drop i string.now, n, from, fits (map rank string.now) i (omega (arith, n))))))

    pub taken : {bytes : ℕ} {word : Bor (List S)} → word.ref_ptr ≡ (string.ref_ptr.0, i * bytes + string.ref_ptr.1) → word.now ≡ take k suffix
        → WordAnswered bytes string (map rank string.now) i 0 word
    taken own now =
        let e = not_refused (length string.now) i few h in
        record {
          refusal = sym e;
          part = now ∙ rw (between_to_end string.now i (length string.now) (omega arith), from) (sym (part_taken string.now (map rank string.now) i e));
          own = rw (start_taken string.now i e) own;
        }
