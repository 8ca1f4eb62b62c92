-- Document 01, "The tree", last line, and "Who can cause which refusal": the longest-word question, put to letters at position i; and document 02, T-07,
-- put to symbols: "1 to 5 read symbols for letters."
use Rattle.std.specs.Prelude.{◌≡◌, true, false, List, [], ℕ, ◌+◌, ◌*◌, eqb, length, take, drop, Result, Ok, Err}
use Rattle.std.specs.Borrow.{Bor}
use Rattle.suffix.specs.Lyndon.{longest_lyndon}
use Rattle.refusal.specs.Numbers.{number_of}
use Rattle.refusal.specs.Conditions.{word_refusal}
use Rattle.word.specs.declared.Refused.{Refused}

-- "The longest-word question takes a string and a position and returns that part of the caller's string itself": its letters or symbols as they
-- stand, of which their ranks y tell the number alone; refused, it "returns the empty part"
unfoldable pub word_part : {S : Type 0} → List S → (y : List ℕ) → ℕ → List S
word_part letters y i = elim (eqb (word_refusal (length letters) i) 0) [ true ↦ take (longest_lyndon y i) (drop i letters) | false ↦ [] ]

-- where the part starts: at the position; refused, "at the string's start"
unfoldable pub word_start : {S : Type 0} → List S → ℕ → ℕ
word_start letters i = elim (eqb (word_refusal (length letters) i) 0) [ true ↦ i | false ↦ 0 ]

-- The answer: the number, 0 for none; the part's letters or symbols; and that the part is "of the caller's string itself": its pointer, a block and
-- a place in it, is that of the string, moved on to where the part starts, by so many bytes for each of them.
pub record WordAnswered {S : Type 0} (bytes : ℕ) (letters : Bor (List S)) (y : List ℕ) (i number : ℕ) (word : Bor (List S)) : Type 0 where
  pub refusal : number ≡ word_refusal (length letters.now) i
  pub part : word.now ≡ word_part letters.now y i
  pub own : word.ref_ptr ≡ (letters.ref_ptr.0, word_start letters.now i * bytes + letters.ref_ptr.1)

-- what an answer holds: the number, and the part, which it hands out refused too
abbrev pub number_in : {S : Type 0} → Result (Bor (List S)) (Refused S) → ℕ
number_in (Ok part) = 0
number_in (Err refused) = number_of refused.refusal

abbrev pub part_in : {S : Type 0} → Result (Bor (List S)) (Refused S) → Bor (List S)
part_in (Ok part) = part
part_in (Err refused) = refused.part
