-- Document 02, T-01 and T-04, "Turned away": the conditions, and the order in which writer and reader test them.
use Rattle.std.specs.Prelude.{◌≡◌, Bool, not, ◌||◌, List, [], ◌∷◌, ◌++◌, ℕ, ◌+◌, ◌≤◌, ◌<◌, eqb, ltb, length}
use Rattle.suffix.specs.Search.{any_below, tabulate}
use Rattle.refusal.specs.declared.Refusal.TheVariants.{TooLong, TreeLength, PositionOutside, NotMarked, TooManyEntries, WrongContents}
use Rattle.refusal.specs.Numbers.{first_of, number_if}
use Rattle.refusal.specs.Conditions.{too_long, position_outside, flaw_number}
use Rattle.cabinet.specs.File.{contents_end, body_bytes, body_in, count_in, mark_of, count_of, place_of, letters_of, end_before}

-- T-04: "9 now means a file under 8 bytes or with neither mark."
abbrev pub not_marked : List ℕ → Bool
not_marked file = eqb (mark_of file) 0

-- "10 for a count above 64"
abbrev pub too_many_entries : ℕ → Bool
too_many_entries count = ltb 64 count

-- "11 where the contents are cut short, a place isn't the end of what comes before it, bytes are missing or left over at the end, or a letter
-- count passes 1,000,000"
unfoldable pub wrong_contents : List ℕ → Bool
wrong_contents file =
    ltb (length file) (contents_end (count_of file))
    || any_below (count_of file) (λ k. not (eqb (place_of file k) (end_before file k)))
    || not (eqb (length file) (end_before file (count_of file)))
    || any_below (count_of file) (λ k. too_long (letters_of file k))

-- "6 to 8 body by body": the first body with a flaw decides. Of so many bodies in bytes, the first at `first`
unfoldable pub bodies_flaw : List ℕ → ℕ → (ℕ → ℕ) → ℕ → ℕ
bodies_flaw bytes first letters count = first_of (tabulate count (λ k. flaw_number (letters k) (body_in bytes first letters k)))

-- the first flaw among the bodies of a file
abbrev pub file_flaw : List ℕ → ℕ
file_flaw file = bodies_flaw file (contents_end (count_of file)) (letters_of file) (count_of file)

-- "the reader tests 9, 10, 11"
abbrev pub head_numbers : List ℕ → List ℕ
head_numbers file =
    number_if (not_marked file) NotMarked
    ∷ number_if (too_many_entries (count_of file)) TooManyEntries
    ∷ number_if (wrong_contents file) WrongContents
    ∷ []

-- then "5 (entry not below the count), then 6 to 8 body by body"
unfoldable pub read_refusal : List ℕ → ℕ → ℕ
read_refusal file entry = first_of (head_numbers file ++ number_if (position_outside (count_of file) entry) PositionOutside ∷ file_flaw file ∷ [])

-- the same but for the entry: 0 where the file is accepted, also one of no entries
unfoldable pub file_refusal : List ℕ → ℕ
file_refusal file = first_of (head_numbers file ++ file_flaw file ∷ [])

-- "1: n above 1,000,000.", for a letter count
abbrev pub any_too_long : List ℕ → Bool
any_too_long counts = any_below (length counts) (λ k. too_long (count_in counts k))

-- "trees or buffer of the wrong size", of so many bytes each
abbrev pub size_off : List ℕ → (trees_size size : ℕ) → Bool
size_off counts trees_size size =
    let bytes = body_bytes (count_in counts) (length counts) in not (eqb trees_size bytes) || not (eqb size (contents_end (length counts) + bytes))

-- the first flaw among the trees end to end
abbrev pub trees_flaw : List ℕ → List ℕ → ℕ
trees_flaw counts trees = bodies_flaw trees 0 (count_in counts) (length counts)

-- "the writer tests 10, 1, 3 (trees or buffer of the wrong size), then 6 to 8 body by body"
unfoldable pub write_refusal : List ℕ → List ℕ → ℕ → ℕ
write_refusal counts trees size =
    first_of
    (number_if (too_many_entries (length counts)) TooManyEntries
    ∷ number_if (any_too_long counts) TooLong
    ∷ number_if (size_off counts (length trees) size) TreeLength
    ∷ trees_flaw counts trees
    ∷ [])

-- ---- what the private functions ask

-- letter counts that 10 and 1 do not refuse
pub record Allowed (counts : List ℕ) : Type 0 where
  pub few : length counts ≤ 64
  pub short : (k : ℕ) → k < length counts → count_in counts k ≤ 1000000

-- with trees of their size
pub record Fitting (counts trees : List ℕ) : Type 0 where
  pub allowed : Allowed counts
  pub bodies : length trees ≡ body_bytes (count_in counts) (length counts)
