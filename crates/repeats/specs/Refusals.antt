-- Document 02, T-03, "Turned away": the conditions, and the order in which they are tested.
use Rattle.std.specs.Prelude.{Bool, false, not, ◌||◌, List, [], ◌∷◌, ◌++◌, map, ℕ, eqb, ltb, length}
use Rattle.refusal.specs.declared.Refusal.TheVariants.{TooLong, TableLength, ListLengths, TooManyRuns}
use Rattle.refusal.specs.Numbers.{first_of, number_if}
use Rattle.refusal.specs.Conditions.{too_long, table_length_off}
use Rattle.repeats.specs.Report.{runs}

-- "three lent 32-bit lists"
pub record Lists : Type 0 where
  pub starts : List ℕ
  pub ends : List ℕ
  pub periods : List ℕ

abbrev pub lists : List ℕ → List ℕ → List ℕ → Lists
lists starts ends periods = record { starts = starts; ends = ends; periods = periods }

-- "Work tables have n entries each, or 2 is returned.": of work tables of these lengths
abbrev pub work_length_off : ℕ → List ℕ → Bool
work_length_off n [] = false
work_length_off n (lent ∷ work) = table_length_off n lent || work_length_off n work

-- "12 where the three lists differ in length"
abbrev pub list_lengths_differ : (starts ends periods : ℕ) → Bool
list_lengths_differ starts ends periods = not (eqb ends starts) || not (eqb periods starts)

-- "13 exactly where there are more runs than entries"
abbrev pub too_many_runs : List ℕ → ℕ → Bool
too_many_runs y entries = ltb entries (length (runs y))

-- "the order is 1, 2, 12, 13": the first three go by lengths
abbrev pub length_numbers : ℕ → List ℕ → (starts ends periods : ℕ) → List ℕ
length_numbers n work starts ends periods =
    number_if (too_long n) TooLong ∷ number_if (work_length_off n work) TableLength ∷ number_if (list_lengths_differ starts ends periods) ListLengths ∷ []

-- 1, 2 or 12, else 0
unfoldable pub lengths_refusal : ℕ → List ℕ → (starts ends periods : ℕ) → ℕ
lengths_refusal n work starts ends periods = first_of (length_numbers n work starts ends periods)

unfoldable pub runs_refusal : List ℕ → List (List ℕ) → Lists → ℕ
runs_refusal y work lists =
    let size = length lists.starts in
    first_of
    (length_numbers (length y) (map length work) size (length lists.ends) (length lists.periods)
    ++ number_if (too_many_runs y size) TooManyRuns
    ∷ [])
