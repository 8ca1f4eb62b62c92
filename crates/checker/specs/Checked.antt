-- Document 02, T-06: "Given the string and a claimed next table, say 'right' exactly if every entry is the defined one, else give the least
-- position whose entry is wrong." The string is y, a list of ranks, and n is length y.
use Rattle.std.specs.Prelude.{◌≡◌, Bool, true, false, not, ◌||◌, List, [], ◌∷◌, ℕ, eqb, length, get_or, Option, Some, None, Result, Ok, Err}
use Rattle.suffix.specs.Search.{least_from}
use Rattle.suffix.specs.Nearest.{next}
use Rattle.suffix.specs.Rows.{Tables, tables_after}
use Rattle.refusal.specs.declared.Refusal.{Refusal}
use Rattle.refusal.specs.declared.Refusal.TheVariants.{TooLong, TableLength}
use Rattle.refusal.specs.Numbers.{number_of, first_of, number_if, unless_refused}
use Rattle.refusal.specs.Conditions.{too_long, table_length_off, a_table_length_off}

-- "whose entry is wrong": it is not the defined one
unfoldable pub is_wrong : (y claimed : List ℕ) → ℕ → Bool
is_wrong y claimed i = not (eqb (get_or claimed i 0) (next y i))

-- "the least position whose entry is wrong", or n where no entry is
unfoldable pub least_wrong : (y claimed : List ℕ) → ℕ
least_wrong y claimed = least_from 0 (length y) (is_wrong y claimed) (length y)

pub data Finding : Type 0 where
  right : Finding
  wrong_at : (position : ℕ) → Finding
  refused : (number : ℕ) → Finding

abbrev pub finding_of : Result (Option ℕ) Refusal → Finding
finding_of (Ok None) = right
finding_of (Ok (Some i)) = wrong_at i
finding_of (Err k) = refused (number_of k)

-- what is found where i of n positions is the least that is wrong, or i is n
unfoldable pub found_at : (n i : ℕ) → Finding
found_at n i = elim (eqb i n) [ true ↦ right | false ↦ wrong_at i ]

-- "Turned away: nothing further; the order is 1, then 2 for the claimed table or a work table.": the refusal, or 0
unfoldable pub check_refusal : (y claimed : List ℕ) → Tables → ℕ
check_refusal y claimed work =
    let n = length y in
    let work_off = a_table_length_off n (length work.previous) (length work.next) (length work.previous_match) (length work.next_match) in
    first_of (number_if (too_long n) TooLong ∷ number_if (table_length_off n (length claimed) || work_off) TableLength ∷ [])

-- the answer
unfoldable pub finding : (y claimed : List ℕ) → Tables → Finding
finding y claimed work = let number = check_refusal y claimed work in unless_refused number (found_at (length y) (least_wrong y claimed)) (refused number)

-- "Four work tables hold what a finished build leaves in its four, whichever the answer."; refused, they are as they were
unfoldable pub work_at_exit : (y claimed : List ℕ) → Tables → Tables
work_at_exit y claimed work = unless_refused (check_refusal y claimed work) (tables_after y (length y)) work

-- Of one and the same check with this finding, whatever the string, the claimed table and the work tables. "The checker must not write into the
-- claimed table": it is lent for reading, so it has no state at exit.
pub record CheckedExactly (y claimed : List ℕ) (before after : Tables) (found : Finding) : Type 0 where
  pub answers : found ≡ finding y claimed before
  pub leaves : after ≡ work_at_exit y claimed before
