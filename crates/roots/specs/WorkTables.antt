-- Document 02, T-03: the runs of a string, gathered in the work tables that are lent for them.
use Rattle.std.specs.Prelude.{◌≡◌, List, [], ◌∷◌, map, ℕ, length, replicate, Result}
use Rattle.refusal.specs.declared.Refusal.{Refusal}
use Rattle.refusal.specs.declared.Refusal.TheVariants.{TooLong, TableLength}
use Rattle.refusal.specs.Numbers.{first_of, number_if, unless_refused}
use Rattle.refusal.specs.Answers.{figures_of, answered}
use Rattle.refusal.specs.Conditions.{too_long}
use Rattle.repeats.specs.Runs.{Run}
use Rattle.repeats.specs.Report.{runs}
use Rattle.repeats.specs.Refusals.{work_length_off}
use Rattle.repeats.specs.Answers.{lists_of}
use Rattle.roots.specs.declared.WorkTables.{WorkTables}

-- what the six tables hold
abbrev pub work_in : WorkTables → List (List ℕ)
work_in w = w.previous.now ∷ w.next.now ∷ w.previous_match.now ∷ w.next_match.now ∷ w.reverse_next.now ∷ w.reverse_match.now ∷ []

-- the same memory is lent
pub record SameWork (before after : WorkTables) : Type 0 where
  pub previous : after.previous.ghost_name ≡ before.previous.ghost_name
  pub next : after.next.ghost_name ≡ before.next.ghost_name
  pub previous_match : after.previous_match.ghost_name ≡ before.previous_match.ghost_name
  pub next_match : after.next_match.ghost_name ≡ before.next_match.ghost_name
  pub reverse_next : after.reverse_next.ghost_name ≡ before.reverse_next.ghost_name
  pub reverse_match : after.reverse_match.ghost_name ≡ before.reverse_match.ghost_name

-- "Work tables have n entries each, or 2 is returned.": of tables of these lengths, after 1
unfoldable pub work_refusal : ℕ → List ℕ → ℕ
work_refusal n work = first_of (number_if (too_long n) TooLong ∷ number_if (work_length_off n work) TableLength ∷ [])

-- the six tables with the runs l of n letters or symbols: starts, periods and ends in previous, next and previous-match, with 0 beyond, and 0 in the other
-- three. There is room for all: FewerRunsThanLetters in repeats/specs/Claims.antt.
unfoldable pub work_with : List Run → ℕ → List (List ℕ)
work_with l n =
    let found = lists_of l n in
    let none : List ℕ = replicate n 0 in
    found.starts ∷ found.periods ∷ found.ends ∷ none ∷ none ∷ none ∷ []

-- of one and the same call, whatever the string and the lent tables
pub record Gathered (y : List ℕ) (work work_exit : List (List ℕ)) (r : Result ℕ Refusal) : Type 0 where
  pub answers : figures_of r ≡ answered (work_refusal (length y) (map length work)) (length (runs y))
  pub leaves : work_exit ≡ unless_refused (work_refusal (length y) (map length work)) (work_with (runs y) (length y)) work
