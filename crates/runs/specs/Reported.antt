-- Document 02, T-03: what the report answers, and what it leaves in the memory that is lent to it.
use Rattle.std.specs.Prelude.{◌≡◌, List, [], ◌∷◌, ℕ}
use Rattle.refusal.specs.Answers.{Figures}
use Rattle.repeats.specs.Refusals.{Lists}
use Rattle.repeats.specs.Answers.{answer, lists_after, work_after}

-- the six work tables
abbrev pub work_of : (previous next previous_match next_match reverse_next reverse_match : List ℕ) → List (List ℕ)
work_of previous next previous_match next_match reverse_next reverse_match = previous ∷ next ∷ previous_match ∷ next_match ∷ reverse_next ∷ reverse_match ∷ []

-- of one and the same call, whatever the string and the lent memory
pub record Reported (y : List ℕ) (work : List (List ℕ)) (lists : Lists) (work_exit : List (List ℕ)) (lists_exit : Lists) (figures : Figures) : Type 0 where
  pub answers : figures ≡ answer y work lists
  pub leaves_lists : lists_exit ≡ lists_after y work lists
  pub leaves_work : work_exit ≡ work_after y work lists
