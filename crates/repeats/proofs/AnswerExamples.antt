-- What is answered for aa, which has one run, and what is left in lent memory, by computation.
use mathlib.Core.Path.{◌≡◌, refl}
use mathlib.Core.List.{List, [], ◌∷◌}
use Prim.Native.Nat.{ℕ}
use Rattle.suffix.specs.Search.{all_below, any_below, tabulate, tabulate_from}
use Rattle.suffix.specs.Order.{lcp, lce}
use Rattle.suffix.specs.Periods.{has_period}
use Rattle.refusal.specs.Numbers.{first_of, unless_refused}
use Rattle.refusal.specs.Answers.{value, refused}
use Rattle.repeats.specs.Runs.{is_run}
use Rattle.repeats.specs.Report.{run_at, runs_from, runs_after, runs}
use Rattle.repeats.specs.Refusals.{Lists, lengths_refusal, runs_refusal}
use Rattle.repeats.specs.Answers.{answer, lists_of, lists_after, work_after}

abbrev aa : List ℕ
aa = 97 ∷ 97 ∷ []

-- three lists of so many entries, each 7
abbrev lists : ℕ → ℕ → ℕ → Lists
lists a b c = record { starts = tabulate a (λ k. 7); ends = tabulate b (λ k. 7); periods = tabulate c (λ k. 7) }

-- two work tables of so many entries, each 5
abbrev work : ℕ → ℕ → List (List ℕ)
work a b = tabulate a (λ k. 5) ∷ tabulate b (λ k. 5) ∷ []

-- 1, 2, 12 and 13 in this order: each with all that come after it, and alone
refusals :
    lengths_refusal 1000001 (0 ∷ []) 0 1 0
    ∷ lengths_refusal 1000001 (1000001 ∷ []) 0 0 0
    ∷ lengths_refusal 1000000 (1000000 ∷ []) 0 0 0
    ∷ runs_refusal aa (work 2 3) (lists 0 1 0)
    ∷ runs_refusal aa (work 1 2) (lists 1 1 1)
    ∷ runs_refusal aa (work 2 2) (lists 0 1 0)
    ∷ runs_refusal aa (work 2 2) (lists 1 1 2)
    ∷ runs_refusal aa (work 2 2) (lists 0 0 0)
    ∷ runs_refusal aa (work 2 2) (lists 1 1 1)
    ∷ runs_refusal [] (work 0 0) (lists 0 0 0)
    ∷ []
    ≡ 1 ∷ 1 ∷ 0 ∷ 2 ∷ 2 ∷ 12 ∷ 12 ∷ 13 ∷ 0 ∷ 0 ∷ []
unfolding runs_refusal lengths_refusal first_of tabulate tabulate_from runs runs_after runs_from run_at is_run has_period all_below any_below lce lcp
refusals = refl

-- the run, and 0 beyond it
lists_written : lists_after aa (work 2 2) (lists 3 3 3) ≡ record { starts = 0 ∷ 0 ∷ 0 ∷ []; ends = 2 ∷ 0 ∷ 0 ∷ []; periods = 1 ∷ 0 ∷ 0 ∷ [] }
unfolding lists_after lists_of unless_refused runs_refusal first_of tabulate tabulate_from runs runs_after runs_from run_at is_run has_period all_below any_below lce lcp
lists_written = refl

-- 12 and 13 leave the lists
lists_left : lists_after aa (work 2 2) (lists 0 0 0) ∷ lists_after aa (work 2 2) (lists 1 1 2) ∷ [] ≡ lists 0 0 0 ∷ lists 1 1 2 ∷ []
unfolding lists_after lists_of unless_refused runs_refusal first_of tabulate tabulate_from runs runs_after runs_from run_at is_run has_period all_below any_below lce lcp
lists_left = refl

-- the work tables after an answer, after 13, and after 12
tables_after :
    work_after aa (work 2 2) (lists 1 1 1) ∷ work_after aa (work 2 2) (lists 0 0 0) ∷ work_after aa (work 2 2) (lists 1 1 2) ∷ []
    ≡ ((0 ∷ 0 ∷ []) ∷ (0 ∷ 0 ∷ []) ∷ []) ∷ ((0 ∷ 0 ∷ []) ∷ (0 ∷ 0 ∷ []) ∷ []) ∷ work 2 2 ∷ []
unfolding work_after runs_refusal first_of tabulate tabulate_from runs runs_after runs_from run_at is_run has_period all_below any_below lce lcp
tables_after = refl

-- their number, or the refusal's
answers : answer aa (work 2 2) (lists 1 1 1) ∷ answer aa (work 2 2) (lists 0 0 0) ∷ [] ≡ value 1 ∷ refused 13 ∷ []
unfolding answer unless_refused runs_refusal first_of tabulate tabulate_from runs runs_after runs_from run_at is_run has_period all_below any_below lce lcp
answers = refl
