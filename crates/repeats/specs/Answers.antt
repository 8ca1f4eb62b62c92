-- Document 02, T-03: what the report answers, and what it leaves in lent memory.
use Rattle.std.specs.Prelude.{true, false, ◌||◌, List, map, ℕ, eqb, length, get_or, replicate}
use Rattle.suffix.specs.Search.{tabulate}
use Rattle.refusal.specs.Numbers.{unless_refused}
use Rattle.refusal.specs.Answers.{Figures, answered}
use Rattle.repeats.specs.Runs.{Run, no_run}
use Rattle.repeats.specs.Report.{runs}
use Rattle.repeats.specs.Refusals.{Lists, runs_refusal}

-- it "returns their number"
unfoldable pub answer : List ℕ → List (List ℕ) → Lists → Figures
answer y work lists = answered (runs_refusal y work lists) (length (runs y))

-- entry k of three lists is run k; "Entries beyond the number are 0."
abbrev pub entry_of : List Run → ℕ → Run
entry_of l k = get_or l k no_run

unfoldable pub lists_of : List Run → ℕ → Lists
lists_of l size =
    record {
      starts = tabulate size (λ k. (entry_of l k).start);
      ends = tabulate size (λ k. (entry_of l k).end);
      periods = tabulate size (λ k. (entry_of l k).period);
    }

-- the lists at exit: a refusal leaves them
unfoldable pub lists_after : List ℕ → List (List ℕ) → Lists → Lists
lists_after y work lists = unless_refused (runs_refusal y work lists) (lists_of (runs y) (length lists.starts)) lists

-- the work tables at exit: "They hold 0 afterwards, also after 13, the one refusal that writes them"
abbrev pub zeros : List ℕ → List ℕ
zeros table = replicate (length table) 0

unfoldable pub work_after : List ℕ → List (List ℕ) → Lists → List (List ℕ)
work_after y work lists =
    let number = runs_refusal y work lists in elim (eqb number 0 || eqb number 13) [ true ↦ map zeros work | false ↦ work ]
