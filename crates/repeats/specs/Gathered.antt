-- What the places of a string report under the two orders, put in order one after the other: the report again (RootsLeadToRuns in
-- Claims.antt).
use Rattle.std.specs.Prelude.{true, false, List, [], ◌∷◌, ℕ, zero, suc, eqb}
use Rattle.suffix.specs.Nearest.{next, next_match}
use Rattle.ranks.specs.Ranks.{oriented_from}
use Rattle.repeats.specs.Runs.{Run, no_run}
use Rattle.repeats.specs.Report.{before}
use Rattle.repeats.specs.Roots.{accepts, reports}

-- What place i reports, or no_run; j, m are its next and next-match under the order, k, l those under the reverse. No place reports under
-- both.
unfoldable pub report_of : List ℕ → (i j m k l : ℕ) → Run
report_of y i j m k l =
    elim (accepts y false i j m) [ true ↦ reports y i j m | false ↦ elim (accepts y true i k l) [ true ↦ reports y i k l | false ↦ no_run ] ]

unfoldable pub report_at : ℕ → List ℕ → ℕ → Run
report_at top y i = let z = oriented_from top true y in report_of y i (next y i) (next_match y i) (next z i) (next_match z i)

unfoldable pub insert : Run → List Run → List Run
insert r [] = r ∷ []
insert r (q ∷ l) = elim (before r q) [ true ↦ r ∷ q ∷ l | false ↦ q ∷ insert r l ]

-- a report put in, if there is one: no run has period 0
unfoldable pub put : Run → List Run → List Run
put r l = elim (eqb r.period 0) [ true ↦ l | false ↦ insert r l ]

-- the reports of the places below i
unfoldable pub gathered : ℕ → List ℕ → ℕ → List Run
gathered top y zero = []
gathered top y (suc i) = put (report_at top y i) (gathered top y i)
