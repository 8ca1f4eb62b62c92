-- Document 02, T-03: "The report lists every run of a string once, by start and then by period"
use Rattle.std.specs.Prelude.{◌≡◌, Bool, true, false, ◌&&◌, ◌||◌, ℕ, zero, suc, ◌+◌, ◌<◌, eqb, ltb, length}
use mathlib.Core.List.{List, [], ◌∷◌, ◌++◌, Memᴰ}
use Rattle.suffix.specs.Order.{lce}
use Rattle.repeats.specs.Runs.{Run, IsRun, is_run}

-- "by start and then by period"
pub data Before (r q : Run) : Type 0 where
  earlier : r.start < q.start → Before r q
  shorter : r.start ≡ q.start → r.period < q.period → Before r q

-- the same as a test (TestTellsOrder in Claims.antt)
unfoldable pub before : Run → Run → Bool
before r q = ltb r.start q.start || (eqb r.start q.start && ltb r.period q.period)

-- each is before all that follow it, so none is there twice
pub data Ordered : List Run → Type 0 where
  none : Ordered []
  then : {r : Run} {l : List Run} → ((q : Run) → Memᴰ q l → Before r q) → Ordered l → Ordered (r ∷ l)

-- l lists the runs of y, and nothing else, in order
pub record ListsRuns (y : List ℕ) (l : List Run) : Type 0 where
  pub runs_only : (r : Run) → Memᴰ r l → IsRun y r
  pub every : (r : Run) → IsRun y r → Memᴰ r l
  pub ordered : Ordered l

-- ---- the list that does: the report (ReportIsExact in Claims.antt)

-- the run from s with period p, where there is one: the letters p apart are equal as far as match(s, s + p) goes
unfoldable pub run_at : List ℕ → (s p : ℕ) → Run
run_at y s p = record { start = s; end = s + p + lce y s (s + p); period = p }

-- the runs from s, for t periods from p on
unfoldable pub runs_from : List ℕ → (s p t : ℕ) → List Run
runs_from y s p zero = []
runs_from y s p (suc t) = elim (is_run y (run_at y s p)) [ true ↦ run_at y s p ∷ runs_from y s (suc p) t | false ↦ runs_from y s (suc p) t ]

-- the runs from s, from s + 1 and so on, for t starts
unfoldable pub runs_after : List ℕ → (s t : ℕ) → List Run
runs_after y s zero = []
runs_after y s (suc t) = runs_from y s 1 (length y) ++ runs_after y (suc s) t

unfoldable pub runs : List ℕ → List Run
runs y = runs_after y 0 (length y)
