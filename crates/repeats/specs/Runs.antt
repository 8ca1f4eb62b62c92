-- Document 02, T-03: what a run is. y is the ranks of the letters, n is length y.
use Rattle.std.specs.Prelude.{Bool, not, ◌&&◌, List, ℕ, suc, ◌-◌, ◌*◌, ◌≤◌, ◌<◌, ltb, leb, length}
use Rattle.suffix.specs.Search.{any_below}
use Rattle.suffix.specs.Periods.{HasPeriod, has_period}

-- "A run is a start, an end (exclusive) and a period"
pub record Run : Type 0 where
  pub start : ℕ
  pub end : ℕ
  pub period : ℕ

-- the runs of y are those of which this holds
pub record IsRun (y : List ℕ) (r : Run) : Type 0 where
  pub inside : r.end ≤ length y
  -- "a period p ≥ 1"
  pub positive : 1 ≤ r.period
  -- "with length at least 2 × p"
  pub long : 2 * r.period ≤ r.end - r.start
  -- "Letters p apart inside it are equal"
  pub repeats : HasPeriod y r.start r.end r.period
  -- "p is its least period"
  pub least : (q : ℕ) → 1 ≤ q → HasPeriod y r.start r.end q → r.period ≤ q
  -- "neither end can be moved out by one letter with p kept"
  pub start_stays : 0 < r.start → HasPeriod y (r.start - 1) r.end r.period → ⊥
  pub end_stays : r.end < length y → HasPeriod y r.start (suc r.end) r.period → ⊥

-- the same as a test (TestsTellRuns in Claims.antt)
unfoldable pub is_run : List ℕ → Run → Bool
is_run y r =
    let s = r.start in
    let e = r.end in
    let p = r.period in
    leb e (length y)
    && (leb 1 p
    && (leb (2 * p) (e - s)
    && (has_period y s e p
    && (not (any_below (p - 1) (λ q. has_period y s e (suc q)))
    && (not (ltb 0 s && has_period y (s - 1) e p) && not (ltb e (length y) && has_period y s (suc e) p))))))

-- three times 0, which is no run
abbrev pub no_run : Run
no_run = record { start = 0; end = 0; period = 0 }
