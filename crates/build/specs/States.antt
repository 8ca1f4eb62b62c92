-- What the contracts of the private functions are written with: the code's values as those of the reuse steps.
use Rattle.std.specs.Prelude.{◌≡◌, Bool, true, false, List, ℕ, ◌+◌, ◌-◌, ◌≤◌, ◌<◌, ltb, length}
use Rattle.suffix.specs.Rows.{Tables}
use Rattle.reuse.specs.Steps.{Progress, BuildState, ScanReport, SettledPair, scan, settle}
use Rattle.build.specs.declared.State.{State}
use Rattle.build.specs.declared.ScanReport as declared_report
use Rattle.build.specs.declared.SettledPair as declared
use Rattle.outcome.specs.declared.Report.{Report}

abbrev pub progress_of : State → Progress
progress_of s = record { reach = s.reach; shift = s.shift; equal = s.equal; unequal = s.unequal }

-- the figures that a build reports
abbrev pub figures_in : State → Report
figures_in s = record { rows = s.rows; equal = s.equal; unequal = s.unequal; reach = s.reach }

abbrev pub report_of : declared_report.ScanReport → ScanReport
report_of u = record { match = u.matched; left_smaller = u.left_smaller; equal = u.equal; unequal = u.unequal }

abbrev pub pair_of : declared.SettledPair → SettledPair
pair_of u = record { progress = progress_of u.state; match = u.matched; left_smaller = u.left_smaller }

-- what a scan reports that stops at these ranks, which are unequal
abbrev pub unequal_at : (a b m equal unequal : ℕ) → ScanReport
unequal_at a b m equal unequal = record { match = m; left_smaller = ltb a b; equal = equal; unequal = unequal + 1 }

-- what a scan reports that comes to the end with match m
abbrev pub at_end : (m equal unequal : ℕ) → ScanReport
at_end m equal unequal = record { match = m; left_smaller = false; equal = equal; unequal = unequal }

-- what a scan of (l, r) from m reports
pub record Scanned (y : List ℕ) (l r m equal unequal : ℕ) (u : ScanReport) : Type 0 where
  pub reports : u ≡ scan y l r m (length y - (r + m)) equal unequal
  pub fits : r + u.match ≤ length y

abbrev pub build_state : State → Tables → BuildState
build_state s t = record { progress = progress_of s; tables = t }

-- what is asked where (l, r) is settled from m, in a string of n letters: each place is in the string, and the counts fit
pub record Safe (n : ℕ) (s : Progress) (l r m : ℕ) : Type 0 where
  pub before : l < r
  pub small : r < n
  pub fits : r + m ≤ n
  pub top : s.reach ≤ n
  pub shift : r + m < s.reach → s.shift ≤ l
  pub shifted : r + m < s.reach → 0 < s.shift
  pub equal : s.equal < n
  pub unequal : s.unequal ≤ n + n

-- (l, r) is settled from m; or it is known that it has match m and that the suffix at r is the smaller
abbrev pub settled_from : Bool → List ℕ → Progress → Tables → ℕ → ℕ → ℕ → SettledPair
settled_from true y s t l r m = record { progress = s; match = m; left_smaller = false }
settled_from false y s t l r m = settle y s t l r m
