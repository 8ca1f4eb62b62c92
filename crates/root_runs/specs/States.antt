-- What the contracts of `report_of` and of the private functions are written with.
use Rattle.std.specs.Prelude.{Bool, if◌then◌else◌, Option, Some, None, List, ℕ, ◌+◌, ◌≤◌, ◌<◌}
use Rattle.repeats.specs.Runs.{Run, no_run}
use Rattle.repeats.specs.Roots.{accepts, reports}
use Rattle.run_list.specs.declared.Run as declared
use Rattle.run_list.specs.Entries.{run_of}

-- a place i with next j and next-match m, in a string of n letters
pub record Within (n i j m : ℕ) : Type 0 where
  pub after : i < j
  pub fits : j + m ≤ n

-- the run that place i reports, if it reports one
abbrev pub accepted : List ℕ → (reverse : Bool) → (i j m : ℕ) → Option Run
accepted y reverse i j m = if accepts y reverse i j m then Some (reports y i j m) else None

-- a run, or no_run
abbrev pub run_in : Option declared.Run → Run
run_in None = no_run
run_in (Some r) = run_of r
