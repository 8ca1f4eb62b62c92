-- Three tables as a list of runs.
use Rattle.std.specs.Prelude.{◌≡◌, List, [], ◌∷◌, ℕ, zero, suc, ◌<◌, length, get_or, set}
use Rattle.std.specs.Borrow.{MutBor}
use Rattle.repeats.specs.Runs.{Run}
use Rattle.repeats.specs.Refusals.{Lists}
use Rattle.run_list.specs.declared.Run as declared
use Rattle.run_list.specs.declared.RunList.{RunList}

abbrev pub run_of : declared.Run → Run
run_of r = record { start = r.start; end = r.end; period = r.period }

-- what the three tables of a list hold
abbrev pub tables : RunList → Lists
tables l = record { starts = l.starts.now; ends = l.ends.now; periods = l.periods.now }

-- one and the same lent slice, whatever it holds
pub record SameSlice (was is : MutBor (List ℕ)) : Type 0 where
  pub name : is.ghost_name ≡ was.ghost_name
  pub size : length is.now ≡ length was.now

-- the tables of one list are those of the other
pub record SameTables (was is : RunList) : Type 0 where
  pub starts : SameSlice was.starts is.starts
  pub ends : SameSlice was.ends is.ends
  pub periods : SameSlice was.periods is.periods

-- entry k of three tables
abbrev pub entry_in : Lists → ℕ → Run
entry_in t k = record { start = get_or t.starts k 0; end = get_or t.ends k 0; period = get_or t.periods k 0 }

-- c entries from i on
unfoldable pub entries_from : Lists → (i c : ℕ) → List Run
entries_from t i zero = []
entries_from t i (suc c) = entry_in t i ∷ entries_from t (suc i) c

abbrev pub entries : Lists → ℕ → List Run
entries t c = entries_from t 0 c

abbrev pub stored : Lists → ℕ → Run → Lists
stored t k r = record { starts = set t.starts k r.start; ends = set t.ends k r.end; periods = set t.periods k r.period }

-- each of the three has an entry k
pub record Has (t : Lists) (k : ℕ) : Type 0 where
  pub starts : k < length t.starts
  pub ends : k < length t.ends
  pub periods : k < length t.periods
