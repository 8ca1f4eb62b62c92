-- What is claimed of a list of runs in three tables. Each claim is a type; the law of its name, in small letters with `_`, proves it in
-- proofs/Laws.antt.
use Rattle.std.specs.Prelude.{◌≡◌, ◌≢◌, ◌⊎◌, ℕ, ◌<◌, get_or}
use Rattle.repeats.specs.Runs.{Run}
use Rattle.repeats.specs.Report.{Before}
use Rattle.repeats.specs.Gathered.{put}
use Rattle.repeats.specs.Refusals.{Lists}
use Rattle.run_list.specs.Entries.{entry_in, entries, Has}
use Rattle.run_list.specs.Inserted.{Inserted}

-- the first c entries are in order, and r, which is not among them, has a place there
pub record Insertable (t : Lists) (c : ℕ) (r : Run) : Type 0 where
  pub ordered : (i k : ℕ) → i < k → k < c → Before (entry_in t i) (entry_in t k)
  pub fresh : (k : ℕ) → k < c → Before r (entry_in t k) ⊎ Before (entry_in t k) r

-- r is put into the first c entries, which are then d, and the periods behind them are as they were
pub record Put (c : ℕ) (r : Run) (was is : Lists) (d : ℕ) : Type 0 where
  pub holds : entries is d ≡ put r (entries was c)
  pub keeps : (k : ℕ) → c < k → get_or is.periods k 0 ≡ get_or was.periods k 0

-- entries in order stay in order
abbrev pub OrderIsKept : Type 0
OrderIsKept =
    (c : ℕ) (r : Run) (t u : Lists) (d : ℕ) → Has t c → (r.period ≢ 0 → Insertable t c r) → Inserted c r t u d → Put c r t u d
