-- A run is put into three tables whose first c entries are in use: what they hold then, and how many are in use, whatever they held.
use Rattle.std.specs.Prelude.{◌≡◌, Bool, true, false, not, ◌&&◌, ℕ, zero, suc, eqb, ltb, length}
use Rattle.repeats.specs.Runs.{Run}
use Rattle.repeats.specs.Report.{before}
use Rattle.repeats.specs.Refusals.{Lists}
use Rattle.run_list.specs.Entries.{entry_in, stored}

-- r is a run, as none has period 0, and each of the three has an entry c for one more
unfoldable pub is_taken : Lists → ℕ → Run → Bool
is_taken t c r = not (eqb r.period 0) && (ltb c (length t.starts) && (ltb c (length t.ends) && ltb c (length t.periods)))

-- r put at place j or below: while it comes before the entry before its place, that entry moves up to the place; there r is stored
unfoldable pub placed : ℕ → Lists → Run → Lists
placed zero t r = stored t 0 r
placed (suc j) t r = elim (before r (entry_in t j)) [ true ↦ placed j (stored t (suc j) (entry_in t j)) r | false ↦ stored t (suc j) r ]

-- what is not taken changes nothing
unfoldable pub lists_with : ℕ → Lists → Run → Lists
lists_with c t r = elim (is_taken t c r) [ true ↦ placed c t r | false ↦ t ]

unfoldable pub count_with : ℕ → Lists → Run → ℕ
count_with c t r = elim (is_taken t c r) [ true ↦ suc c | false ↦ c ]

-- of one and the same call, whatever the tables, their lengths and the count
pub record Inserted (c : ℕ) (r : Run) (was is : Lists) (d : ℕ) : Type 0 where
  pub leaves : is ≡ lists_with c was r
  pub answers : d ≡ count_with c was r
