-- What the contracts of the functions that write the lists are written with.
use Rattle.std.specs.Prelude.{◌≡◌, true, false, List, ℕ, ◌≤◌, ◌<◌, ltb, length, get_or, Result}
use Rattle.suffix.specs.Search.{tabulate}
use Rattle.refusal.specs.declared.Refusal.{Refusal}
use Rattle.refusal.specs.declared.Refusal.TheVariants.{TooManyRuns}
use Rattle.refusal.specs.Numbers.{number_if, unless_refused}
use Rattle.refusal.specs.Answers.{figures_of, answered}
use Rattle.repeats.specs.Refusals.{Lists, lists}
use Rattle.runs.specs.declared.Lists as declared

-- what the three lists hold
abbrev pub lists_in : declared.Lists → Lists
lists_in l = lists l.starts.now l.ends.now l.periods.now

-- the same memory is lent
pub record SameLists (before after : declared.Lists) : Type 0 where
  pub starts : after.starts.ghost_name ≡ before.starts.ghost_name
  pub ends : after.ends.ghost_name ≡ before.ends.ghost_name
  pub periods : after.periods.ghost_name ≡ before.periods.ghost_name

-- the first c entries, and 0 from there on
unfoldable pub cut_at : ℕ → List ℕ → ℕ → ℕ
cut_at c t k = elim (ltb k c) [ true ↦ get_or t k 0 | false ↦ 0 ]

-- the first c entries of three tables, in lists of so many entries
abbrev pub cut : ℕ → Lists → ℕ → Lists
cut c t size = lists (tabulate size (cut_at c t.starts)) (tabulate size (cut_at c t.ends)) (tabulate size (cut_at c t.periods))

-- 13 for so many runs in lists of so many entries, or 0
abbrev pub room_refusal : (count size : ℕ) → ℕ
room_refusal count size = number_if (ltb size count) TooManyRuns

-- the first c entries are written to the lists, unless they are too many
pub record Written (c : ℕ) (tables before after : Lists) (r : Result ℕ Refusal) : Type 0 where
  pub answers : figures_of r ≡ answered (room_refusal c (length before.starts)) c
  pub leaves : after ≡ unless_refused (room_refusal c (length before.starts)) (cut c tables (length before.starts)) before

-- a table has c entries, and 0 beyond them
pub record Ended (c : ℕ) (t : List ℕ) : Type 0 where
  pub room : c ≤ length t
  pub beyond : (k : ℕ) → c ≤ k → k < length t → get_or t k 0 ≡ 0

-- each of three tables has c entries
pub record HasRoom (c : ℕ) (t : Lists) : Type 0 where
  pub starts : c ≤ length t.starts
  pub ends : c ≤ length t.ends
  pub periods : c ≤ length t.periods
