-- What is claimed of the reuse steps. Each claim is a type; the law of its name, in small letters with `_`, proves it in proofs/Laws.antt.
use Rattle.std.specs.Prelude.{◌≡◌, ◌⊎◌, List, ℕ, ◌+◌, ◌-◌, ◌*◌, ◌≤◌, ◌<◌, length, get_or}
use Rattle.suffix.specs.Rows.{Tables, tables_after, reach}
use Rattle.reuse.specs.Steps.{Progress, asked, ended, advances, row_start, row, after_rows, equal_comparisons, unequal_comparisons, comparisons}

-- how far R rows reach, and what they may cost
pub record Bounded (y : List ℕ) (R : ℕ) : Type 0 where
  -- demand 3: "Reach never passes n"
  pub within : reach y R ≤ length y
  -- T-02: "with R ≥ 1 rows done, equal ones are at most reach less one, unequal ones at most twice (R less one)."
  pub equal : 0 < R → equal_comparisons y R ≤ reach y R - 1
  pub unequal : 0 < R → unequal_comparisons y R ≤ 2 * (R - 1)
  -- demand 3: "these comparisons are at most 2 (R - 1) + (reach - 1)", "so a whole build takes at most 3 (n - 1)."
  pub bound : 0 < R → comparisons y R ≤ 2 * (R - 1) + (reach y R - 1)
  pub whole : 0 < R → R ≡ length y → comparisons y R ≤ 3 * (length y - 1)

-- What the steps leave after R rows: the tables and the reach of the definitions; and what that may cost. The steps do not speak of
-- the tree, nor does this.
pub record Exact (y : List ℕ) (R : ℕ) : Type 0 where
  pub tables : (after_rows y R).tables ≡ tables_after y R
  pub reached : (after_rows y R).progress.reach ≡ reach y R
  pub bounded : Bounded y R
  -- document 01: "For R = 0 comparisons and reach are 0."
  pub at_zero : R ≡ 0 → (equal_comparisons y R ≡ 0) × (unequal_comparisons y R ≡ 0) × (reach y R ≡ 0)

-- "These entries .. are the definitions that demand 3 means": whatever the letters and whatever R
abbrev pub StepsAreExact : Type 0
StepsAreExact = (y : List ℕ) (R : ℕ) → R ≤ length y → Exact y R

-- (l, r) is recorded in these tables
abbrev pub Recorded : Tables → ℕ → ℕ → Type 0
Recorded t l r = (get_or t.next l 0 ≡ r) ⊎ (get_or t.previous r 0 ≡ l)

-- these tables hold the same of (l, r)
pub record HoldTheSame (t u : Tables) (l r : ℕ) : Type 0 where
  pub next : get_or t.next l 0 ≡ get_or u.next l 0
  pub next_match : get_or t.next_match l 0 ≡ get_or u.next_match l 0
  pub previous : get_or t.previous r 0 ≡ get_or u.previous r 0
  pub previous_match : get_or t.previous_match r 0 ≡ get_or u.previous_match r 0

-- Step 2 in row r, at (l, r) with the tables t: "take l − d and r − d. Their pair is recorded: next[l − d] = r − d, or else
-- previous[r − d] = l − d." "'Recorded' means written by these steps themselves in an earlier row.": it is so in the tables that
-- row r began with, and t, which row r may have written to, holds the same of that pair. A shift d is in use, and l - d does not
-- fall below 0.
pub record RecordedBefore (y : List ℕ) (r : ℕ) (s : Progress) (t : Tables) (l : ℕ) : Type 0 where
  pub in_use : 0 < s.shift
  pub inside : s.shift ≤ l
  pub recorded : Recorded (after_rows y r).tables (l - s.shift) (r - s.shift)
  pub kept : HoldTheSame t (after_rows y r).tables (l - s.shift) (r - s.shift)

-- wherever row r, after any k moves, asks for (l, r) from m with r + m < c
abbrev pub StepTwoIsRecorded : Type 0
StepTwoIsRecorded =
    (y : List ℕ) (r k : ℕ) (s : Progress) (t : Tables) (l m : ℕ) → 0 < r → r < length y → advances y r k (row_start (after_rows y r) r) ≡ asked s t l m → r + m < s.reach
    → RecordedBefore y r s t l

-- 2 r moves end row r, with previous[r] written: the definition of a row cuts nothing off
abbrev pub RowsEnd : Type 0
RowsEnd = (y : List ℕ) (r : ℕ) → 0 < r → r < length y → advances y r (r + r) (row_start (after_rows y r) r) ≡ ended (row y (after_rows y r) r)
