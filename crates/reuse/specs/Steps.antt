-- Document 01, "The reuse steps, which define the count": "The steps are given the letters and R and nothing else." A step is one of
-- document 01's four; a move of row r settles a pair (steps 1 and 2), or does steps 3 and 4 for a pair that is settled.
use Rattle.std.specs.Prelude.{Bool, true, false, List, ℕ, zero, suc, ◌+◌, ◌-◌, eqb, ltb, length, get_or, set, replicate}
use Rattle.suffix.specs.Rows.{Tables}

-- reach c, shift d, and the comparisons made so far, "equal and unequal comparisons as two numbers" (document 02, T-02)
pub record Progress : Type 0 where
  pub reach : ℕ
  pub shift : ℕ
  pub equal : ℕ
  pub unequal : ℕ

-- what the steps have after a row; the tables hold what they recorded
pub record BuildState : Type 0 where
  pub progress : Progress
  pub tables : Tables

-- a pair (l, r) that is settled: its match, and whether the suffix at l is the smaller
pub record SettledPair : Type 0 where
  pub progress : Progress
  pub match : ℕ
  pub left_smaller : Bool

-- what a scan reports: the match and the order of its pair, and the comparisons made so far
pub record ScanReport : Type 0 where
  pub match : ℕ
  pub left_smaller : Bool
  pub equal : ℕ
  pub unequal : ℕ

-- Step 1, with k letters left from r + m on, and so many comparisons made before that found the letters equal, and unequal: "compare
-- y[l + m] with y[r + m], raising m by 1 while equal, and stop at the first unequal letters or when r + m = n. .. At n, the suffix at r
-- is the smaller." "A comparison looks at two letters and tells less, equal or greater; it counts 1.": the order at the first unequal
-- letters is that comparison's.
unfoldable pub scan : List ℕ → ℕ → ℕ → ℕ → ℕ → ℕ → ℕ → ScanReport
scan y l r m zero equal unequal = record { match = m; left_smaller = false; equal = equal; unequal = unequal }
scan y l r m (suc k) equal unequal =
    elim (eqb (get_or y (l + m) 0) (get_or y (r + m) 0)) [
      | true ↦ scan y l r (suc m) k (suc equal) unequal
      | false ↦ record { match = m; left_smaller = ltb (get_or y (l + m) 0) (get_or y (r + m) 0); equal = equal; unequal = suc unequal }
    ]

-- what a scan of (l, r) leaves: "Then c = r + m and d = r − l, also where c didn't grow."
abbrev pub scanned : ℕ → ℕ → ScanReport → SettledPair
scanned l r u =
    record {
      progress = record { reach = r + u.match; shift = r - l; equal = u.equal; unequal = u.unequal };
      match = u.match;
      left_smaller = u.left_smaller;
    }

unfoldable pub scan_from : List ℕ → Progress → ℕ → ℕ → ℕ → SettledPair
scan_from y s l r m = scanned l r (scan y l r m (length y - (r + m)) s.equal s.unequal)

-- Step 2, the recorded pair having match v and order b: "If r + v < c, m becomes v and the order is that of the recorded pair, with
-- no comparison. If r + v ≥ c, set m = c − r and scan as in step 1."
unfoldable pub reuse : List ℕ → Progress → ℕ → ℕ → ℕ → Bool → SettledPair
reuse y s l r v b =
    elim (ltb (r + v) s.reach) [
      | true ↦ record { progress = s; match = v; left_smaller = b }
      | false ↦ scan_from y s l r (s.reach - r)
    ]

-- Steps 1 and 2 settle (l, r) from m: "If r + m ≥ c, scan .. If r + m < c, take l − d and r − d. Their pair is recorded:
-- next[l − d] = r − d, or else previous[r − d] = l − d." (That it always is: StepTwoIsRecorded in Claims.antt.)
unfoldable pub settle : List ℕ → Progress → Tables → ℕ → ℕ → ℕ → SettledPair
settle y s t l r m =
    elim (ltb (r + m) s.reach) [
      | true ↦
          elim (eqb (get_or t.next (l - s.shift) 0) (r - s.shift)) [
            | true ↦ reuse y s l r (get_or t.next_match (l - s.shift) 0) false
            | false ↦ reuse y s l r (get_or t.previous_match (r - s.shift) 0) true
          ]
      | false ↦ scan_from y s l r m
    ]

-- "A place written without its match named has match m; none has 0": previous[r] = l, or next[l] = r, with match m
unfoldable pub record_previous : Tables → ℕ → ℕ → ℕ → Tables
record_previous t r l m =
    record { previous = set t.previous r l; next = t.next; previous_match = set t.previous_match r m; next_match = t.next_match }

unfoldable pub record_next : Tables → ℕ → ℕ → ℕ → Tables
record_next t l r m =
    record { previous = t.previous; next = set t.next l r; previous_match = t.previous_match; next_match = set t.next_match l m }

-- where row r stands: the pair (l, r) is to be settled from m; it is settled; or previous[r] is written and the row has ended
pub data Walk : Type 0 where
  asked : Progress → Tables → ℕ → ℕ → Walk
  settled : SettledPair → Tables → ℕ → Walk
  ended : BuildState → Walk

-- Step 3, from next[k] = r on: "Let k = l and p = previous[k]; if p is none, previous[r] is none and the row ends." Step 4: "If
-- previous-match[k] < m, previous[r] = p with that match, and the row ends. If it is > m, next[p] = r with match m; go on from p as
-- in step 3. If equal, settle (p, r) from m by steps 1 and 2, then step 3." Where it is > m, u is kept for (p, r): its match, which
-- is m, and its left_smaller, which is false wherever climb is used. So the next move writes next[p] = r with match m.
unfoldable pub climb : List ℕ → ℕ → SettledPair → Tables → ℕ → Walk
climb y r u t k =
    let p = get_or t.previous k 0 in
    let v = get_or t.previous_match k 0 in
    elim (eqb p (length y)) [
      | true ↦ ended (record { progress = u.progress; tables = record_previous t r (length y) 0 })
      | false ↦
          elim (ltb v u.match) [
            | true ↦ ended (record { progress = u.progress; tables = record_previous t r p v })
            | false ↦ elim (eqb v u.match) [ true ↦ asked u.progress t p u.match | false ↦ settled u t p ]
          ]
    ]

-- One move of row r: the pair that is asked for is settled, by steps 1 and 2; or step 3, for a pair that is: "If the suffix at l is
-- smaller, previous[r] = l and the row ends. Otherwise next[l] = r."
unfoldable pub advance : List ℕ → ℕ → Walk → Walk
advance y r (asked s t l m) = settled (settle y s t l r m) t l
advance y r (settled u t l) =
    elim u.left_smaller [
      | true ↦ ended (record { progress = u.progress; tables = record_previous t r l u.match })
      | false ↦ climb y r u (record_next t l r u.match) l
    ]
advance y r (ended s) = ended s

-- k moves
unfoldable pub advances : List ℕ → ℕ → ℕ → Walk → Walk
advances y r zero w = w
advances y r (suc k) w = advances y r k (advance y r w)

-- what is there so far
unfoldable pub state_of : Walk → BuildState
state_of (asked s t l m) = record { progress = s; tables = t }
state_of (settled u t l) = record { progress = u.progress; tables = t }
state_of (ended s) = s

-- "Row r ≥ 1 starts with l = r − 1 and settles the pair (l, r) from m = 0"
unfoldable pub row_start : BuildState → ℕ → Walk
row_start s r = asked s.progress s.tables (r - 1) 0

-- A row takes at most two moves for each l from r - 1 down to 0. (That it has ended by then: RowsEnd in Claims.antt.)
unfoldable pub row : List ℕ → BuildState → ℕ → BuildState
row y s r = state_of (advances y r (r + r) (row_start s r))

-- nothing is recorded: every entry is none, every match 0
unfoldable pub start : List ℕ → ℕ → BuildState
start y c =
    let n = length y in
    record {
      progress = record { reach = c; shift = 0; equal = 0; unequal = 0 };
      tables = record { previous = replicate n n; next = replicate n n; previous_match = replicate n 0; next_match = replicate n 0 };
    }

-- "Row 0 sets reach c to 1 and shift d to 0.", and "previous[0] is none." "For R = 0 comparisons and reach are 0."
unfoldable pub after_rows : List ℕ → ℕ → BuildState
after_rows y zero = start y 0
after_rows y (suc zero) = start y 1
after_rows y (suc (suc r)) = row y (after_rows y (suc r)) (suc r)

-- "Comparisons are those that the reuse steps below count in rows 0 to R − 1.", as document 02's T-02 has them: "equal and unequal
-- comparisons as two numbers instead of their sum, each exactly as many as the reuse steps make."
abbrev pub equal_comparisons : List ℕ → ℕ → ℕ
equal_comparisons y R = (after_rows y R).progress.equal

abbrev pub unequal_comparisons : List ℕ → ℕ → ℕ
unequal_comparisons y R = (after_rows y R).progress.unequal

-- document 01's count: their sum
abbrev pub comparisons : List ℕ → ℕ → ℕ
comparisons y R = equal_comparisons y R + unequal_comparisons y R
