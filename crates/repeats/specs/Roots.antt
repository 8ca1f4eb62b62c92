-- Document 02, T-03: "The Lyndon roots under the byte order and under its reverse (document 000) lead to them." What a root is, and the
-- test by which a place is found to be one.
use Rattle.std.specs.Prelude.{◌≡◌, Bool, true, false, not, ◌&&◌, ◌||◌, List, ℕ, zero, suc, ◌+◌, ◌-◌, ◌≤◌, ◌<◌, eqb, ltb, leb, length, get_or}
use Rattle.suffix.specs.Nearest.{next, next_match}
use Rattle.suffix.specs.Lyndon.{is_lyndon, part, longest_lyndon}
use Rattle.ranks.specs.Ranks.{oriented_from}
use Rattle.repeats.specs.Runs.{Run}

-- no rank is above top, from which the reverse order counts down
pub record AtMost (top : ℕ) (y : List ℕ) : Type 0 where
  pub at : (i : ℕ) → i < length y → get_or y i 0 ≤ top

-- Document 000: "every run in a word y contains as a factor a Lyndon root, according either to the alphabet ordering or its inverse, that
-- corresponds to a node of the associated Lyndon forest." Of a run r: its root is at place i, under the order or under its reverse.
pub record IsRoot (top : ℕ) (y : List ℕ) (r : Run) (reverse : Bool) (i : ℕ) : Type 0 where
  -- one of the words of a period's length in the run, each taken once: the word at the start comes again a period later
  pub after_start : r.start < i
  pub first_period : i ≤ r.start + r.period
  -- it is a Lyndon word
  pub lyndon : is_lyndon (part (oriented_from top reverse y) i r.period) ≡ true
  -- and a node of the forest: the longest one at its place
  pub longest : longest_lyndon (oriented_from top reverse y) i ≡ r.period
  -- A run up to the end of the string has such a word under both orders, for the end is smaller than any letter in both: its root is the one
  -- under the byte order.
  pub before_end : reverse ≡ true → r.end < length y

-- a root of r
pub record Root (top : ℕ) (y : List ℕ) (r : Run) : Type 0 where
  pub reverse : Bool
  pub place : ℕ
  pub is_root : IsRoot top y r reverse place

-- ---- the test, and the run that is then reported (RootsLeadToRuns in Claims.antt)

-- the letters before i that agree with those before j, counted back from there, c at the most
unfoldable pub left_from : List ℕ → (c i j : ℕ) → ℕ
left_from y zero i j = 0
left_from y (suc c) zero j = 0
left_from y (suc c) (suc i) j = elim (eqb (get_or y i 0) (get_or y (j - 1) 0)) [ true ↦ suc (left_from y c i (j - 1)) | false ↦ 0 ]

-- Of a place i with next j: the letters before it that go on with the period j - i. Of more than a period only one more is counted: then
-- the run has its root further left.
abbrev pub left_of : List ℕ → (i j : ℕ) → ℕ
left_of y i j = left_from y (suc (j - i)) i j

-- m is the next-match of i; none is reported under the reverse order that goes up to the end of the string
unfoldable pub accepts : List ℕ → (reverse : Bool) → (i j m : ℕ) → Bool
accepts y reverse i j m =
    ltb 0 (left_of y i j) && (leb (left_of y i j) (j - i) && (leb (j - i) (left_of y i j + m) && (not reverse || ltb (j + m) (length y))))

unfoldable pub reports : List ℕ → (i j m : ℕ) → Run
reports y i j m = record { start = i - left_of y i j; end = j + m; period = j - i }

-- place i, by next and next-match under the order or under its reverse
unfoldable pub accepted : ℕ → List ℕ → (reverse : Bool) → ℕ → Bool
accepted top y reverse i = let z = oriented_from top reverse y in accepts y reverse i (next z i) (next_match z i)

unfoldable pub reported : ℕ → List ℕ → (reverse : Bool) → ℕ → Run
reported top y reverse i = let z = oriented_from top reverse y in reports y i (next z i) (next_match z i)
