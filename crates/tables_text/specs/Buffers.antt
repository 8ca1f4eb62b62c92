-- What the contracts of the private functions are written with: the tables and the tree of a string in lent memory.
use Rattle.std.specs.Prelude.{◌≡◌, List, ℕ, ◌+◌, ◌-◌, ◌*◌, ◌≤◌, ◌<◌, length, get_or}
use Rattle.suffix.specs.Nearest.{previous, next}
use Rattle.suffix.specs.Rows.{Tables}
use Rattle.suffix.specs.Tree.{tree_bytes, tree_length}
use Rattle.entries.specs.Lent.{AreOf}
use Rattle.reuse.specs.Steps.{comparisons}
use Rattle.outcome.specs.Built.{Figures, finished, halted, refused}

-- memory for n positions: four tables, and so many bytes for the tree
pub record Room (n : ℕ) (tables : Tables) (bytes : ℕ) : Type 0 where
  pub few : n ≤ 2048
  pub lengths : AreOf n tables
  pub tree : bytes ≡ tree_length n

-- two of the tables hold previous and next of the string y
pub record Nearests (y : List ℕ) (t : Tables) : Type 0 where
  pub previous_length : length t.previous ≡ length y
  pub next_length : length t.next ≡ length y
  pub previous_at : (k : ℕ) → k < length y → get_or t.previous k 0 ≡ previous y k
  pub next_at : (k : ℕ) → k < length y → get_or t.next k 0 ≡ next y k

-- so they do, t is the tree of y, and c the count of the reuse steps
pub record WholeBuild (y : List ℕ) (tables : Tables) (t : List ℕ) (c : ℕ) : Type 0 where
  pub nearests : Nearests y tables
  pub tree : t ≡ tree_bytes y (length y)
  pub count : c ≡ comparisons y (length y)

-- the count of an answer: its comparisons, equal and unequal
abbrev pub count_of : Figures → ℕ
count_of (finished rows equal unequal reach) = equal + unequal
count_of (halted rows equal unequal reach) = equal + unequal
count_of (refused number) = 0

-- "a whole build takes at most 3 (n - 1)" comparisons, and n is at most 2,048 here
abbrev pub most_compared : ℕ
most_compared = 3 * (2048 - 1)
