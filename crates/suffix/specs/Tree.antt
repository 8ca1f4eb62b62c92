-- Document 01, "The tree": "It is document 002's tree of previous smaller suffixes without its root pair, hence 2n bits."
use Rattle.std.specs.Prelude.{Bool, true, false, cond, List, [], ◌∷◌, ◌++◌, ℕ, zero, suc, ◌+◌, ◌*◌, ◌/◌, ◌^◌, eqb, leb, length, get_or, replicate}
use Rattle.suffix.specs.Search.{count_below, sum_below, tabulate}
use Rattle.suffix.specs.Nearest.{previous, next}

-- trees side by side: the first one by what hangs under its root, then the others, to its right
pub data Forest : Type 0 where
  none : Forest
  tree : Forest → Forest → Forest

-- "Position i hangs under previous[i], or is a root. Children stand left to right." What hangs under p of the t positions from i
-- on, each with what hangs under it; that stands further right.
unfoldable pub hanging : List ℕ → ℕ → ℕ → ℕ → Forest
hanging y p i zero = none
hanging y p i (suc t) =
    elim (eqb (previous y i) p) [ true ↦ tree (hanging y i (suc i) t) (hanging y p (suc i) t) | false ↦ hanging y p (suc i) t ]

-- "the tree of positions 0 to R−1": the roots hang under none, which is n
unfoldable pub forest_after : List ℕ → ℕ → Forest
forest_after y R = hanging y (length y) 0 R

-- "A bracket opens at 1 and closes at 0."
unfoldable pub parentheses : Forest → List Bool
parentheses none = []
parentheses (tree under right) = true ∷ parentheses under ++ false ∷ parentheses right

-- the tree after R rows, its brackets from left to right: 2R of them (TreeHasTwoBitsARow in Claims.antt)
unfoldable pub tree_after : List ℕ → ℕ → List Bool
tree_after y R = parentheses (forest_after y R)

-- "Bit k is in byte floor(k/8) with weight 2 to the power (k mod 8).": byte j of the bits g
unfoldable pub byte_of : (ℕ → Bool) → ℕ → ℕ
byte_of g j = sum_below 8 (λ i. 2 ^ i * cond (g (8 * j + i)) 1 0)

-- "The buffer has ceil(n/4) bytes"
abbrev pub tree_length : ℕ → ℕ
tree_length n = (n + 3) / 4

-- the buffer: "After R rows it holds the tree of positions 0 to R−1 in its first 2R bits, all else 0."
unfoldable pub tree_bytes : List ℕ → ℕ → List ℕ
tree_bytes y R = tabulate (tree_length (length y)) (byte_of (λ k. get_or (tree_after y R) k false))

-- ---- how the rows write the same brackets (RowsWriteTheTree in Claims.antt)

-- the number of l < r with next[l] = r: the brackets that row r closes
unfoldable pub closed_by : List ℕ → ℕ → ℕ
closed_by y r = count_below r (λ l. eqb (next y l) r)

-- the number of l < R with next[l] not below R: the brackets that are open after R rows
unfoldable pub unclosed : List ℕ → ℕ → ℕ
unclosed y R = count_below R (λ l. leb R (next y l))

-- what t rows from r on write, from left to right: each row its closings and then its opening, and at the end the closings of what
-- is open
unfoldable pub rows_write : List ℕ → ℕ → ℕ → List Bool
rows_write y r zero = replicate (unclosed y r) false
rows_write y r (suc t) = replicate (closed_by y r) false ++ true ∷ rows_write y (suc r) t
