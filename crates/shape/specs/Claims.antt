-- What is claimed of trees. Each claim is a type; the law of its name, in small letters with `_`, proves it
-- in proofs/Laws.antt.
use Rattle.std.specs.Prelude.{◌≡◌, true, false, List, ℕ, ◌≤◌, ◌<◌, eqb, length, get_or}
use Rattle.suffix.specs.Search.{tabulate}
use Rattle.suffix.specs.Nearest.{previous, next}
use Rattle.suffix.specs.Rows.{previous_after, next_after}
use Rattle.suffix.specs.Tree.{tree_length, tree_bytes}
use Rattle.refusal.specs.Conditions.{tree_refusal}
use Rattle.shape.specs.Shape.{IsTreeOf, previous_table, next_table}

-- ---- each balanced tree is the tree of exactly one pair of tables, and equal pairs have equal trees

-- a tree that is not refused is the tree of its tables
abbrev pub TreesHaveTables : Type 0
TreesHaveTables = (n : ℕ) (t : List ℕ) → tree_refusal n t ≡ 0 → IsTreeOf n t (previous_table n t) (next_table n t)

-- of no other tables
abbrev pub TablesAreOne : Type 0
TablesAreOne = (n : ℕ) (t p x : List ℕ) → IsTreeOf n t p x → (p ≡ previous_table n t) × (x ≡ next_table n t)

-- and the tree of a pair of tables is not refused
abbrev pub TreesAreAccepted : Type 0
TreesAreAccepted = (n : ℕ) (t p x : List ℕ) → n ≤ 1000000 → IsTreeOf n t p x → tree_refusal n t ≡ 0

abbrev pub AreBytes : List ℕ → Type 0
AreBytes t = (j : ℕ) → get_or t j 0 < 256

abbrev pub EqualTablesEqualTrees : Type 0
EqualTablesEqualTrees = (n : ℕ) (t u p x : List ℕ) → AreBytes t → AreBytes u → IsTreeOf n t p x → IsTreeOf n u p x → t ≡ u

-- ---- the tree of a build, read back

-- the tree of n positions t is not refused, is the tree of the tables p and x, and is read into them
pub record ReadsAs (n : ℕ) (t p x : List ℕ) : Type 0 where
  pub tree : IsTreeOf n t p x
  pub accepted : tree_refusal n t ≡ 0
  pub previous : previous_table n t ≡ p
  pub next : next_table n t ≡ x

-- the tree of a finished build gives the same previous and next tables
abbrev pub FinishedTree : Type 0
FinishedTree = (y : List ℕ) → let n = length y in n ≤ 1000000 → ReadsAs n (tree_bytes y n) (tabulate n (previous y)) (tabulate n (next y))

-- "Its first ceil(R/4) bytes"
unfoldable pub first_bytes : ℕ → List ℕ → List ℕ
first_bytes R t = tabulate (tree_length R) (λ j. get_or t j 0)

-- "with R for none"
unfoldable pub for_none : ℕ → ℕ → ℕ → ℕ
for_none n R v = elim (eqb v n) [ true ↦ R | false ↦ v ]

-- "Its first ceil(R/4) bytes, read with R for n, give the same entries below R, with R for none."
abbrev pub HaltedTree : Type 0
HaltedTree =
    (y : List ℕ) (R : ℕ) → let n = length y in R ≤ n → R ≤ 1000000
    → ReadsAs R (first_bytes R (tree_bytes y R)) (tabulate R (λ i. for_none n R (previous_after y R i))) (tabulate R (λ i. for_none n R (next_after y R i)))

-- "Where R < n this isn't a tree of n positions: read at n it is refused 7."
abbrev pub HaltedTreeIsRefused : Type 0
HaltedTreeIsRefused = (y : List ℕ) (R : ℕ) → R < length y → length y ≤ 1000000 → tree_refusal (length y) (tree_bytes y R) ≡ 7
