-- Document 01, "The tree": the two tables of a bracket tree, by its shape.
use Rattle.std.specs.Prelude.{◌≡◌, Bool, true, false, List, [], ◌∷◌, ◌++◌, ℕ, zero, suc, ◌+◌, ◌*◌, ◌≤◌, ◌<◌, length, get_or}
use Rattle.suffix.specs.Tree.{Forest, none, tree, parentheses, tree_length}
use Rattle.refusal.specs.Conditions.{bit_of}

-- the number of positions
abbrev pub size : Forest → ℕ
size none = 0
size (tree under right) = suc (size under + size right)

-- "The i-th opening, from 0, is position i. Its parent is previous[i]": the parents of the positions of a forest, which are those
-- from i on and hang under p
abbrev pub parents : Forest → ℕ → ℕ → List ℕ
parents none i p = []
parents (tree under right) i p = p ∷ parents under (suc i) i ++ parents right (suc i + size under) p

-- "i plus the number of positions at and below it is next[i]"
abbrev pub ends : Forest → ℕ → List ℕ
ends none i = []
ends (tree under right) i = (i + suc (size under)) ∷ ends under (suc i) ++ ends right (suc i + size under)

-- "A tree is the tree of a pair of tables when this holds at every position, whether or not any string of bytes has that pair.":
-- the bytes t are the tree of n positions with the tables p and x; "none at a root" is n
pub record IsTreeOf (n : ℕ) (t p x : List ℕ) : Type 0 where
  pub shape : Forest
  pub positions : size shape ≡ n
  pub bytes : length t ≡ tree_length n
  pub bits : (k : ℕ) → k < 2 * n → bit_of t k ≡ get_or (parentheses shape) k false
  pub spare : (k : ℕ) → 2 * n ≤ k → k < 8 * length t → bit_of t k ≡ false
  pub previous : p ≡ parents shape 0 n
  pub next : x ≡ ends shape 0

-- The shape of given brackets, read from the right: a closing begins a new forest; an opening puts the first forest under a root
-- and the second to its right.
abbrev pub grow : List Forest → List Forest
grow [] = []
grow (f ∷ []) = f ∷ []
grow (under ∷ right ∷ others) = tree under right ∷ others

-- the forests of the m brackets from bit a on, between the closings that have no opening there
unfoldable pub forests_from : (ℕ → Bool) → ℕ → ℕ → List Forest
forests_from g a zero = none ∷ []
forests_from g a (suc m) = elim (g a) [ true ↦ grow (forests_from g (suc a) m) | false ↦ none ∷ forests_from g (suc a) m ]

abbrev pub first : List Forest → Forest
first [] = none
first (f ∷ others) = f

-- the shape of the first 2n bits of the bytes t, and its tables
unfoldable pub shape_of : ℕ → List ℕ → Forest
shape_of n t = first (forests_from (bit_of t) 0 (2 * n))

unfoldable pub previous_table : ℕ → List ℕ → List ℕ
previous_table n t = parents (shape_of n t) 0 n

unfoldable pub next_table : ℕ → List ℕ → List ℕ
next_table n t = ends (shape_of n t) 0
