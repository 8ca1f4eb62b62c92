-- Document 02, T-09: "all trees of a size", and their order.
use Rattle.std.specs.Prelude.{Bool, true, false, List, [], ◌∷◌, ◌++◌, map, ℕ, zero, suc, ◌*◌, eqb, length, get_or}
use Rattle.suffix.specs.Search.{tabulate}
use Rattle.suffix.specs.Tree.{byte_of, tree_length}
use Rattle.refusal.specs.Conditions.{bit_of, flaw_number}

-- those of a list for which g holds, in its order
unfoldable pub chosen : {A : Type 0} → (A → Bool) → List A → List A
chosen g [] = []
chosen g (a ∷ l) = elim (g a) [ true ↦ a ∷ chosen g l | false ↦ chosen g l ]

-- ---- brackets and bytes; an opening is true, a closing false

-- m bits from bit a on
unfoldable pub brackets_from : (ℕ → Bool) → ℕ → ℕ → List Bool
brackets_from g a zero = []
brackets_from g a (suc m) = g a ∷ brackets_from g (suc a) m

-- the brackets of the bytes t as a tree of n positions, and the bytes of brackets
unfoldable pub brackets_of : ℕ → List ℕ → List Bool
brackets_of n t = brackets_from (bit_of t) 0 (2 * n)

unfoldable pub tree_of : ℕ → List Bool → List ℕ
tree_of n brackets = tabulate (tree_length n) (byte_of (λ k. get_or brackets k false))

-- ---- the trees of a size

-- every list of m brackets, those that begin with an opening before those that begin with a closing
unfoldable pub all_brackets : ℕ → List (List Bool)
all_brackets zero = [] ∷ []
all_brackets (suc m) = map (true ∷◌) (all_brackets m) ++ map (false ∷◌) (all_brackets m)

-- "all trees of a size": of these those that have no flaw, which are the balanced ones
unfoldable pub trees_of : ℕ → List (List ℕ)
trees_of n = chosen (λ t. eqb (flaw_number n t) 0) (map (tree_of n) (all_brackets (2 * n)))

-- ---- their order

-- "ordered by their first differing bracket, an opening before a closing"
unfoldable pub before : List Bool → List Bool → Bool
before [] w = false
before (a ∷ v) [] = false
before (true ∷ v) (true ∷ w) = before v w
before (true ∷ v) (false ∷ w) = true
before (false ∷ v) (true ∷ w) = false
before (false ∷ v) (false ∷ w) = before v w

-- "the first tree"
unfoldable pub first_tree : ℕ → List ℕ
first_tree n = get_or (trees_of n) 0 []

-- the trees of n positions that t is before, in their order
unfoldable pub trees_after : ℕ → List ℕ → List (List ℕ)
trees_after n t = chosen (λ u. before (brackets_of n t) (brackets_of n u)) (trees_of n)

-- "from a tree .. the one after it, or 'last' with nothing written": the first of them, or where there is none the tree itself
unfoldable pub next_tree : ℕ → List ℕ → List ℕ
next_tree n t = get_or (trees_after n t) 0 t

unfoldable pub is_last : ℕ → List ℕ → Bool
is_last n t = eqb (length (trees_after n t)) 0
