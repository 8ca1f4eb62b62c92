-- What is claimed of the trees of a size, whatever the size. Each claim is a type; the law of its name, in small letters with `_`, proves it in
-- proofs/Laws.antt.
use Rattle.std.specs.Prelude.{◌≡◌, true, false, List, [], ℕ, zero, suc, ◌*◌, ◌<◌, length, get_or, drop}
use Rattle.suffix.specs.Tree.{tree_length}
use Rattle.refusal.specs.Conditions.{flaw_number}
use Rattle.shape.specs.Claims.{AreBytes}
use Rattle.all_trees.specs.Trees.{brackets_of, before, trees_of, trees_after, next_tree, is_last}

-- a balanced tree of n positions
pub record IsBalanced (n : ℕ) (t : List ℕ) : Type 0 where
  pub bytes : AreBytes t
  pub size : length t ≡ tree_length n
  pub balanced : flaw_number n t ≡ 0

-- ---- "all trees of a size .., each once. They are ordered"

-- the list l of trees of n positions holds each balanced one, in order and only once
pub record HoldsEach (n : ℕ) (l : List (List ℕ)) : Type 0 where
  pub trees : (k : ℕ) → k < length l → IsBalanced n (get_or l k [])
  pub each : (t : List ℕ) → IsBalanced n t → (k : ℕ) × (k < length l) × (get_or l k [] ≡ t)
  pub order : (j k : ℕ) → j < k → k < length l → before (brackets_of n (get_or l j [])) (brackets_of n (get_or l k [])) ≡ true
  pub once : (j k : ℕ) → j < length l → k < length l → get_or l j [] ≡ get_or l k [] → j ≡ k

abbrev pub TreesAreAll : Type 0
TreesAreAll = (n : ℕ) → HoldsEach n (trees_of n)

-- ---- "from a tree .. the one after it"

-- the trees that one is before are those behind it in the list
abbrev pub AfterIsBehind : Type 0
AfterIsBehind = (n k : ℕ) → k < length (trees_of n) → trees_after n (get_or (trees_of n) k []) ≡ drop (suc k) (trees_of n)

-- the one after a tree t that is before some tree u: the least that t is before
pub record LeastAbove (n : ℕ) (t u : List ℕ) : Type 0 where
  pub not_last : is_last n t ≡ false
  pub balanced : IsBalanced n (next_tree n t)
  pub above : before (brackets_of n t) (brackets_of n (next_tree n t)) ≡ true
  pub least : before (brackets_of n u) (brackets_of n (next_tree n t)) ≡ false

abbrev pub NextIsTheLeastAbove : Type 0
NextIsTheLeastAbove =
    (n : ℕ) (t u : List ℕ) → IsBalanced n t → IsBalanced n u → before (brackets_of n t) (brackets_of n u) ≡ true → LeastAbove n t u

-- ---- how many there are

abbrev pub factorial : ℕ → ℕ
factorial zero = 1
factorial (suc n) = suc n * factorial n

-- Catalan's number of n is (2n)! / ((n + 1)! n!)
abbrev pub CountIsCatalans : Type 0
CountIsCatalans = (n : ℕ) → length (trees_of n) * (factorial (suc n) * factorial n) ≡ factorial (2 * n)

-- of the greatest size
abbrev pub TwelveHave : Type 0
TwelveHave = length (trees_of 12) ≡ 208012
