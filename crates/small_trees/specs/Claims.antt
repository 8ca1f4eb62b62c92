-- What is claimed of the operations. The claim is a type; the law of its name, in small letters with `_`, proves it in proofs/Laws.antt.
use Rattle.std.specs.Prelude.{◌≡◌, false, List, [], ℕ, zero, suc, ◌<◌, length, get_or}
use Rattle.suffix.specs.Tree.{tree_length}
use Rattle.all_trees.specs.Trees.{trees_of}
use Rattle.all_trees.specs.Claims.{IsBalanced}
use Rattle.small_trees.specs.Answers.{size_outside, first_refusal, first_at_exit, next_at_exit, next, last, next_answer}

-- "Starting from the first and going on": the buffer after the first tree was given and k times the next
unfoldable pub reached : ℕ → List ℕ → ℕ → List ℕ
reached n buffer zero = first_at_exit n buffer
reached n buffer (suc k) = next_at_exit n (reached n buffer k)

-- this goes over the list of all trees of n positions, in its order: it reaches each balanced one, and only once; nothing is refused, and 'last'
-- is the answer at the last one alone
pub record GoesOverAll (n : ℕ) (buffer : List ℕ) : Type 0 where
  pub first_given : first_refusal n (length buffer) ≡ 0
  pub some : 0 < length (trees_of n)
  pub reaches : (k : ℕ) → k < length (trees_of n) → reached n buffer k ≡ get_or (trees_of n) k []
  pub each : (t : List ℕ) → IsBalanced n t → (k : ℕ) × (k < length (trees_of n)) × (reached n buffer k ≡ t)
  pub once : (j k : ℕ) → j < length (trees_of n) → k < length (trees_of n) → reached n buffer j ≡ reached n buffer k → j ≡ k
  pub goes_on : (k : ℕ) → suc k < length (trees_of n) → next_answer n (reached n buffer k) ≡ next
  pub ends : (k : ℕ) → suc k ≡ length (trees_of n) → next_answer n (reached n buffer k) ≡ last

-- "Starting from the first and going on reaches each balanced tree of that size exactly once.", in any buffer of the length for n
abbrev pub GoingOnReachesEach : Type 0
GoingOnReachesEach = (n : ℕ) (buffer : List ℕ) → size_outside n ≡ false → length buffer ≡ tree_length n → GoesOverAll n buffer
