-- What the private functions promise each other: brackets changed from a bit on.
use Rattle.std.specs.Prelude.{◌≡◌, Bool, true, false, cond, ◌&&◌, List, ℕ, ltb, leb, length}
use Rattle.suffix.specs.Search.{tabulate}
use Rattle.suffix.specs.Tree.{byte_of}
use Rattle.refusal.specs.Conditions.{bit_of}
use Rattle.all_trees.specs.Trees.{next_tree, is_last}
use Rattle.small_trees.specs.Answers.{Going, next, last}

-- bit q, which was so: before bit k it stays, and from there on it is an opening from `from` on and below `to`
unfoldable pub changed_bit : Bool → (k from to q : ℕ) → Bool
changed_bit was k from to q = elim (ltb q k) [ true ↦ was | false ↦ leb from q && ltb q to ]

unfoldable pub changed_tree : List ℕ → (k from to : ℕ) → List ℕ
changed_tree t k from to = tabulate (length t) (byte_of (λ q. changed_bit (bit_of t q) k from to q))

-- a step from a tree that is not refused
pub record Stepped (n : ℕ) (before after : List ℕ) (going : Going) : Type 0 where
  pub answers : going ≡ cond (is_last n before) last next
  pub leaves : after ≡ next_tree n before
