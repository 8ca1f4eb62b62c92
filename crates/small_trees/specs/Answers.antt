-- Document 02, T-09: what the two operations refuse and answer, and what they leave in the buffer.
use Rattle.std.specs.Prelude.{◌≡◌, Bool, cond, ◌||◌, List, [], ◌∷◌, ℕ, eqb, ltb, length, Result, Ok, Err}
use Rattle.refusal.specs.Numbers.{number_of, first_of, number_if, unless_refused}
use Rattle.refusal.specs.Conditions.{tree_length_off, flaw_number}
use Rattle.refusal.specs.declared.Refusal.{Refusal}
use Rattle.refusal.specs.declared.Refusal.TheVariants.{TreeLength, SizeOutside}
use Rattle.all_trees.specs.Trees.{first_tree, next_tree, is_last}
use Rattle.small_trees.specs.declared.Step.{Step}
use Rattle.small_trees.specs.declared.Step.TheVariants.{Next, Last}

-- "14 for a size outside 1 to 12"
abbrev pub size_outside : ℕ → Bool
size_outside n = eqb n 0 || ltb 12 n

-- ---- "The operation gives the first tree"

-- "14 .., tested first, then 3"; the buffer, of so many bytes, holds no tree yet, so 6, 7 and 8 are not tested
unfoldable pub first_refusal : ℕ → ℕ → ℕ
first_refusal n bytes = first_of (number_if (size_outside n) SizeOutside ∷ number_if (tree_length_off n bytes) TreeLength ∷ [])

-- the buffer at exit: as it was where something is refused
unfoldable pub first_at_exit : ℕ → List ℕ → List ℕ
first_at_exit n buffer = unless_refused (first_refusal n (length buffer)) (first_tree n) buffer

-- giving the first tree, which answers with this number, 0 for none, for all inputs
pub record FirstGiven (n : ℕ) (before after : List ℕ) (number : ℕ) : Type 0 where
  pub answers : number ≡ first_refusal n (length before)
  pub leaves : after ≡ first_at_exit n before

-- ---- "and from a tree, in the same buffer, the one after it, or 'last' with nothing written"

-- "14 .., tested first, then 3, 6, 7, 8"
unfoldable pub next_refusal : ℕ → List ℕ → ℕ
next_refusal n t = first_of (number_if (size_outside n) SizeOutside ∷ number_if (tree_length_off n (length t)) TreeLength ∷ flaw_number n t ∷ [])

unfoldable pub next_at_exit : ℕ → List ℕ → List ℕ
next_at_exit n t = unless_refused (next_refusal n t) (next_tree n t) t

-- what is answered: the one after it is in the buffer; 'last'; or the number of a refusal
pub data Going : Type 0 where
  next : Going
  last : Going
  refused : ℕ → Going

unfoldable pub next_answer : ℕ → List ℕ → Going
next_answer n t = unless_refused (next_refusal n t) (cond (is_last n t) last next) (refused (next_refusal n t))

abbrev pub going_of : Result Step Refusal → Going
going_of (Ok Next) = next
going_of (Ok Last) = last
going_of (Err refusal) = refused (number_of refusal)

-- going on, which answers so, for all inputs
pub record NextGiven (n : ℕ) (before after : List ℕ) (going : Going) : Type 0 where
  pub answers : going ≡ next_answer n before
  pub leaves : after ≡ next_at_exit n before
