-- What a returned number says of the conditions, and a verdict's case of its number.
use mathlib.Core.Path.{◌≡◌, refl, sym, ◌∙◌}
use mathlib.Core.Logic.{◌≢◌}
use mathlib.Core.Bool.{Bool, true, false, ◌||◌, true≢false}
use mathlib.Core.List.{List, [], ◌∷◌}
use Prim.Native.Nat.{ℕ, zero, suc, ◌<◌}
use native.Mathlib.Omega.{arith}
use lib.ListN.{length, get_or}
use borrow.Author.Tests.{eq-eqb, ne_eqb}
use Rattle.suffix.specs.Search.{tabulate}
use Rattle.suffix.proofs.Cases.{Same, same, other, same?}
use Rattle.suffix.proofs.Search.{tabulate_length, tabulate_entry}
use Rattle.refusal.specs.declared.Refusal.{Refusal}
use Rattle.refusal.specs.declared.Refusal.TheVariants.{TooLong, TableLength, TreeLength, TooManyRows, PositionOutside, SpareBitSet, ClosedTooEarly, LeftOpen, NotMarked, TooManyEntries, WrongContents, ListLengths, TooManyRuns, SizeOutside}
use Rattle.refusal.specs.Numbers.{number_of, lowest_from, first_of, unless_refused, number_if}

-- 0 is no refusal's number
pub positive : (k : Refusal) → 0 < number_of k
positive TooLong = omega arith
positive TableLength = omega arith
positive TreeLength = omega arith
positive TooManyRows = omega arith
positive PositionOutside = omega arith
positive SpareBitSet = omega arith
positive ClosedTooEarly = omega arith
positive LeftOpen = omega arith
positive NotMarked = omega arith
positive TooManyEntries = omega arith
positive WrongContents = omega arith
positive ListLengths = omega arith
positive TooManyRuns = omega arith
positive SizeOutside = omega arith

-- where none is returned, the first condition does not apply, and none of the others
pub none_applies : (k : ℕ) (b : Bool) (others : List Bool) → lowest_from (suc k) (b ∷ others) ≡ 0 → (b ≡ false) × (lowest_from (suc (suc k)) others ≡ 0)
unfolding lowest_from
none_applies k true others e = absurd (omega arith)
none_applies k false others e = (refl, e)

-- where none of two applies
pub neither : (a b : Bool) → a || b ≡ false → (a ≡ false) × (b ≡ false)
neither true b e = absurd (true≢false e)
neither false b e = (refl, e)

-- the first number of several: where it is not 0, where it is, and where all are
module _ (number : ℕ) (numbers : List ℕ) where
  first_here : number ≢ 0 → first_of (number ∷ numbers) ≡ number
  unfolding first_of
  first_here e = rw (ne_eqb number 0 e, first_of)

  first_later : number ≡ 0 → first_of (number ∷ numbers) ≡ first_of numbers
  unfolding first_of
  first_later e = rw (eq-eqb number 0 e, first_of)

  pub first_none : first_of (number ∷ numbers) ≡ 0 → (number ≡ 0) × (first_of numbers ≡ 0)
  first_none e = go (same? number 0)
    where
      go : Same number 0 → (number ≡ 0) × (first_of numbers ≡ 0)
      go (same z) = (z, sym (first_later z) ∙ e)
      go (other z) = absurd (z (sym (first_here z) ∙ e))

pub first_only : (number : ℕ) → first_of (number ∷ []) ≡ number
unfolding first_of
first_only number = go (same? number 0)
  where
    go : Same number 0 → first_of (number ∷ []) ≡ number
    go (same z) = first_later number [] z ∙ sym z
    go (other z) = first_here number [] z

first_in : (l : List ℕ) (k : ℕ) → ((j : ℕ) → j < k → get_or l j 0 ≡ 0) → get_or l k 0 ≢ 0 → first_of l ≡ get_or l k 0
first_in [] k q e = absurd (e refl)
first_in (v ∷ l) zero q e = first_here v l e
first_in (v ∷ l) (suc k) q e = first_later v l (q 0 (omega arith)) ∙ first_in l k (λ j h. q (suc j) (omega arith)) e

none_in : (l : List ℕ) → ((j : ℕ) → j < length l → get_or l j 0 ≡ 0) → first_of l ≡ 0
unfolding first_of
none_in [] q = refl
none_in (v ∷ l) q = first_later v l (q 0 (omega arith)) ∙ none_in l (λ j h. q (suc j) (omega arith))

all_in : (l : List ℕ) → first_of l ≡ 0 → (j : ℕ) → get_or l j 0 ≡ 0
all_in [] e j = refl
all_in (v ∷ l) e zero = (first_none v l e).0
all_in (v ∷ l) e (suc j) = all_in l (first_none v l e).1 j

-- the first number of a table: that at k, where those before it are 0; and none
module _ (g : ℕ → ℕ) (n : ℕ) where
  pub first_at : (k : ℕ) → k < n → ((j : ℕ) → j < k → g j ≡ 0) → g k ≢ 0 → first_of (tabulate n g) ≡ g k
  first_at k h q e =
      let z = tabulate_entry g n k h in
      first_in (tabulate n g) k (λ j w. tabulate_entry g n j (omega arith) ∙ q j w) (λ w. e (sym z ∙ w)) ∙ z

  pub none_first : ((j : ℕ) → j < n → g j ≡ 0) → first_of (tabulate n g) ≡ 0
  none_first q = none_in (tabulate n g) (λ j h. let w : j < n = omega (arith, tabulate_length g n) in tabulate_entry g n j w ∙ q j w)

  pub all_none : first_of (tabulate n g) ≡ 0 → (j : ℕ) → j < n → g j ≡ 0
  all_none e j h = sym (tabulate_entry g n j h) ∙ all_in (tabulate n g) e j

-- what is so where something is refused, and where nothing is
module _ {A : Type 0} (number : ℕ) (a other : A) where
  pub unless_taken : number ≡ 0 → unless_refused number a other ≡ a
  unfolding unless_refused
  unless_taken e = rw (eq-eqb number 0 e, unless_refused)

  pub unless_refused_lem : number ≢ 0 → unless_refused number a other ≡ other
  unfolding unless_refused
  unless_refused_lem e = rw (ne_eqb number 0 e, unless_refused)

-- a test that finds nothing
pub nothing_found : (b : Bool) (k : Refusal) → number_if b k ≡ 0 → b ≡ false
nothing_found true k e = absurd (omega (arith, positive k))
nothing_found false k e = refl
