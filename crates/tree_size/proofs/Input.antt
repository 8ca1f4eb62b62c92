-- The size that the input is.
use mathlib.Core.Path.{◌≡◌, refl}
use mathlib.Core.Bool.{Bool, true, false, ◌&&◌, ◌||◌}
use mathlib.Core.List.{List, [], ◌∷◌}
use Prim.Native.Nat.{ℕ, ◌+◌, ◌-◌, ◌*◌, ◌≤◌}
use native.Mathlib.Omega.{arith}
use lib.Dec.{leb, eqb}
use lib.ListN.{length, get_or}
use borrow.Author.Tests.{leb-true, le-leb, ne_eqb}
use Rattle.std.specs.Prelude.{cond}
use Rattle.suffix.proofs.Cases.{both_true}
use Rattle.tree_size.specs.Size.{is_digit, one_digit, two_digits, size_in}

-- ---- what the arms of the code answer

pub digit_is : (a : ℕ) → 48 ≤ a → a ≤ 57 → one_digit a ≡ a - 48
digit_is a e f = rw (le-leb 48 a e, le-leb a 57 f)

pub digits_are : (a b : ℕ) → 48 ≤ a → a ≤ 57 → 48 ≤ b → b ≤ 57 → two_digits a b ≡ 10 * (a - 48) + (b - 48)
digits_are a b e f g h = rw (le-leb 48 a e, le-leb a 57 f, le-leb 48 b g, le-leb b 57 h)

pub size_is : (l : List ℕ) →
    size_in l ≡ cond (eqb (length l) 1 || eqb (length l) 2 && eqb (get_or l 1 0) 10) (one_digit (get_or l 0 0))
    (cond (eqb (length l) 2 || eqb (length l) 3 && eqb (get_or l 2 0) 10) (two_digits (get_or l 0 0) (get_or l 1 0)) 0)
unfolding size_in
size_is [] = refl
size_is (a ∷ []) = refl
size_is (a ∷ b ∷ []) = refl
size_is (a ∷ b ∷ c ∷ []) = refl
size_is (a ∷ b ∷ c ∷ d ∷ l) = let n = length (a ∷ b ∷ c ∷ d ∷ l) in rw (ne_eqb n 1 (omega arith), ne_eqb n 2 (omega arith), ne_eqb n 3 (omega arith))

pub ruleset by_length = (digit_is, digits_are, size_is)

-- ---- no size is above 99

cond_most : (b : Bool) (x y m : ℕ) → (b ≡ true → x ≤ m) → y ≤ m → cond b x y ≤ m
cond_most true x y m e f = e refl
cond_most false x y m e f = f

one_most : (a : ℕ) → one_digit a ≤ 9
one_most a = cond_most (is_digit a) (a - 48) 0 9 (λ e. omega (arith, leb-true a 57 ((both_true (leb 48 a) (leb a 57) e).1))) (omega arith)

two_most : (a b : ℕ) → two_digits a b ≤ 99
two_most a b = cond_most (is_digit a && is_digit b) (10 * one_digit a + one_digit b) 0 99 (λ e. omega (arith, one_most a, one_most b)) (omega arith)

pub size_most : (l : List ℕ) → size_in l ≤ 99
unfolding size_in
size_most [] = omega arith
size_most (a ∷ []) = omega (arith, one_most a)
size_most (a ∷ b ∷ []) = cond_most (eqb b 10) (one_digit a) (two_digits a b) 99 (λ e. omega (arith, one_most a)) (two_most a b)
size_most (a ∷ b ∷ c ∷ []) = cond_most (eqb c 10) (two_digits a b) 0 99 (λ e. two_most a b) (omega arith)
size_most (a ∷ b ∷ c ∷ d ∷ l) = omega arith
