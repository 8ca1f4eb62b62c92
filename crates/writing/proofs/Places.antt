-- The digits that `io` writes are those of the text.
use mathlib.Core.Path.{◌≡◌, refl, sym, ap, ◌∙◌}
use mathlib.Core.List.{[], ◌∷◌}
use Prim.Native.Nat.{ℕ, zero, suc, ◌-◌, ◌*◌, ◌/◌, ◌%◌, ◌^◌, ◌≤◌, ◌<◌}
use native.Mathlib.Nat.{pow-suc, pow-le-pow_right}
use native.Mathlib.Omega.{arith}
use lib.ListN.{length, length-append}
use borrow.Author.Tests.{lt-ltb, le-ltb}
use Rattle.suffix.proofs.Cases.{Tri, lt, eq, gt, tri}
use Rattle.io.specs.Digits.{last_digits, hex_digit_ascii, IsDigitCount}
use Rattle.writing.specs.Text.{places, decimal}

few_more : (f n : ℕ) → 10 ≤ n → places (suc f) n ≡ suc (places f (n / 10))
unfolding places
few_more f n h = rw le-ltb

few_one : (f n : ℕ) → n < 10 → places f n ≡ 1
unfolding places
few_one zero n h = refl
few_one (suc f) n h = rw lt-ltb

-- the fewest digits are the places
fewest : (f n k : ℕ) → k ≤ suc f → IsDigitCount 10 1 n k → k ≡ places f n
fewest f n zero a w = absurd (omega arith)
fewest f n (suc zero) a w = sym (few_one f n (omega (arith, w.1)))
fewest zero n (suc (suc k)) a w = absurd (omega arith)
fewest (suc f) n (suc (suc k)) a w =
    let z : suc (suc k) - 1 ≡ suc k = omega arith in
    let low : 10 ^ suc k ≤ n = rw z at (w.2 (omega arith)) in
    let p : 10 ^ suc k ≡ 10 ^ k * 10 = pow-suc 10 k in
    let q : 10 ^ suc (suc k) ≡ 10 ^ suc k * 10 = pow-suc 10 (suc k) in
    let one : 10 ^ 0 ≤ 10 ^ k = pow-le-pow_right {n = 10} (omega arith) {i = 0} {j = k} (omega arith) in
    let y : suc k - 1 ≡ k = omega arith in
    let ih : suc k ≡ places f (n / 10) = fewest f (n / 10) (suc k) (omega arith) (omega arith, omega (arith, w.1), λ g. rw y (omega arith)) in
    ap suc ih ∙ sym (few_more f n (omega arith))

short : (n k : ℕ) → n < 2 ^ 64 → IsDigitCount 10 1 n k → k ≤ 20
short n k h w = go (tri k 20)
  where
    go : Tri k 20 → k ≤ 20
    go (lt g) = omega arith
    go (eq g) = omega arith
    go (gt g) =
        let up : 10 ^ 20 ≤ 10 ^ (k - 1) = pow-le-pow_right {n = 10} (omega arith) {i = 20} {j = k - 1} (omega arith) in
        absurd (omega (arith, w.2 (omega arith)))

pub decimal_is : (n m k : ℕ) → IsDigitCount 10 1 m k → m ≡ n → n < 2 ^ 64 → last_digits 10 k m ≡ decimal n
unfolding decimal
decimal_is n m k w e h = rw e (ap (λ (j : ℕ). last_digits 10 j n) (fewest 19 n k (short n k h (rw e at w)) (rw e at w)))

-- a byte has two digits
pub two : (b k : ℕ) → b < 256 → IsDigitCount 16 2 b k → k ≡ 2
two b zero h w = absurd (omega arith)
two b (suc zero) h w = absurd (omega arith)
two b (suc (suc zero)) h w = refl
two b (suc (suc (suc k))) h w =
    let z : suc (suc (suc k)) - 1 ≡ suc (suc k) = omega arith in
    let low : 16 ^ suc (suc k) ≤ b = rw z at (w.2 (omega arith)) in
    let up : 16 ^ 2 ≤ 16 ^ suc (suc k) = pow-le-pow_right {n = 16} (omega arith) {i = 2} {j = suc (suc k)} (omega arith) in
    absurd (omega arith)

digits_size : (b k n : ℕ) → length (last_digits b k n) ≡ k
digits_size b zero n = refl
digits_size b (suc k) n = omega (arith, length-append (last_digits b k (n / b)) (hex_digit_ascii (n % b) ∷ []), digits_size b k (n / b))

places_most : (f n : ℕ) → places f n ≤ suc f
unfolding places
places_most zero n = omega arith
places_most (suc f) n = go (tri n 10) (places_most f (n / 10))
  where
    go : Tri n 10 → places f (n / 10) ≤ suc f → places (suc f) n ≤ suc (suc f)
    go (lt h) ih = omega (arith, few_one (suc f) n h)
    go (eq h) ih = omega (arith, few_more f n (omega arith))
    go (gt h) ih = omega (arith, few_more f n (omega arith))

pub decimal_most : (n : ℕ) → length (decimal n) ≤ 20
unfolding decimal
decimal_most n = omega (arith, digits_size 10 (places 19 n) n, places_most 19 n)
