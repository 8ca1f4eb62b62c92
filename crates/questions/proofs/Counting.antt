-- The openings in bytes, counted as the set digits of a number.
use mathlib.Core.Path.{◌≡◌, ap, ◌∙◌}
use mathlib.Core.Bool.{true, false}
use mathlib.Core.List.{List}
use Prim.Native.Nat.{ℕ, zero, suc, ◌+◌, ◌-◌, ◌*◌, ◌/◌, ◌%◌, ◌^◌, ◌≤◌, ◌<◌}
use native.Mathlib.Omega.{arith}
use native.Mathlib.Numerals.{add-one}
use lib.Count as Count
use lib.Dec.{eqb}
use lib.ListN.{length, get_or}
use lib.Pow.{shr-shr}
use Rattle.suffix.specs.Search.{count_below}
use Rattle.refusal.specs.Conditions.{byte_bit, openings}
use Rattle.excess.proofs.Sums.{ones}
use Rattle.excess.proofs.Bits.{count_byte}

-- a digit of b is counted
counted : (b d : ℕ) → ones b (suc d) ≡ ones b d + b / 2 ^ d % 2
unfolding count_below byte_bit
counted b d = go (b / 2 ^ d % 2) (omega arith)
  where
    go : (v : ℕ) → v < 2 → elim (eqb v 1) [ true ↦ suc (ones b d) | false ↦ ones b d ] ≡ ones b d + v
    go zero h = omega arith
    go (suc zero) h = omega arith
    go (suc (suc v)) h = absurd (omega arith)

-- the lowest d digits, and the others
digits_apart : (b d : ℕ) → Count.ones b ≡ ones b d + Count.ones (b / 2 ^ d)
unfolding count_below
digits_apart b zero = let z : b / 2 ^ 0 ≡ b = omega arith in rw z (omega arith)
digits_apart b (suc d) =
    let z : b / 2 ^ d / 2 ≡ b / 2 ^ suc d = shr-shr b d 1 ∙ ap (λ k. b / 2 ^ k) (add-one d) in
    omega (arith, digits_apart b d, Count.ones_step (b / 2 ^ d), counted b d, ap Count.ones z)

byte_ones : (b : ℕ) → b < 256 → Count.ones b ≡ ones b 8
unfolding Count.ones Count.ones_in
byte_ones b h =
    let z : b / 2 ^ 8 ≡ 0 = omega arith in
    omega (arith, digits_apart b 8, ap Count.ones z)

-- the openings from byte j on, up to bit e, are the set digits of w
abbrev pub CountedFrom : List ℕ → ℕ → ℕ → ℕ → Type 0
CountedFrom t j w e = openings t (8 * j) + Count.ones w ≡ openings t e

pub counted_byte : (t : List ℕ) (j : ℕ) → get_or t j 0 < 256 → CountedFrom t j (get_or t j 0) (8 * j + 8)
counted_byte t j h = omega (arith, count_byte t j 8 (omega arith), byte_ones (get_or t j 0) h)

-- one byte more
pub counted_joined : (t : List ℕ) (j k w e : ℕ) → k ≡ j + 1 → get_or t j 0 < 256 → CountedFrom t k w e → CountedFrom t j (w * 256 + get_or t j 0) e
counted_joined t j k w e q h c =
    let z : 8 * k ≡ 8 * j + 8 = omega arith in
    omega (arith, counted_byte t j h, Count.ones_cat 8 w (get_or t j 0) h, rw z at c)

-- so many bytes are passed, and so many openings are still to pass before the one that is looked for
pub record Passing (t : List ℕ) (i byte left : ℕ) : Type 0 where
  pub within : byte ≤ length t
  pub count : openings t (8 * byte) + left ≡ i

-- m bytes more, with k openings
pub passed_bytes : (m : ℕ) {t : List ℕ} {i byte left k : ℕ} → Passing t i byte left → byte + m ≤ length t → openings t (8 * byte) + k ≡ openings t (8 * byte + 8 * m) → k ≤ left → Passing t i (byte + m) (left - k)
passed_bytes m {t} {i} {byte} P h e w =
    let z : 8 * (byte + m) ≡ 8 * byte + 8 * m = omega arith in
    record { within = h; count = rw z (omega (arith, e, P.count)) }
