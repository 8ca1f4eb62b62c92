-- A byte as two half bytes, the lower one first: what of the two makes that of the byte.
use mathlib.Core.Path.{◌≡◌, sym, ap, ap₂, ◌∙◌}
use Prim.Native.Nat.{ℕ, zero, suc, ◌+◌, ◌-◌, ◌*◌, ◌/◌, ◌%◌, ◌^◌, ◌≤◌, ◌<◌, max}
use native.Mathlib.Omega.{arith}
use lib.Dec.{eqb}
use lib.IntN.{sub_ℕ, ◌+ℤ◌}
use Rattle.suffix.specs.Search.{count_below}
use Rattle.suffix.proofs.Cases.{Tri, lt, eq, gt, tri, Test, holds, fails, test}
use Rattle.suffix.proofs.Search.{count_yes, count_no, count_same}
use Rattle.refusal.specs.Conditions.{byte_bit}
use Rattle.excess.specs.Excess.{lower, byte_excess, byte_min_excess, half_excess, half_min_excess}
use Rattle.excess.specs.Claims.{HalvesMakeBytes}
use Rattle.excess.proofs.Differences.{sub_plus, sub_same}
use Rattle.excess.proofs.Sums.{ones, dip, dip_under, dip_least, excess_is, lower_is, lowest_is}

module _ (b : ℕ) where
  lower_bit : (i : ℕ) → i < 4 → byte_bit b i ≡ byte_bit (b % 16) i
  unfolding byte_bit
  lower_bit zero h = ap (λ v. eqb v 1) {x = b / 2 ^ 0 % 2} {y = b % 16 / 2 ^ 0 % 2} (omega arith)
  lower_bit (suc zero) h = ap (λ v. eqb v 1) {x = b / 2 ^ 1 % 2} {y = b % 16 / 2 ^ 1 % 2} (omega arith)
  lower_bit (suc (suc zero)) h = ap (λ v. eqb v 1) {x = b / 2 ^ 2 % 2} {y = b % 16 / 2 ^ 2 % 2} (omega arith)
  lower_bit (suc (suc (suc zero))) h = ap (λ v. eqb v 1) {x = b / 2 ^ 3 % 2} {y = b % 16 / 2 ^ 3 % 2} (omega arith)
  lower_bit (suc (suc (suc (suc i)))) h = absurd (omega arith)

  upper_bit : (i : ℕ) → i < 4 → byte_bit b (4 + i) ≡ byte_bit (b / 16) i
  unfolding byte_bit
  upper_bit zero h = ap (λ v. eqb v 1) {x = b / 2 ^ 4 % 2} {y = b / 16 / 2 ^ 0 % 2} (omega arith)
  upper_bit (suc zero) h = ap (λ v. eqb v 1) {x = b / 2 ^ 5 % 2} {y = b / 16 / 2 ^ 1 % 2} (omega arith)
  upper_bit (suc (suc zero)) h = ap (λ v. eqb v 1) {x = b / 2 ^ 6 % 2} {y = b / 16 / 2 ^ 2 % 2} (omega arith)
  upper_bit (suc (suc (suc zero))) h = ap (λ v. eqb v 1) {x = b / 2 ^ 7 % 2} {y = b / 16 / 2 ^ 3 % 2} (omega arith)
  upper_bit (suc (suc (suc (suc i)))) h = absurd (omega arith)

  pub ones_lower : (m : ℕ) → m ≤ 4 → ones b m ≡ ones (b % 16) m
  ones_lower m h = count_same (byte_bit b) (byte_bit (b % 16)) m (λ k w. lower_bit k (omega arith))

  ones_upper : (m : ℕ) → m ≤ 4 → ones b (4 + m) ≡ ones (b % 16) 4 + ones (b / 16) m
  unfolding count_below
  ones_upper zero h = omega (arith, ones_lower 4 (omega arith))
  ones_upper (suc m) h = go (test (byte_bit (b / 16) m)) (ones_upper m (omega arith))
    where
      z : suc (4 + m) ≡ 4 + suc m
      z = omega arith

      go : Test (byte_bit (b / 16) m) → ones b (4 + m) ≡ ones (b % 16) 4 + ones (b / 16) m → ones b (4 + suc m) ≡ ones (b % 16) 4 + ones (b / 16) (suc m)
      go (holds e) ih =
          ap (ones b) (sym z) ∙ omega (arith, ih, count_yes (byte_bit b) (4 + m) (upper_bit m h ∙ e), count_yes (byte_bit (b / 16)) m e)
      go (fails e) ih =
          ap (ones b) (sym z) ∙ omega (arith, ih, count_no (byte_bit b) (4 + m) (upper_bit m h ∙ e), count_no (byte_bit (b / 16)) m e)

  pub dip_lower : dip b 4 ≤ dip (b % 16) 4
  dip_lower = dip_under b 4 (dip (b % 16) 4) (λ i h. omega (arith, ones_lower i h, dip_least (b % 16) 4 i h))

  -- the openings of a byte
  pub ones_halves : ones b 8 ≡ ones (b % 16) 4 + ones (b / 16) 4
  ones_halves = ones_upper 4 (omega arith)

  -- how far the sum falls in a byte
  pub dip_halves : dip b 8 ≡ max (dip (b % 16) 4) (dip (b / 16) 4 + 4 - 2 * ones (b % 16) 4)
  dip_halves = omega (arith, most, near, far, dip_least b 8 4 (omega arith), ones_lower 4 (omega arith))
    where
      most : dip b 8 ≤ max (dip (b % 16) 4) (dip (b / 16) 4 + 4 - 2 * ones (b % 16) 4)
      most = dip_under b 8 (max (dip (b % 16) 4) (dip (b / 16) 4 + 4 - 2 * ones (b % 16) 4)) (λ i h. go i h (tri i 4))
        where
          go : (i : ℕ) → i ≤ 8 → Tri i 4 → i ≤ 2 * ones b i + max (dip (b % 16) 4) (dip (b / 16) 4 + 4 - 2 * ones (b % 16) 4)
          go i h (lt k) = omega (arith, ones_lower i (omega arith), dip_least (b % 16) 4 i (omega arith))
          go i h (eq k) = omega (arith, ones_lower i (omega arith), dip_least (b % 16) 4 i (omega arith))
          go i h (gt k) =
              let z : 4 + (i - 4) ≡ i = omega arith in
              omega (arith, rw z at (ones_upper (i - 4) (omega arith)), dip_least (b / 16) 4 (i - 4) (omega arith))

      near : dip (b % 16) 4 ≤ dip b 8
      near = dip_under (b % 16) 4 (dip b 8) (λ i h. omega (arith, ones_lower i h, dip_least b 8 i (omega arith)))

      far : dip (b / 16) 4 ≤ dip b 8 + 2 * ones (b % 16) 4 - 4
      far =
          dip_under (b / 16) 4 (dip b 8 + 2 * ones (b % 16) 4 - 4)
          (λ i h. omega (arith, ones_upper i h, dip_least b 8 (4 + i) (omega arith), dip_least b 8 4 (omega arith), ones_lower 4 (omega arith)))

-- the two numbers of a half byte
pub half_excess_lem : (h : ℕ) → half_excess h ≡ sub_ℕ (2 * ones h 4) 4
unfolding half_excess
half_excess_lem h = excess_is h 4

pub half_lowest : (h : ℕ) → half_min_excess h ≡ sub_ℕ 0 (dip h 4)
unfolding half_min_excess
half_lowest h = lowest_is h 4

pub halves_make_bytes : HalvesMakeBytes
unfolding byte_excess byte_min_excess
halves_make_bytes b = (
  excess_is b 8
      ∙ sub_same (2 * ones b 8) 8 (2 * ones (b % 16) 4 + 2 * ones (b / 16) 4) 8 (omega (arith, ones_halves b))
      ∙ sym (sub_plus (2 * ones (b % 16) 4) 4 (2 * ones (b / 16) 4) 4)
      ∙ sym (ap₂ (λ x y. x +ℤ y) (half_excess_lem (b % 16)) (half_excess_lem (b / 16))),
  lowest_is b 8
      ∙ ap (sub_ℕ 0) {x = dip b 8} {y = max (dip (b % 16) 4) (4 + dip (b / 16) 4 - (2 * ones (b % 16) 4 + 0))} (omega (arith, dip_halves b))
      ∙ sym (lower_is (dip (b % 16) 4) (2 * ones (b % 16) 4 + 0) (4 + dip (b / 16) 4))
      ∙ sym (ap₂ lower (half_lowest (b % 16)) (ap₂ (λ x y. x +ℤ y) (half_excess_lem (b % 16)) (half_lowest (b / 16)) ∙ sub_plus (2 * ones (b % 16) 4) 4 0 (dip (b / 16) 4))),
)
