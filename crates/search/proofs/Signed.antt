-- The code's signed numbers, and the entries of the tables.
use mathlib.Core.Path.{◌≡◌, refl, ap, ap₂, ◌∙◌}
use mathlib.Core.Bool.{Bool, true, false, true≢false}
use mathlib.Core.List.{List}
use Prim.Native.Nat.{ℕ, zero, suc, ◌+◌, ◌*◌, ◌≤◌, ◌<◌}
use native.Mathlib.Omega.{arith}
use lib.IntN.{ℤ, pos, negsuc, sub_ℕ, ◌+ℤ◌, ◌-ℤ◌}
use lib.ListN.{get_or}
use lib.Signed.{mag, lt_z}
use borrow.Author.Tests.{le-ltb}
use mir.Syntax.{Width, w32, w64}
use mir.Val.{SFits, to_z, of_z}
use mir.Facts.{to_z-of_z}
use Rattle.excess.specs.Excess.{half_excess, half_min_excess, list_from, excesses, min_excesses}
use Rattle.excess.proofs.Entries.{entry}
use Rattle.excess.proofs.Differences.{neg_sub, mag_sub, mag_plus}
use Rattle.excess.proofs.Sums.{ones, dip, ones_most, dip_most}
use Rattle.excess.proofs.Halves.{half_excess_lem, half_lowest}
use Rattle.search.specs.Steps.{is_minus, turned_sum}

-- a number that fits is what its bits say
pub back : (z : ℤ) → mag z < 2147483648 → to_z w32 (of_z w32 z) ≡ z
back z h = to_z-of_z {w = w32} {z = z} (record { sfits = h })

pub fits : {z : ℤ} → mag z < 2147483648 → SFits w32 z
fits h = record { sfits = h }

pub negative : (z : ℤ) → lt_z z (pos 0) ≡ is_minus z
negative (pos v) = le-ltb v 0 (omega arith)
negative (negsuc v) = refl

-- a sum that is not below 0
pub not_minus : (z : ℤ) → is_minus z ≡ false → z ≡ pos (mag z)
not_minus (pos v) e = refl
not_minus (negsuc v) e = absurd (true≢false e)

-- ---- entries of the tables, as the code reads them

pub excess_near : (h : ℕ) → mag (half_excess h) ≤ 12
excess_near h = rw (half_excess_lem h) (omega (arith, mag_sub (2 * ones h 4) 4, ones_most h 4))

lowest_near : (h : ℕ) → mag (half_min_excess h) ≤ 12
lowest_near h = rw (half_lowest h) (omega (arith, mag_sub 0 (dip h 4), dip_most h 4))

-- in a table of whichever width
entry_read : (w : Width) (f : ℕ → ℤ) (h : ℕ) → h < 16 → SFits w (f h) → {t : List ℤ} → t ≡ list_from 0 16 f → to_z w (of_z w (get_or t h (pos 0))) ≡ f h
entry_read w f h k s {t} e = ap (λ z. to_z w (of_z w z)) (entry f t h k e) ∙ to_z-of_z {w = w} {z = f h} s

pub excess_entry : (h : ℕ) → h < 16 → {t : List ℤ} → t ≡ excesses → to_z w64 (of_z w64 (get_or t h (pos 0))) ≡ half_excess h
excess_entry h k e = entry_read w64 half_excess h k (record { sfits = omega (arith, excess_near h) }) e

-- ---- sums, as the code computes them

module _ (z : ℤ) (small : mag z ≤ 3000000) (h : ℕ) (k : h < 16) where
  near : (c d : ℕ) → c + d ≤ 12 → mag (z +ℤ sub_ℕ c d) < 2147483648
  near c d w = omega (arith, mag_plus z c d)

  sum_read : {t : List ℤ} → t ≡ excesses → to_z w32 (of_z w32 (to_z w64 (of_z w64 (get_or t h (pos 0))))) ≡ half_excess h
  sum_read e = ap (λ y. to_z w32 (of_z w32 y)) (excess_entry h k e) ∙ back (half_excess h) (omega (arith, excess_near h))

  pub end_is : {t : List ℤ} → t ≡ excesses → to_z w32 (of_z w32 z) +ℤ to_z w32 (of_z w32 (to_z w64 (of_z w64 (get_or t h (pos 0))))) ≡ z +ℤ half_excess h
  end_is e = ap₂ (λ x y. x +ℤ y) (back z (omega arith)) (sum_read e)

  pub end_fits : mag (z +ℤ half_excess h) < 2147483648
  end_fits = rw (half_excess_lem h) (near (2 * ones h 4) 4 (omega (arith, ones_most h 4)))

  pub start_is : {t : List ℤ} → t ≡ excesses → to_z w32 (of_z w32 z) -ℤ to_z w32 (of_z w32 (to_z w64 (of_z w64 (get_or t h (pos 0))))) ≡ z -ℤ half_excess h
  start_is e = ap₂ (λ x y. x -ℤ y) (back z (omega arith)) (sum_read e)

  pub start_fits : mag (z -ℤ half_excess h) < 2147483648
  start_fits = rw (half_excess_lem h, neg_sub (2 * ones h 4) 4) (near 4 (2 * ones h 4) (omega (arith, ones_most h 4)))

  pub lowest_is : {t : List ℤ} → t ≡ min_excesses → to_z w32 (of_z w32 z) +ℤ to_z w32 (of_z w32 (get_or t h (pos 0))) ≡ z +ℤ half_min_excess h
  lowest_is e = ap₂ (λ x y. x +ℤ y) (back z (omega arith)) (entry_read w32 half_min_excess h k (fits (omega (arith, lowest_near h))) e)

  pub lowest_fits : mag (z +ℤ half_min_excess h) < 2147483648
  lowest_fits = rw (half_lowest h) (near 0 (dip h 4) (omega (arith, dip_most h 4)))

-- a half byte changes the sum by little
module _ (z : ℤ) {bound : ℕ} (small : mag z ≤ bound) (h : ℕ) {came : ℤ} where
  pub end_small : came ≡ z +ℤ half_excess h → mag came ≤ bound + 13
  end_small e = rw (e, half_excess_lem h) (omega (arith, mag_plus z (2 * ones h 4) 4, ones_most h 4))

  pub start_small : came ≡ z -ℤ half_excess h → mag came ≤ bound + 13
  start_small e = rw (e, half_excess_lem h, neg_sub (2 * ones h 4) 4) (omega (arith, mag_plus z 4 (2 * ones h 4), ones_most h 4))

pub mag_turned : (up : Bool) (v : ℕ) → mag (turned_sum up v) ≤ v + 1
mag_turned true v = omega arith
mag_turned false zero = omega arith
mag_turned false (suc v) = omega arith
