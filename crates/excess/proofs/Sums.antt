-- The sums of a byte's brackets as natural numbers: its openings, and how far the running sum falls below its start.
use mathlib.Core.Path.{◌≡◌, refl, ap, ap₂, ◌∙◌}
use Prim.Native.Nat.{ℕ, zero, suc, ◌+◌, ◌-◌, ◌*◌, ◌≤◌, max}
use native.Mathlib.Omega.{arith}
use lib.Dec.{ltb}
use lib.IntN.{sub_ℕ}
use borrow.Author.Tests.{ltb-true, ltb-false}
use Rattle.suffix.specs.Search.{count_below, maximum_below}
use Rattle.suffix.proofs.Cases.{Test, holds, fails, test}
use Rattle.suffix.proofs.Search.{count_yes, count_no, count_most, maximum_most, maximum_least}
use Rattle.refusal.specs.Conditions.{byte_bit}
use Rattle.excess.specs.Excess.{excess, lower, lowest_to}
use Rattle.excess.proofs.Differences.{sub_same, sub_plus, sub_less}

-- the openings among the first m bits
abbrev pub ones : ℕ → ℕ → ℕ
ones b m = count_below m (byte_bit b)

-- how far below its start the sum falls within the first m bits
unfoldable pub dip : ℕ → ℕ → ℕ
dip b m = maximum_below (suc m) (λ i. i - 2 * ones b i)

pub ones_most : (b m : ℕ) → ones b m ≤ m
ones_most b m = count_most (byte_bit b) m

pub dip_under : (b m c : ℕ) → ((i : ℕ) → i ≤ m → i ≤ 2 * ones b i + c) → dip b m ≤ c
unfolding dip
dip_under b m c f = maximum_most (λ i. i - 2 * ones b i) (suc m) c (λ i h. omega (arith, f i (omega arith)))

pub dip_most : (b m : ℕ) → dip b m ≤ m
dip_most b m = dip_under b m m (λ i h. omega arith)

pub dip_least : (b m i : ℕ) → i ≤ m → i ≤ 2 * ones b i + dip b m
unfolding dip
dip_least b m i h = omega (arith, maximum_least (λ i. i - 2 * ones b i) (suc m) i (omega arith))

pub excess_is : (b m : ℕ) → excess b m ≡ sub_ℕ (2 * ones b m) m
unfolding count_below
excess_is b zero = refl
excess_is b (suc m) = go (test (byte_bit b m)) (excess_is b m)
  where
    go : Test (byte_bit b m) → excess b m ≡ sub_ℕ (2 * ones b m) m → excess b (suc m) ≡ sub_ℕ (2 * ones b (suc m)) (suc m)
    go (holds e) ih =
        rw (e, ih)
        (sub_plus (2 * ones b m) m 1 0 ∙ sub_same (2 * ones b m + 1) (m + 0) (2 * ones b (suc m)) (suc m) (omega (arith, count_yes (byte_bit b) m e)))
    go (fails e) ih =
        rw (e, ih)
        (sub_plus (2 * ones b m) m 0 1 ∙ sub_same (2 * ones b m + 0) (m + 1) (2 * ones b (suc m)) (suc m) (omega (arith, count_no (byte_bit b) m e)))

-- the lower of two differences
pub lower_is : (d a b : ℕ) → lower (sub_ℕ 0 d) (sub_ℕ a b) ≡ sub_ℕ 0 (max d (b - a))
lower_is d a b = go (test (ltb (a + d) (0 + b)))
  where
    go : Test (ltb (a + d) (0 + b)) → lower (sub_ℕ 0 d) (sub_ℕ a b) ≡ sub_ℕ 0 (max d (b - a))
    go (holds e) =
        let h = ltb-true (a + d) (0 + b) e in
        rw (sub_less a b 0 d ∙ e, lower) (sub_same a b 0 (max d (b - a)) (omega arith))
    go (fails e) =
        let h = ltb-false (a + d) (0 + b) e in
        rw (sub_less a b 0 d ∙ e, lower) (sub_same 0 d 0 (max d (b - a)) (omega arith))

pub lowest_is : (b m : ℕ) → lowest_to b m ≡ sub_ℕ 0 (dip b m)
unfolding dip maximum_below count_below
lowest_is b zero = refl
lowest_is b (suc m) =
    ap₂ lower (lowest_is b m) (excess_is b (suc m))
    ∙ lower_is (dip b m) (2 * ones b (suc m)) (suc m)
    ∙ ap (sub_ℕ 0) {x = max (dip b m) (suc m - 2 * ones b (suc m))} {y = dip b (suc m)} (omega arith)
