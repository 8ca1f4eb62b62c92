-- A byte in which the sum does not fall, passed as two half bytes.
use mathlib.Core.Path.{◌≡◌, refl, sym, ap, ap₂, ◌∙◌}
use mathlib.Core.Bool.{false}
use mathlib.Core.List.{List}
use Prim.Native.Nat.{ℕ, ◌+◌, ◌-◌, ◌*◌, ◌/◌, ◌%◌, ◌≤◌}
use native.Mathlib.Omega.{arith}
use lib.Dec.{ltb}
use lib.IntN.{ℤ, pos, sub_ℕ, ◌+ℤ◌, ◌-ℤ◌}
use lib.ListN.{get_or}
use lib.Signed.{mag}
use borrow.Author.Tests.{lt-ltb, le-ltb, ltb-false}
use Rattle.suffix.proofs.Cases.{Tri, lt, eq, gt, tri}
use Rattle.refusal.specs.Conditions.{bit_of}
use Rattle.excess.specs.Excess.{half_excess, half_min_excess}
use Rattle.excess.proofs.Differences.{sub_up, sub_down, add_sub, sub_sub, sub_plus, neg_sub}
use Rattle.excess.proofs.Sums.{ones, dip, dip_least}
use Rattle.excess.proofs.Halves.{ones_lower, dip_lower, ones_halves, dip_halves, half_excess_lem, half_lowest}
use Rattle.excess.proofs.Bits.{byte_count}
use Rattle.search.specs.Searching.{walk_on, walk_back}
use Rattle.search.specs.Steps.{is_minus}
use Rattle.search.proofs.Walks.{on_same, on_many, back_same, back_many}

-- a difference that is not below 0
minus_sub : (a b : ℕ) → is_minus (sub_ℕ a b) ≡ ltb a b
minus_sub a b = go (tri a b)
  where
    up : b ≤ a → is_minus (sub_ℕ a b) ≡ ltb a b
    up h = ap is_minus (sub_up a b h) ∙ sym (le-ltb a b h)

    go : Tri a b → is_minus (sub_ℕ a b) ≡ ltb a b
    go (lt h) = ap is_minus (sub_down a b h) ∙ sym (lt-ltb a b h)
    go (eq h) = up (omega arith)
    go (gt h) = up (omega arith)

above : (a b : ℕ) {z : ℤ} → z ≡ sub_ℕ a b → is_minus z ≡ false → b ≤ a
above a b e m = ltb-false a b (sym (minus_sub a b) ∙ sym (ap is_minus e) ∙ m)

-- the sums x at the start of a byte and y behind its first m bits, between which it does not fall below 0
pub record Along (b m x y : ℕ) : Type 0 where
  pub sums : y + m ≡ x + 2 * ones b m
  pub room : dip b m ≤ x

-- a sum that is w
pub record Is (sum : ℤ) (w : ℕ) : Type 0 where
  pub low : sum ≡ pos (mag sum)
  pub mags : mag sum ≡ w

is : {sum : ℤ} {w : ℕ} → sum ≡ pos w → Is sum w
is e = record { low = e ∙ ap pos (sym (ap mag e)); mags = ap mag e }

-- what the two tests of a byte tell
module _ (b : ℕ) where
  abbrev o₁ : ℕ
  o₁ = ones (b % 16) 4

  abbrev o₂ : ℕ
  o₂ = ones (b / 16) 4

  abbrev d₁ : ℕ
  d₁ = dip (b % 16) 4

  abbrev d₂ : ℕ
  d₂ = dip (b / 16) 4

  -- and the first of them alone
  pub tested_half : {sum came : ℤ} → sum ≡ pos (mag sum) → is_minus (sum +ℤ half_min_excess (b % 16)) ≡ false → came ≡ sum +ℤ half_excess (b % 16)
      → (came ≡ pos (mag came)) × Along b 4 (mag sum) (mag came)
  tested_half {sum} {came} low m e =
      let v = mag sum in
      let near : d₁ ≤ v + 0 = above (v + 0) d₁ (ap₂ (λ x y. x +ℤ y) low (half_lowest (b % 16)) ∙ add_sub v 0 d₁) m in
      let last = dip_least (b % 16) 4 4 (omega arith) in
      let I = is (e ∙ ap₂ (λ x y. x +ℤ y) low (half_excess_lem (b % 16)) ∙ add_sub v (2 * o₁) 4 ∙ sub_up (v + 2 * o₁) 4 (omega arith)) in
      (I.low, record { sums = omega (arith, I.mags, ones_lower b 4 (omega arith)); room = omega (arith, dip_lower b) })

  pub tested_on : {sum middle came : ℤ} → sum ≡ pos (mag sum) → is_minus (sum +ℤ half_min_excess (b % 16)) ≡ false → middle ≡ sum +ℤ half_excess (b % 16) → is_minus (middle +ℤ half_min_excess (b / 16)) ≡ false → came ≡ middle +ℤ half_excess (b / 16)
      → (came ≡ pos (mag came)) × Along b 8 (mag sum) (mag came)
  tested_on {sum} {middle} {came} low m₁ e₁ m₂ e₂ =
      let v = mag sum in
      let near : d₁ ≤ v + 0 = above (v + 0) d₁ (ap₂ (λ x y. x +ℤ y) low (half_lowest (b % 16)) ∙ add_sub v 0 d₁) m₁ in
      let half : middle ≡ sub_ℕ (v + 2 * o₁) 4 = e₁ ∙ ap₂ (λ x y. x +ℤ y) low (half_excess_lem (b % 16)) ∙ add_sub v (2 * o₁) 4 in
      let far : 4 + d₂ ≤ v + 2 * o₁ + 0 = above (v + 2 * o₁ + 0) (4 + d₂) (ap₂ (λ x y. x +ℤ y) half (half_lowest (b / 16)) ∙ sub_plus (v + 2 * o₁) 4 0 d₂) m₂ in
      let last = dip_least (b / 16) 4 4 (omega arith) in
      let I = is (e₂ ∙ ap₂ (λ x y. x +ℤ y) half (half_excess_lem (b / 16)) ∙ sub_plus (v + 2 * o₁) 4 (2 * o₂) 4 ∙ sub_up (v + 2 * o₁ + 2 * o₂) 8 (omega arith)) in
      (I.low, record { sums = omega (arith, I.mags, ones_halves b); room = omega (arith, dip_halves b) })

  pub tested_back : {sum middle came : ℤ} → sum ≡ pos (mag sum) → middle ≡ sum -ℤ half_excess (b / 16) → is_minus (middle +ℤ half_min_excess (b / 16)) ≡ false → came ≡ middle -ℤ half_excess (b % 16) → is_minus (came +ℤ half_min_excess (b % 16)) ≡ false
      → (came ≡ pos (mag came)) × Along b 8 (mag came) (mag sum)
  tested_back {sum} {middle} {came} low e₁ m₁ e₂ m₂ =
      let v = mag sum in
      let half : middle ≡ sub_ℕ (v + 4) (2 * o₂) = e₁ ∙ ap₂ (λ x y. x -ℤ y) low (half_excess_lem (b / 16)) ∙ sub_sub v (2 * o₂) 4 in
      let far : 2 * o₂ + d₂ ≤ v + 4 + 0 = above (v + 4 + 0) (2 * o₂ + d₂) (ap₂ (λ x y. x +ℤ y) half (half_lowest (b / 16)) ∙ sub_plus (v + 4) (2 * o₂) 0 d₂) m₁ in
      let start : came ≡ sub_ℕ (v + 4 + 4) (2 * o₂ + 2 * o₁) =
      e₂ ∙ ap₂ (λ x y. x -ℤ y) half (half_excess_lem (b % 16)) ∙ ap (λ y. sub_ℕ (v + 4) (2 * o₂) +ℤ y) (neg_sub (2 * o₁) 4) ∙ sub_plus (v + 4) (2 * o₂) 4 (2 * o₁) in
      let near : 2 * o₂ + 2 * o₁ + d₁ ≤ v + 4 + 4 + 0 =
      above (v + 4 + 4 + 0) (2 * o₂ + 2 * o₁ + d₁) (ap₂ (λ x y. x +ℤ y) start (half_lowest (b % 16)) ∙ sub_plus (v + 4 + 4) (2 * o₂ + 2 * o₁) 0 d₁) m₂ in
      let I = is (start ∙ sub_up (v + 4 + 4) (2 * o₂ + 2 * o₁) (omega arith)) in
      (I.low, record { sums = omega (arith, I.mags, ones_halves b); room = omega (arith, I.mags, dip_halves b) })

-- the walk over the first bits of such a byte, up to bit k
pub along_on : (t : List ℕ) (j m : ℕ) → m ≤ 8 → {x y : ℕ} → Along (get_or t j 0) m x y → (k e : ℕ) → k ≡ 8 * j + m → k ≤ e → walk_on (bit_of t) (e - k) k y ≡ walk_on (bit_of t) (e - 8 * j) (8 * j) x
along_on t j m w {x} {y} A k e q h =
    let c = byte_count t j m w in
    sym
    (on_same (bit_of t) {m = e - 8 * j} {n = m + (e - k)} (omega arith) refl refl
    ∙ on_many (bit_of t) (8 * j) m (e - k) x (λ i u. omega (arith, byte_count t j i (omega arith), dip_least (get_or t j 0) m i u, A.room))
    ∙ on_same (bit_of t) {k = 8 * j + m} {l = k} {w = y} refl (omega arith) (omega (arith, c, A.sums)))

-- and back over a whole one
module _ (t : List ℕ) (j : ℕ) {x y : ℕ} (A : Along (get_or t j 0) 8 x y) where
  pub along_back : walk_back (bit_of t) (8 * j) x ≡ walk_back (bit_of t) (8 * (j + 1)) y
  along_back =
      let c = byte_count t j 8 (omega arith) in
      sym
      (back_same (bit_of t) {k = 8 * (j + 1)} {l = 8 * j + 8} (omega arith) refl
      ∙ back_many (bit_of t) (8 * j) 8 y (λ i k. omega (arith, c, byte_count t j i k, dip_least (get_or t j 0) 8 i k, A.sums, A.room))
      ∙ back_same (bit_of t) {k = 8 * j} {w = x} refl (omega (arith, c, A.sums)))
