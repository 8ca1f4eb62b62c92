-- A walk through brackets, on or back: by one bracket, and by many in which the sum does not fall.
use mathlib.Core.Path.{◌≡◌, refl, ap, ◌∙◌}
use mathlib.Core.Bool.{Bool, true, false}
use Prim.Native.Nat.{ℕ, zero, suc, ◌+◌, ◌-◌, ◌*◌, ◌≤◌}
use native.Mathlib.Omega.{arith}
use Rattle.suffix.specs.Search.{count_below}
use Rattle.suffix.proofs.Cases.{Test, holds, fails, test}
use Rattle.suffix.proofs.Search.{count_yes, count_no}
use Rattle.search.specs.Searching.{lowered, walk_on, walk_back}

module _ (g : ℕ → Bool) where
  pub on_opening : (m k v : ℕ) → g k ≡ true → walk_on g (suc m) k v ≡ walk_on g m (suc k) (suc v)
  unfolding walk_on
  on_opening m k v e = rw (e, walk_on)

  pub on_closing : (m k v : ℕ) → g k ≡ false → walk_on g (suc m) k v ≡ lowered (suc k) (walk_on g m (suc k)) v
  unfolding walk_on
  on_closing m k v e = rw (e, walk_on)

  pub back_opening : (k v : ℕ) → g k ≡ true → walk_back g (suc k) v ≡ lowered k (walk_back g k) v
  unfolding walk_back
  back_opening k v e = rw (e, walk_back)

  pub back_closing : (k v : ℕ) → g k ≡ false → walk_back g (suc k) v ≡ walk_back g k (suc v)
  unfolding walk_back
  back_closing k v e = rw (e, walk_back)

  -- the same walk, its numbers said otherwise
  pub on_same : {m n k l v w : ℕ} → m ≡ n → k ≡ l → v ≡ w → walk_on g m k v ≡ walk_on g n l w
  on_same p q r = rw (p, q, r)

  pub back_same : {k l v w : ℕ} → k ≡ l → v ≡ w → walk_back g k v ≡ walk_back g l w
  back_same p q = rw (p, q)

  -- ---- the m brackets from bit a on, in which the sum does not fall

  module _ (a : ℕ) where
    abbrev count : ℕ → ℕ
    count m = count_below m (λ i. g (a + i))

    pub on_many : (m n v : ℕ) → ((i : ℕ) → i ≤ m → i ≤ v + 2 * count i) → walk_on g (m + n) a v ≡ walk_on g n (a + m) (v + 2 * count m - m)
    unfolding count_below
    on_many zero n v h = on_same {m = 0 + n} {n = n} {k = a} {l = a + 0} {v = v} {w = v + 2 * 0 - 0} (omega arith) (omega arith) (omega arith)
    on_many (suc m) n v h = on_same {m = suc m + n} {n = m + suc n} (omega arith) refl refl ∙ on_many m (suc n) v (λ i k. h i (omega arith)) ∙ go (test (g (a + m)))
      where
        go : Test (g (a + m)) → walk_on g (suc n) (a + m) (v + 2 * count m - m) ≡ walk_on g n (a + suc m) (v + 2 * count (suc m) - suc m)
        go (holds e) =
            on_opening n (a + m) (v + 2 * count m - m) e
            ∙ on_same {m = n} {n = n} {k = suc (a + m)} {l = a + suc m} {v = suc (v + 2 * count m - m)} {w = v + 2 * count (suc m) - suc m} refl (omega arith)
            (omega (arith, h m (omega arith), count_yes (λ i. g (a + i)) m e))
        go (fails e) =
            let c = count_no (λ i. g (a + i)) m e in
            let z : v + 2 * count m - m ≡ suc (v + 2 * count (suc m) - suc m) = omega (arith, h (suc m) (omega arith), c) in
            on_closing n (a + m) (v + 2 * count m - m) e
            ∙ ap (lowered (suc (a + m)) (walk_on g n (suc (a + m)))) z
            ∙ on_same {m = n} {n = n} {k = suc (a + m)} {l = a + suc m} refl (omega arith) refl

    pub back_many : (m v : ℕ) → ((i : ℕ) → i ≤ m → i + 2 * count m ≤ v + m + 2 * count i) → walk_back g (a + m) v ≡ walk_back g a (v + m - 2 * count m)
    unfolding count_below
    back_many zero v h = back_same {k = a + 0} {l = a} {v = v} {w = v + 0 - 2 * 0} (omega arith) (omega arith)
    back_many (suc m) v h = back_same {k = a + suc m} {l = suc (a + m)} (omega arith) refl ∙ go (test (g (a + m))) (λ w k. back_many m w k)
      where
        go : Test (g (a + m)) → ((w : ℕ) → ((i : ℕ) → i ≤ m → i + 2 * count m ≤ w + m + 2 * count i) → walk_back g (a + m) w ≡ walk_back g a (w + m - 2 * count m))
            → walk_back g (suc (a + m)) v ≡ walk_back g a (v + suc m - 2 * count (suc m))
        go (holds e) ih =
            let c = count_yes (λ i. g (a + i)) m e in
            let z : v ≡ suc (v - 1) = omega (arith, h m (omega arith), c) in
            back_opening (a + m) v e
            ∙ ap (lowered (a + m) (walk_back g (a + m))) z
            ∙ ih (v - 1) (λ i k. omega (arith, h i (omega arith), h m (omega arith), c))
            ∙ back_same {k = a} {l = a} {v = v - 1 + m - 2 * count m} {w = v + suc m - 2 * count (suc m)} refl (omega (arith, h m (omega arith), c))
        go (fails e) ih =
            let c = count_no (λ i. g (a + i)) m e in
            back_closing (a + m) v e
            ∙ ih (suc v) (λ i k. omega (arith, h i (omega arith), c))
            ∙ back_same {k = a} {l = a} {v = suc v + m - 2 * count m} {w = v + suc m - 2 * count (suc m)} refl (omega (arith, c))
