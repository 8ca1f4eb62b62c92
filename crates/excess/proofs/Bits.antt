-- The bits of byte j among those of all bytes.
use mathlib.Core.Path.{◌≡◌, sym, ap, ◌∙◌}
use mathlib.Core.Bool.{Bool}
use mathlib.Core.List.{List}
use Prim.Native.Nat.{ℕ, zero, suc, ◌+◌, ◌*◌, ◌/◌, ◌%◌, ◌≤◌, ◌<◌}
use native.Mathlib.Omega.{arith}
use lib.ListN.{get_or}
use Rattle.suffix.specs.Search.{count_below}
use Rattle.suffix.proofs.Cases.{Test, holds, fails, test}
use Rattle.suffix.proofs.Search.{count_yes, count_no, count_same}
use Rattle.refusal.specs.Conditions.{byte_bit, bit_of}
use Rattle.excess.proofs.Sums.{ones}

module _ (t : List ℕ) (j : ℕ) where
  pub byte_bit_lem : (m : ℕ) → m < 8 → bit_of t (8 * j + m) ≡ byte_bit (get_or t j 0) m
  unfolding bit_of
  byte_bit_lem m h = let u : (8 * j + m) / 8 ≡ j = omega arith in let w : (8 * j + m) % 8 ≡ m = omega arith in rw (u, w)

  -- the same bit, as it is read
  pub read_bit : {m : ℕ} → m < 8 → {b : Bool} → b ≡ byte_bit (get_or t j 0) (m % 8) → b ≡ bit_of t (8 * j + m)
  read_bit {m} h e = let z : m % 8 ≡ m = omega arith in e ∙ ap (byte_bit (get_or t j 0)) z ∙ sym (byte_bit_lem m h)

  -- the openings among its first bits
  pub byte_count : (m : ℕ) → m ≤ 8 → count_below m (λ i. bit_of t (8 * j + i)) ≡ ones (get_or t j 0) m
  byte_count m h = count_same (λ i. bit_of t (8 * j + i)) (byte_bit (get_or t j 0)) m (λ i k. byte_bit_lem i (omega arith))

  -- and among all up to there
  pub count_byte : (m : ℕ) → m ≤ 8 → count_below (8 * j + m) (bit_of t) ≡ count_below (8 * j) (bit_of t) + ones (get_or t j 0) m
  unfolding count_below
  count_byte zero h = ap (λ k. count_below k (bit_of t)) {x = 8 * j + 0} {y = 8 * j} (omega arith) ∙ omega arith
  count_byte (suc m) h = go (test (byte_bit (get_or t j 0) m)) (count_byte m (omega arith))
    where
      g : ℕ → Bool
      g = bit_of t

      z : suc (8 * j + m) ≡ 8 * j + suc m
      z = omega arith

      go : Test (byte_bit (get_or t j 0) m) → count_below (8 * j + m) g ≡ count_below (8 * j) g + ones (get_or t j 0) m → count_below (8 * j + suc m) g ≡ count_below (8 * j) g + ones (get_or t j 0) (suc m)
      go (holds e) ih = omega (arith, count_yes g (8 * j + m) (byte_bit_lem m h ∙ e), ap (λ k. count_below k g) z, count_yes (byte_bit (get_or t j 0)) m e)
      go (fails e) ih = omega (arith, count_no g (8 * j + m) (byte_bit_lem m h ∙ e), ap (λ k. count_below k g) z, count_no (byte_bit (get_or t j 0)) m e)
