-- A search back: what is left to find does not change while it goes back, by bits or by whole bytes.
use mathlib.Core.Path.{◌≡◌, refl, sym, ap, ap₂, ◌∙◌}
use mathlib.Core.Logic.{◌≢◌}
use mathlib.Core.Bool.{Bool, true, false, not, true≢false}
use mathlib.Core.List.{List}
use Prim.Native.Nat.{ℕ, zero, suc, ◌+◌, ◌-◌, ◌*◌, ◌/◌, ◌%◌, ◌≤◌}
use native.Mathlib.Omega.{arith}
use lib.IntN.{ℤ, pos, negsuc, ◌+ℤ◌, ◌-ℤ◌}
use lib.ListN.{length, get_or}
use lib.Signed.{mag}
use Rattle.refusal.specs.Conditions.{bit_of}
use Rattle.excess.specs.Excess.{half_excess, half_min_excess}
use Rattle.search.specs.Searching.{walk_back}
use Rattle.search.specs.Steps.{is_minus, turned_sum, found_at, left_back, GoingBack, WentBack}
use Rattle.search.proofs.Signed.{mag_turned, not_minus}
use Rattle.search.proofs.Walks.{back_same, back_opening, back_closing}
use Rattle.search.proofs.Bytes.{tested_back, along_back}

-- one bracket back
back_bit : (t : List ℕ) (k v : ℕ) (b : Bool) → b ≡ bit_of t k → left_back t k (turned_sum (not b) v) ≡ walk_back (bit_of t) (suc k) v
back_bit t k v false e = sym (back_closing (bit_of t) k v (sym e) ∙ back_same (bit_of t) {k = k} {v = suc v} {w = v + 1} refl (omega arith))
back_bit t k zero true e = sym (back_opening (bit_of t) k 0 (sym e))
back_bit t k (suc v) true e = sym (back_opening (bit_of t) k (suc v) (sym e))

module _ {t : List ℕ} {k e : ℕ} {sum : ℤ} {at : ℕ} {came : ℤ} (G : GoingBack t k e sum at came) where
  left : left_back t at came ≡ walk_back (bit_of t) at (mag came)
  left = ap (left_back t at) G.ready.low

  module _ (ne : at ≢ e) {b : Bool} (bit : b ≡ bit_of t (at - 1)) {at' : ℕ} {came' : ℤ} (p : at' ≡ at - 1) (q : came' ≡ turned_sum (not b) (mag came)) where
    z : suc at' ≡ at
    z = omega (arith, G.ready.ahead)

    same_bit : left_back t at' came' ≡ left_back t k sum
    same_bit = rw q (back_bit t at' (mag came) b (bit ∙ ap (bit_of t) (sym p)) ∙ back_same (bit_of t) z refl ∙ sym left ∙ G.same)

    small_bit : mag came' + at' ≤ 8 * length t
    small_bit = rw q (omega (arith, mag_turned (not b) (mag came), G.ready.small, z))

    pub back_fell : is_minus came' ≡ true → WentBack t k e sum at' came'
    back_fell m = record { same = same_bit; small = small_bit; within = omega (arith, G.ready.ahead, z); ends = λ f. absurd (true≢false (sym m ∙ f)) }

    pub back_going : is_minus came' ≡ false → GoingBack t k e sum at' came'
    back_going m =
        record {
          ready = record { low = not_minus came' m; small = small_bit; ahead = omega (arith, G.ready.ahead, z); few = G.ready.few };
          same = same_bit;
        }

  -- from where it stands
  pub back_then : {at' : ℕ} {came' : ℤ} → WentBack t at e came at' came' → WentBack t k e sum at' came'
  back_then W = record { same = W.same ∙ G.same; small = W.small; within = W.within; ends = W.ends }

-- ---- whole bytes

module _ {t : List ℕ} {k : ℕ} {sum : ℤ} {j : ℕ} {came : ℤ} (G : GoingBack t k 0 sum (8 * j) came) where
  pub byte_going : j ≢ 0 → {j' : ℕ} → j' ≡ j - 1 → {b : ℕ} → b ≡ get_or t (j - 1) 0 → {middle came' : ℤ} → middle ≡ came -ℤ half_excess (b / 16) → is_minus (middle +ℤ half_min_excess (b / 16)) ≡ false
      → came' ≡ middle -ℤ half_excess (b % 16) → is_minus (came' +ℤ half_min_excess (b % 16)) ≡ false → GoingBack t k 0 sum (8 * j') came'
  byte_going ne {j'} p {b} eb {middle} {came'} e₁ m₁ e₂ m₂ =
      let z : j' + 1 ≡ j = omega arith in
      let A = tested_back b G.ready.low e₁ m₁ e₂ m₂ in
      record {
        ready =
            record { low = A.0; small = omega (arith, A.1.sums, G.ready.small); ahead = omega arith; few = G.ready.few };
        same = ap (left_back t (8 * j')) A.0 ∙ along_back t j' (rw (eb ∙ ap (λ i. get_or t i 0) (sym p)) at A.1) ∙ ap (λ x. walk_back (bit_of t) (8 * x) (mag came)) z ∙ sym (left G) ∙ G.same;
      }

-- ---- the legs of a search

-- it went back towards bit e and did not fall, and may go back to bit f
pub leg_going : {t : List ℕ} {k e f : ℕ} {sum : ℤ} {at : ℕ} {came : ℤ} → WentBack t k e sum at came → is_minus came ≡ false → f ≤ e → length t ≤ 250000 → GoingBack t k f sum at came
leg_going {came = came} W m h l = record { ready = record { low = not_minus came m; small = W.small; ahead = omega (arith, W.within); few = l }; same = W.same }

-- from a byte's edge to bit 0
module _ {t : List ℕ} {k : ℕ} {sum : ℤ} {at : ℕ} {came : ℤ} (G : GoingBack t k 0 sum at came) (j : ℕ) {start : ℤ} (edge : 8 * j ≡ at) (q : start ≡ came) where
  pub leg_passed : {at' : ℕ} {came' : ℤ} → GoingBack t (8 * j) 0 start at' came' → GoingBack t k 0 sum at' came'
  leg_passed P = record { ready = P.ready; same = P.same ∙ ap₂ (left_back t) edge q ∙ G.same }

-- what it found
pub back_found : {t : List ℕ} {k : ℕ} {at : ℕ} {came : ℤ} → WentBack t k 0 (pos 0) at came → found_at at came ≡ walk_back (bit_of t) k 0
unfolding walk_back
back_found {t} {k} {at} {came} W = go came W.ends ∙ W.same
  where
    go : (z : ℤ) → (is_minus z ≡ false → at ≡ 0) → found_at at z ≡ left_back t at z
    go (pos v) q = rw (q refl)
    go (negsuc v) q = refl
