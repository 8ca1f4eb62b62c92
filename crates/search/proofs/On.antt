-- A search on: what is left to find does not change while it goes on, by bits or by whole bytes.
use mathlib.Core.Path.{◌≡◌, refl, sym, ap, ◌∙◌}
use mathlib.Core.Logic.{◌≢◌}
use mathlib.Core.Bool.{Bool, true, false, true≢false}
use mathlib.Core.List.{List}
use Prim.Native.Nat.{ℕ, zero, suc, ◌+◌, ◌-◌, ◌*◌, ◌/◌, ◌%◌, ◌≤◌, ◌<◌}
use native.Mathlib.Omega.{arith}
use lib.IntN.{ℤ, pos, negsuc, ◌+ℤ◌}
use lib.ListN.{length, get_or}
use lib.Signed.{mag}
use Rattle.refusal.specs.Conditions.{bit_of}
use Rattle.excess.specs.Excess.{half_excess, half_min_excess}
use Rattle.excess.proofs.Sums.{ones_most}
use Rattle.search.specs.Searching.{walk_on}
use Rattle.search.specs.Steps.{is_minus, turned_sum, found_at, left_on, ReadyOn, GoingOn, WentOn}
use Rattle.search.proofs.Signed.{mag_turned, not_minus}
use Rattle.search.proofs.Walks.{on_same, on_opening, on_closing}
use Rattle.search.proofs.Bytes.{tested_half, tested_on, along_on}

-- one bracket on
on_bit : (t : List ℕ) (f k v : ℕ) (b : Bool) → k < f → b ≡ bit_of t k → left_on t f (k + 1) (turned_sum b v) ≡ walk_on (bit_of t) (f - k) k v
on_bit t f k v b h e = sym (on_same (bit_of t) {m = f - k} {n = suc (f - (k + 1))} (omega arith) refl refl ∙ go b v e)
  where
    z : suc k ≡ k + 1
    z = omega arith

    go : (b : Bool) (v : ℕ) → b ≡ bit_of t k → walk_on (bit_of t) (suc (f - (k + 1))) k v ≡ left_on t f (k + 1) (turned_sum b v)
    go true v e = on_opening (bit_of t) (f - (k + 1)) k v (sym e) ∙ on_same (bit_of t) {v = suc v} {w = v + 1} refl z (omega arith)
    go false zero e = on_closing (bit_of t) (f - (k + 1)) k 0 (sym e) ∙ rw z
    go false (suc v) e = on_closing (bit_of t) (f - (k + 1)) k (suc v) (sym e) ∙ on_same (bit_of t) refl z refl

module _ {t : List ℕ} {k e : ℕ} {sum : ℤ} {at : ℕ} {came : ℤ} (G : GoingOn t k e sum at came) where
  left : (f : ℕ) → left_on t f at came ≡ walk_on (bit_of t) (f - at) at (mag came)
  left f = ap (left_on t f at) G.ready.low

  module _ (ne : at ≢ e) {b : Bool} (bit : b ≡ bit_of t at) {at' : ℕ} {came' : ℤ} (p : at' ≡ at + 1) (q : came' ≡ turned_sum b (mag came)) where
    same_bit : (f : ℕ) → e ≤ f → left_on t f at' came' ≡ left_on t f k sum
    same_bit f h = rw (p, q) (on_bit t f at (mag came) b (omega (arith, G.ready.ahead)) bit ∙ sym (left f) ∙ G.same f h)

    small_bit : mag came' ≤ at'
    small_bit = rw (p, q) (omega (arith, mag_turned b (mag came), G.ready.small))

    pub on_fell : is_minus came' ≡ true → WentOn t k e sum at' came'
    on_fell m = record { same = same_bit; small = small_bit; within = omega (arith, G.ready.ahead); ends = λ f. absurd (true≢false (sym m ∙ f)) }

    pub on_going : is_minus came' ≡ false → GoingOn t k e sum at' came'
    on_going m =
        record {
          ready = record { low = not_minus came' m; small = small_bit; ahead = omega (arith, G.ready.ahead); inside = G.ready.inside; few = G.ready.few };
          same = same_bit;
        }

  -- from where it stands
  pub on_then : {at' : ℕ} {came' : ℤ} → WentOn t at e came at' came' → WentOn t k e sum at' came'
  on_then W = record { same = λ f h. W.same f h ∙ G.same f h; small = W.small; within = W.within; ends = W.ends }

  pub on_on : {g : ℕ} → g ≤ e → {at' : ℕ} {came' : ℤ} → GoingOn t at g came at' came' → GoingOn t k e sum at' came'
  on_on h H =
      record {
        ready = record { low = H.ready.low; small = H.ready.small; ahead = omega (arith, H.ready.ahead); inside = G.ready.inside; few = H.ready.few };
        same = λ f w. H.same f (omega arith) ∙ G.same f w;
      }

-- ---- whole bytes

module _ {t : List ℕ} {k f : ℕ} {sum : ℤ} {j : ℕ} {came : ℤ} (G : GoingOn t k (8 * f) sum (8 * j) came) where
  pub byte_in : j ≢ f → j < length t
  byte_in ne = omega (arith, G.ready.ahead, G.ready.inside)

  pub byte_going : j ≢ f → {b : ℕ} → b ≡ get_or t j 0 → {middle came' : ℤ} → is_minus (came +ℤ half_min_excess (b % 16)) ≡ false → middle ≡ came +ℤ half_excess (b % 16)
      → is_minus (middle +ℤ half_min_excess (b / 16)) ≡ false → came' ≡ middle +ℤ half_excess (b / 16) → GoingOn t k (8 * f) sum (8 * (j + 1)) came'
  byte_going ne {b} eb {middle} {came'} m₁ e₁ m₂ e₂ =
      let A = tested_on b G.ready.low m₁ e₁ m₂ e₂ in
      record {
        ready =
            record {
              low = A.0;
              small = omega (arith, A.1.sums, ones_most b 8, G.ready.small);
              ahead = omega (arith, G.ready.ahead);
              inside = G.ready.inside;
              few = G.ready.few;
            };
        same = λ e h. ap (left_on t e (8 * (j + 1))) A.0 ∙ along_on t j 8 (omega arith) (rw eb at A.1) (8 * (j + 1)) e (omega arith) (omega (arith, G.ready.ahead)) ∙ sym (left G e) ∙ G.same e h;
      }

-- the lower half of byte j
half_from : {t : List ℕ} (j : ℕ) {e : ℕ} {sum : ℤ} → ReadyOn t (8 * j) e sum → {k : ℕ} → k ≡ 8 * j + 4 → k ≤ e → {h : ℕ} → h ≡ get_or t j 0 % 16 → {came : ℤ} → is_minus (sum +ℤ half_min_excess h) ≡ false
    → came ≡ sum +ℤ half_excess h → GoingOn t (8 * j) e sum k came
half_from {t} j {e} {sum} R {k} p w {h} eh {came} m q =
    let A = tested_half (get_or t j 0) R.low (ap (λ x. is_minus (sum +ℤ half_min_excess x)) (sym eh) ∙ m) (q ∙ ap (λ x. sum +ℤ half_excess x) eh) in
    record {
      ready = record { low = A.0; small = omega (arith, A.1.sums, ones_most (get_or t j 0) 4, R.small); ahead = w; inside = R.inside; few = R.few };
      same = λ f u. ap (left_on t f k) A.0 ∙ along_on t j 4 (omega arith) A.1 k f p (omega arith) ∙ sym (ap (left_on t f (8 * j)) R.low);
    }

-- of the one that it stands at
pub half_going : {t : List ℕ} {at e : ℕ} {sum : ℤ} → at % 8 ≡ 0 → ReadyOn t at e sum → {k : ℕ} → k ≡ at + 4 → k ≤ e → {h : ℕ} → h ≡ get_or t (at / 8) 0 % 16 → {came : ℤ} → is_minus (sum +ℤ half_min_excess h) ≡ false
    → came ≡ sum +ℤ half_excess h → GoingOn t at e sum k came
half_going {at = at} edge R p w eh m q = let z : 8 * (at / 8) ≡ at = omega arith in rw z at (half_from (at / 8) (rw z R) (omega arith) w eh m q)

-- ---- the legs of a search

-- it went towards bit e and did not fall, and may go on to bit f
pub leg_going : {t : List ℕ} {k e f : ℕ} {sum : ℤ} {at : ℕ} {came : ℤ} → WentOn t k e sum at came → is_minus came ≡ false → e ≤ f → f ≤ 8 * length t → length t ≤ 250000 → GoingOn t k f sum at came
leg_going {came = came} W m h i l =
    record {
      ready = record { low = not_minus came m; small = W.small; ahead = omega (arith, W.within); inside = i; few = l };
      same = λ g w. W.same g (omega arith);
    }

pub leg_ended : {t : List ℕ} {k e f : ℕ} {sum : ℤ} {at : ℕ} {came : ℤ} → WentOn t k e sum at came → at ≡ f → e ≤ f → WentOn t k f sum at came
leg_ended W q h = record { same = λ g w. W.same g (omega arith); small = W.small; within = omega arith; ends = λ m. q }

-- from a byte's edge to the last one before the end
module _ {t : List ℕ} {k e : ℕ} {sum : ℤ} {at : ℕ} {came : ℤ} (G : GoingOn t k e sum at came) (j : ℕ) {start : ℤ} (edge : 8 * j ≡ at) (q : start ≡ came) where
  pub leg_passed : {at' : ℕ} {came' : ℤ} → GoingOn t (8 * j) (8 * (e / 8)) start at' came' → GoingOn t k e sum at' came'
  leg_passed P = on_on G (omega arith) (rw (edge, q) at P)

-- what it found
pub on_found : {t : List ℕ} {k e : ℕ} {at : ℕ} {came : ℤ} → WentOn t k e (pos 0) at came → found_at at came ≡ walk_on (bit_of t) (e - k) k 0
unfolding walk_on
on_found {t} {k} {e} {at} {came} W = go came W.ends ∙ W.same e (omega arith)
  where
    go : (z : ℤ) → (is_minus z ≡ false → at ≡ e) → found_at at z ≡ left_on t e at z
    go (pos v) q = let h = q refl in let z : e - at ≡ 0 = omega arith in rw z
    go (negsuc v) q = refl
