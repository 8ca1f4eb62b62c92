-- The least period of an endless sequence, and the periods that divide another.
use mathlib.Core.Path.{◌≡◌, refl, sym, ap, ◌∙◌}
use mathlib.Core.Logic.{◌≢◌}
use Prim.Native.Nat.{ℕ, zero, suc, ◌+◌, ◌*◌, ◌/◌, ◌%◌, ◌≤◌, ◌<◌}
use native.Mathlib.Omega.{arith}
use native.Mathlib.Nat.{mod-lt, div-add-mod}
use Rattle.suffix.proofs.Cases.{Same, same, other, same?}
use Rattle.suffix.proofs.Sequence.{irrefl}
use Rattle.suffix.proofs.Periodic.{Period, Alike, alike_same, alike_sym, alike_less, times, Order, less, alike, more, order}

module _ (f : ℕ → ℕ) where
  module _ {p : ℕ} (r : Period f p) where
    data LeastUpTo (m : ℕ) : Type 0 where
      found : (q : ℕ) → q ≤ m → Period f q → ((k : ℕ) → k < q → Period f k → ⊥) → LeastUpTo m
      absent : ((k : ℕ) → k ≤ m → Period f k → ⊥) → LeastUpTo m

    least_up_to : (m : ℕ) → LeastUpTo m
    least_up_to zero = absent (λ k h P. omega (arith, P.some))
    least_up_to (suc m) = go (least_up_to m) (order f r 0 (suc m))
      where
        -- where the suffixes at 0 and at m + 1 differ, m + 1 is none
        none : ((k : ℕ) → k ≤ m → Period f k → ⊥) → (Alike f 0 (suc m) → ⊥) → (k : ℕ) → k ≤ suc m → Same k (suc m) → Period f k → ⊥
        none a n k h (same e) P = n (record { on = λ x. ap f {x = 0 + x} {y = x} (omega arith) ∙ sym (P.again x) ∙ ap f (omega arith) })
        none a n k h (other e) P = a k (omega arith) P

        here : Alike f 0 (suc m) → Period f (suc m)
        here e = record { some = omega arith; again = λ x. ap f {x = x + suc m} {y = suc m + x} (omega arith) ∙ sym (e.on x) ∙ ap f (omega arith) }

        go : LeastUpTo m → Order f r 0 (suc m) → LeastUpTo (suc m)
        go (found q h P l) t = found q (omega arith) P l
        go (absent a) (alike e) = found (suc m) (omega arith) (here e) (λ k h P. a k (omega arith) P)
        go (absent a) (less l) = absent (λ k h P. none a (λ e. irrefl f 0 (alike_less f (alike_same f refl) (alike_sym f e) l)) k h (same? k (suc m)) P)
        go (absent a) (more l) = absent (λ k h P. none a (λ e. irrefl f 0 (alike_less f (alike_sym f e) (alike_same f refl) l)) k h (same? k (suc m)) P)

    pub record LeastPeriod : Type 0 where
      pub length : ℕ
      pub within : length ≤ p
      pub period : Period f length
      pub least : (k : ℕ) → k < length → Period f k → ⊥

    pub least_period : LeastPeriod
    least_period = go (least_up_to p)
      where
        go : LeastUpTo p → LeastPeriod
        go (found q h P l) = record { length = q; within = h; period = P; least = l }
        go (absent a) = absurd (a p (omega arith) r)

  -- part, no longer than k, divides n
  pub record Divides (n k : ℕ) : Type 0 where
    pub part : ℕ
    pub count : ℕ
    pub period : Period f part
    pub within : part ≤ k
    pub whole : part * count ≡ n

  pub divides : {n : ℕ} → Period f n → (fuel k : ℕ) → k ≤ fuel → Period f k → Divides n k
  divides r zero k h q = absurd (omega (arith, q.some))
  divides {n} r (suc fuel) k h q = go (same? (n % k) 0) (λ w. divides r fuel (n % k) (omega (arith, mod-lt n q.some)) w)
    where
      rest : n % k ≢ 0 → Period f (n % k)
      rest w =
          record {
            some = omega arith;
            again = λ x. sym (times f q (x + n % k) (n / k)) ∙ ap f {x = x + n % k + k * (n / k)} {y = x + n} (omega (arith, div-add-mod n k)) ∙ r.again x;
          }

      wider : Divides n (n % k) → Divides n k
      wider d =
          record { part = d.part; count = d.count; period = d.period; within = omega (arith, d.within, mod-lt n q.some); whole = d.whole }

      go : Same (n % k) 0 → (Period f (n % k) → Divides n (n % k)) → Divides n k
      go (same e) ih = record { part = k; count = n / k; period = q; within = omega arith; whole = omega (arith, div-add-mod n k) }
      go (other e) ih = wider (ih (rest e))
