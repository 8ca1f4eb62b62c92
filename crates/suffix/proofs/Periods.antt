-- What the test of a period tells.
use mathlib.Core.Path.{◌≡◌}
use mathlib.Core.Bool.{true}
use mathlib.Core.List.{List}
use Prim.Native.Nat.{ℕ, ◌+◌, ◌-◌}
use native.Mathlib.Omega.{arith}
use lib.Dec.{eqb}
use lib.ListN.{get_or}
use borrow.Author.Tests.{eq-eqb, eqb-true}
use Rattle.suffix.specs.Periods.{HasPeriod, has_period}
use Rattle.suffix.proofs.Search.{all_true, all_at}

pub period_told : (y : List ℕ) (s e p : ℕ) → has_period y s e p ≡ true → HasPeriod y s e p
unfolding has_period
period_told y s e p h =
    record {
      equal = λ t a b.
          let z : s + (t - s) ≡ t = omega arith in
          rw z at (eqb-true (get_or y (s + (t - s)) 0) (get_or y (s + (t - s) + p) 0) (all_at (λ k. eqb (get_or y (s + k) 0) (get_or y (s + k + p) 0)) (e - (s + p)) h (t - s) (omega arith)));
    }

pub tell_period : (y : List ℕ) (s e p : ℕ) → HasPeriod y s e p → has_period y s e p ≡ true
unfolding has_period
tell_period y s e p P = all_true _ (e - (s + p)) (λ k h. eq-eqb _ _ (P.equal (s + k) (omega arith) (omega arith)))
