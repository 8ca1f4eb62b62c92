-- What the test of a run tells, and runs of a string as runs of endless sequences.
use mathlib.Core.Path.{◌≡◌, refl, sym, ap, ◌∙◌}
use mathlib.Core.Bool.{Bool, true, false, not, ◌&&◌, true≢false}
use mathlib.Core.List.{List}
use Prim.Native.Nat.{ℕ, suc, ◌+◌, ◌-◌, ◌≤◌, ◌<◌}
use native.Mathlib.Omega.{arith}
use lib.ListN.{length, get_or}
use borrow.Author.Tests.{leb-true, ltb-true, not-true, lt-ltb, le-leb}
use Rattle.suffix.specs.Search.{any_below}
use Rattle.suffix.specs.Periods.{HasPeriod, has_period}
use Rattle.suffix.proofs.Cases.{Same, same, other, same?, Test, holds, fails, test, both_true, le_unless}
use Rattle.suffix.proofs.Search.{any_false, any_not}
use Rattle.suffix.proofs.Periods.{period_told, tell_period}
use Rattle.suffix.proofs.Order.{extended, extended_in, extended_out}
use Rattle.repeats.specs.Runs.{Run, IsRun, is_run}
use Rattle.repeats.proofs.Periods.{Ends, RunOf}
use Rattle.repeats.proofs.Orders.{SamePattern}

pub and_true : {a b : Bool} → a ≡ true → b ≡ true → a && b ≡ true
and_true p q = rw (p, q)

not_both : (a b : Bool) → (a ≡ true → b ≡ true → ⊥) → not (a && b) ≡ true
not_both true true h = absurd (h refl refl)
not_both true false h = refl
not_both false b h = refl

abbrev pub letter : List ℕ → ℕ → ℕ
letter y t = get_or y t 0

module _ (y : List ℕ) where
  no_period : (s e p : ℕ) → (HasPeriod y s e p → ⊥) → has_period y s e p ≡ false
  no_period s e p h = go (test (has_period y s e p))
    where
      go : Test (has_period y s e p) → has_period y s e p ≡ false
      go (holds w) = absurd (h (period_told y s e p w))
      go (fails w) = w

module _ (y : List ℕ) (r : Run) where
  abbrev s : ℕ
  s = r.start

  abbrev e : ℕ
  e = r.end

  abbrev p : ℕ
  p = r.period

  pub run_told : is_run y r ≡ true → IsRun y r
  unfolding is_run
  run_told h =
      let h1 = both_true _ _ h in
      let h2 = both_true _ _ h1.1 in
      let h3 = both_true _ _ h2.1 in
      let h4 = both_true _ _ h3.1 in
      let h5 = both_true _ _ h4.1 in
      let h6 = both_true _ _ h5.1 in
      record {
        inside = leb-true _ _ h1.0;
        positive = leb-true _ _ h2.0;
        long = leb-true _ _ h3.0;
        repeats = period_told y s e p h4.0;
        least = λ q a P. le_unless p q (λ w. shorter q a w P (not-true _ h5.0));
        start_stays = λ a P. true≢false (sym (and_true (lt-ltb 0 s a) (tell_period y (s - 1) e p P)) ∙ not-true _ h6.0);
        end_stays = λ a P. true≢false (sym (and_true (lt-ltb e (length y) a) (tell_period y s (suc e) p P)) ∙ not-true _ h6.1);
      }
    where
      shorter : (q : ℕ) → 1 ≤ q → q < p → HasPeriod y s e q → any_below (p - 1) (λ q. has_period y s e (suc q)) ≡ false → ⊥
      shorter q a w P h =
          let z : suc (q - 1) ≡ q = omega arith in
          true≢false (sym (tell_period y s e q P) ∙ rw z at (any_not (λ q. has_period y s e (suc q)) (p - 1) h (q - 1) (omega arith)))

  pub tell_run : IsRun y r → is_run y r ≡ true
  unfolding is_run
  tell_run R =
      and_true (le-leb _ _ R.inside)
      (and_true (le-leb _ _ R.positive)
      (and_true (le-leb _ _ R.long)
      (and_true (tell_period y s e p R.repeats)
      (and_true none (and_true (not_both _ _ (λ a b. R.start_stays (ltb-true 0 s a) (period_told y (s - 1) e p b))) (not_both _ _ (λ a b. R.end_stays (ltb-true e (length y) a) (period_told y s (suc e) p b))))))))
    where
      none : not (any_below (p - 1) (λ q. has_period y s e (suc q))) ≡ true
      none = rw (any_false (λ q. has_period y s e (suc q)) (p - 1) (λ q h. no_period y s e (suc q) (λ P. omega (arith, R.least (suc q) (omega arith) P))))

  -- a run by its letters, as the request says it and as that of a sequence
  pub run_of : IsRun y r → RunOf (letter y) (length y) s e p
  run_of R =
      record {
        pos = R.positive;
        long = omega (arith, R.positive, R.long);
        fits = R.inside;
        same = record { on = R.repeats.equal };
        least = λ q a b P. omega (arith, R.least q a (record { equal = P.on }));
        left = λ a q. R.start_stays a (record { equal = λ t u v. first a q t u v (same? t (s - 1)) });
        right = λ a q. R.end_stays a (record { equal = λ t u v. last q t u v (same? (t + p) e) });
      }
    where
      first : 0 < s → letter y (s - 1) ≡ letter y (s - 1 + p) → (t : ℕ) → s - 1 ≤ t → t + p < e → Same t (s - 1) → letter y t ≡ letter y (t + p)
      first a q t u v (same z) = rw z q
      first a q t u v (other z) = R.repeats.equal t (omega arith) v

      last : letter y e ≡ letter y (e - p) → (t : ℕ) → s ≤ t → t + p < suc e → Same (t + p) e → letter y t ≡ letter y (t + p)
      last q t u v (same z) = ap (letter y) (omega arith) ∙ sym q ∙ ap (letter y) (sym z)
      last q t u v (other z) = R.repeats.equal t u (omega arith)

  pub of_run : RunOf (letter y) (length y) s e p → IsRun y r
  of_run R =
      record {
        inside = R.fits;
        positive = R.pos;
        long = omega (arith, R.long);
        repeats = record { equal = R.same.on };
        least = λ q a P. le_unless p q (λ w. R.least q a w (record { on = P.equal }));
        start_stays = λ a P. R.left a (P.equal (s - 1) (omega arith) (omega (arith, R.long, R.pos)));
        end_stays = λ a P. R.right a (ap (letter y) back ∙ sym (P.equal (e - p) (omega (arith, R.long)) (omega (arith, R.long))));
      }
    where
      back : e ≡ e - p + p
      back = omega (arith, R.long)

module _ (y : List ℕ) where
  -- the letters, and the letters raised by 1 with 0 after them
  pub letters_pattern : SamePattern (letter y) (extended y) (length y)
  letters_pattern =
      record {
        to = λ k l a b e. omega (arith, extended_in y k a, extended_in y l b);
        from = λ k l a b e. omega (arith, extended_in y k a, extended_in y l b);
      }

  pub letters_end : Ends (extended y) (length y)
  letters_end = record { inn = λ k h. omega (arith, extended_in y k h); out = extended_out y }
