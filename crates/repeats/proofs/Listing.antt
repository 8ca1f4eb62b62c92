-- The report lists each run once, by start and then by period, and no other list does.
use mathlib.Core.Path.{◌≡◌, refl, sym, ◌∙◌}
use mathlib.Core.Logic.{◌≢◌, ◌⊎◌, inl, inr}
use mathlib.Core.Bool.{true, false, true≢false}
use mathlib.Core.List.Memᴰ
use mathlib.Core.List.{List, ◌∷◌, ◌++◌, Memᴰ}
use Prim.Native.Nat.{ℕ, zero, suc, ◌+◌, ◌-◌, ◌≤◌, ◌<◌}
use native.Mathlib.Omega.{arith}
use lib.ListN.{length}
use Rattle.suffix.proofs.Cases.{Same, same, other, same?, Test, holds, fails, test}
use Rattle.suffix.proofs.Order.{extended, lce_is}
use Rattle.repeats.specs.Runs.{Run, IsRun, is_run}
use Rattle.repeats.specs.Report.{earlier, shorter, Ordered, none, then, ListsRuns, run_at, runs_from, runs_after, runs}
use Rattle.repeats.proofs.Periods.{RunOf, run_match}
use Rattle.repeats.proofs.Orders.{pattern_run}
use Rattle.repeats.proofs.Meaning.{run_told, tell_run, run_of, letters_pattern, letters_end}
use Rattle.repeats.proofs.Ordering.{ordered_append, ordered_unique}

pub run_eq : {r q : Run} → r.start ≡ q.start → r.end ≡ q.end → r.period ≡ q.period → r ≡ q
run_eq a b c = λ i. record { start = a i; end = b i; period = c i }

module _ (y : List ℕ) where
  -- start and period tell the end
  run_at_lem : {r : Run} → IsRun y r → run_at y r.start r.period ≡ r
  unfolding run_at
  run_at_lem {r} I =
      let s = r.start in
      let p = r.period in
      let R : RunOf (extended y) (length y) s r.end p = pattern_run (letters_pattern y) (run_of y r I) in
      run_eq refl
      (omega (
        arith,
        lce_is y s (s + p) (omega (arith, R.pos)) (omega (arith, R.long, R.fits)) (omega (arith, R.long, R.fits)) (r.end - p - s) (run_match (extended y) (letters_end y) R s (omega arith) (omega (arith, R.long))),
        R.long,
      ))
      refl

  pub same_run : {r q : Run} → IsRun y r → IsRun y q → r.start ≡ q.start → r.period ≡ q.period → r ≡ q
  same_run {r} {q} a b e f = let z : run_at y r.start r.period ≡ run_at y q.start q.period = rw (e, f) in sym (run_at_lem a) ∙ z ∙ run_at_lem b

  from_yes : (s p t : ℕ) → is_run y (run_at y s p) ≡ true → runs_from y s p (suc t) ≡ run_at y s p ∷ runs_from y s (suc p) t
  unfolding runs_from
  from_yes s p t e = rw (e, runs_from)

  from_no : (s p t : ℕ) → is_run y (run_at y s p) ≡ false → runs_from y s p (suc t) ≡ runs_from y s (suc p) t
  unfolding runs_from
  from_no s p t e = rw (e, runs_from)

  -- a run from s with a period from p on
  record From (s p : ℕ) (r : Run) : Type 0 where
    start : r.start ≡ s
    period : p ≤ r.period
    run : IsRun y r

  from_mem : (s p t : ℕ) (r : Run) → Memᴰ r (runs_from y s p t) → From s p r
  unfolding runs_from run_at
  from_mem s p zero r m = absurd (Memᴰ.not-nil m)
  from_mem s p (suc t) r m = go (test (is_run y (run_at y s p))) (λ j. from_mem s (suc p) t r j)
    where
      far : From s (suc p) r → From s p r
      far g = record { start = g.start; period = omega (arith, g.period); run = g.run }

      Ih : Type 0
      Ih = Memᴰ r (runs_from y s (suc p) t) → From s (suc p) r

      here : is_run y (run_at y s p) ≡ true → (r ≡ run_at y s p) ⊎ Memᴰ r (runs_from y s (suc p) t) → Ih → From s p r
      here h (inl e) ih = rw e (record { start = refl; period = omega arith; run = run_told y (run_at y s p) h })
      here h (inr j) ih = far (ih j)

      go : Test (is_run y (run_at y s p)) → Ih → From s p r
      go (holds h) ih = here h (Memᴰ.cases_cons (rw (from_yes s p t h) at m)) ih
      go (fails h) ih = far (ih (rw (from_no s p t h) at m))

  mem_from : (s p t : ℕ) (r : Run) → From s p r → r.period < p + t → Memᴰ r (runs_from y s p t)
  mem_from s p zero r g h = absurd (omega (arith, g.period))
  mem_from s p (suc t) r g h = go (test (is_run y (run_at y s p))) (same? r.period p) (λ j. mem_from s (suc p) t r j (omega arith))
    where
      is : r.period ≡ p → run_at y s p ≡ r
      is e = rw (← e, ← g.start) (run_at_lem g.run)

      told : r.period ≡ p → is_run y (run_at y s p) ≡ true
      told e = rw (is e) (tell_run y r g.run)

      far : r.period ≢ p → From s (suc p) r
      far e = record { start = g.start; period = omega (arith, g.period); run = g.run }

      go : Test (is_run y (run_at y s p)) → Same r.period p → (From s (suc p) r → Memᴰ r (runs_from y s (suc p) t)) → Memᴰ r (runs_from y s p (suc t))
      go (holds h) (same e) ih = rw (from_yes s p t h) (Memᴰ.head (sym (is e)))
      go (holds h) (other e) ih = rw (from_yes s p t h) (Memᴰ.tail (ih (far e)))
      go (fails h) (same e) ih = absurd (true≢false (sym (told e) ∙ h))
      go (fails h) (other e) ih = rw (from_no s p t h) (ih (far e))

  from_ordered : (s p t : ℕ) → Ordered (runs_from y s p t)
  unfolding runs_from run_at
  from_ordered s p zero = none
  from_ordered s p (suc t) = go (test (is_run y (run_at y s p))) (from_ordered s (suc p) t)
    where
      go : Test (is_run y (run_at y s p)) → Ordered (runs_from y s (suc p) t) → Ordered (runs_from y s p (suc t))
      go (holds h) ih = rw (from_yes s p t h) (then (λ q m. let g = from_mem s (suc p) t q m in shorter (sym g.start) g.period) ih)
      go (fails h) ih = rw (from_no s p t h) ih

  -- a run that starts at s or later
  record After (s : ℕ) (r : Run) : Type 0 where
    start : s ≤ r.start
    run : IsRun y r

  after_mem : (s t : ℕ) (r : Run) → Memᴰ r (runs_after y s t) → After s r
  unfolding runs_after
  after_mem s zero r m = absurd (Memᴰ.not-nil m)
  after_mem s (suc t) r m = go (Memᴰ.append_cases (runs_from y s 1 (length y)) m) (λ j. after_mem (suc s) t r j)
    where
      go : Memᴰ r (runs_from y s 1 (length y)) ⊎ Memᴰ r (runs_after y (suc s) t) → (Memᴰ r (runs_after y (suc s) t) → After (suc s) r) → After s r
      go (inl j) ih = let g = from_mem s 1 (length y) r j in record { start = omega (arith, g.start); run = g.run }
      go (inr j) ih = let g = ih j in record { start = omega (arith, g.start); run = g.run }

  mem_after : (s t : ℕ) (r : Run) → After s r → r.start < s + t → Memᴰ r (runs_after y s t)
  unfolding runs_after
  mem_after s zero r g h = absurd (omega (arith, g.start))
  mem_after s (suc t) r g h = go (same? r.start s) (λ j. mem_after (suc s) t r j (omega arith))
    where
      go : Same r.start s → (After (suc s) r → Memᴰ r (runs_after y (suc s) t)) → Memᴰ r (runs_from y s 1 (length y) ++ runs_after y (suc s) t)
      go (same e) ih =
          Memᴰ.append_left (runs_after y (suc s) t)
          (mem_from s 1 (length y) r (record { start = e; period = g.run.positive; run = g.run }) (omega (arith, g.run.positive, g.run.long, g.run.inside)))
      go (other e) ih = Memᴰ.append_right (runs_from y s 1 (length y)) (ih (record { start = omega (arith, g.start); run = g.run }))

  after_ordered : (s t : ℕ) → Ordered (runs_after y s t)
  unfolding runs_after
  after_ordered s zero = none
  after_ordered s (suc t) =
      ordered_append (from_ordered s 1 (length y)) (after_ordered (suc s) t)
      (λ r q m j. earlier (omega (arith, (from_mem s 1 (length y) r m).start, (after_mem (suc s) t q j).start)))

  pub lists_runs : ListsRuns y (runs y)
  unfolding runs
  lists_runs =
      record {
        runs_only = λ r m. (after_mem 0 (length y) r m).run;
        every = λ r h. mem_after 0 (length y) r (record { start = omega arith; run = h }) (omega (arith, h.positive, h.long, h.inside));
        ordered = after_ordered 0 (length y);
      }

  pub lists_only : (l : List Run) → ListsRuns y l → l ≡ runs y
  lists_only l L =
      ordered_unique l (runs y) L.ordered lists_runs.ordered (λ r m. lists_runs.every r (L.runs_only r m)) (λ r m. L.every r (lists_runs.runs_only r m))
