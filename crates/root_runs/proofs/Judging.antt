-- Acceptance at a place, test by test, and what is reported.
use mathlib.Core.Path.{◌≡◌, refl, sym, ap}
use mathlib.Core.Bool.{Bool, true, false, true≢false}
use mathlib.Core.List.{List}
use Prim.Native.Nat.{ℕ, ◌+◌, ◌-◌, ◌≤◌, ◌<◌}
use native.Mathlib.Omega.{arith}
use lib.Dec.{eqb}
use lib.ListN.{length}
use borrow.Author.Tests.{ne_eqb}
use Rattle.std.specs.Prelude.{Option, Some, None, is_some, is_none, unwrap_or, MatchOption}
use Rattle.std.specs.Option.{option_map}
use Rattle.repeats.specs.Runs.{Run}
use Rattle.repeats.specs.Roots.{left_of, accepts, reports}
use Rattle.repeats.specs.Gathered.{report_of}
use Rattle.repeats.proofs.Accepting.{Accepts, tell_accepts, accepts_not}
use Rattle.run_list.specs.declared.Run as declared
use Rattle.run_list.specs.Entries.{run_of}
use Rattle.root_runs.specs.States.{accepted, run_in}

module _ (y : List ℕ) (reverse : Bool) (i j m : ℕ) where
  pub accepted_no : (Accepts y reverse i j m → ⊥) → None ≡ accepted y reverse i j m
  accepted_no h = rw (accepts_not y reverse i j m h)

  pub accepted_yes : (x : ℕ) → x ≡ left_of y i j → 0 < x → x ≤ j - i → j - i ≤ x + m → (reverse ≡ true → j + m < length y)
      → {end : ℕ} → end ≡ j + m → Some (record { start = i - x; end = end; period = j - i }) ≡ accepted y reverse i j m
  unfolding reports
  accepted_yes x e a b c d q = rw (tell_accepts y reverse i j m (record { one = omega arith; uncut = omega arith; twice = omega arith; ends = d }), e, q)

-- where none is accepted, and what is accepted
module _ (y : List ℕ) (reverse : Bool) (i j m : ℕ) where
  pub not_accepted : None ≡ accepted y reverse i j m → accepts y reverse i j m ≡ false
  not_accepted e = go (accepts y reverse i j m) refl
    where
      go : (b : Bool) → accepts y reverse i j m ≡ b → accepts y reverse i j m ≡ false
      go true q = absurd (true≢false (sym (ap is_some (rw q at e))))
      go false q = q

  pub is_accepted : {r : Run} → Some r ≡ accepted y reverse i j m → (accepts y reverse i j m ≡ true) × (r ≡ reports y i j m)
  is_accepted {r} e = go (accepts y reverse i j m) refl
    where
      go : (b : Bool) → accepts y reverse i j m ≡ b → (accepts y reverse i j m ≡ true) × (r ≡ reports y i j m)
      go true q = (q, ap (λ o. unwrap_or o r) (rw q at e))
      go false q = absurd (true≢false (ap is_some (rw q at e)))

-- place i reports by its next under the order, else by that under the reverse
module _ (y : List ℕ) (i j m k l : ℕ) where
  pub judged : (first r : Option declared.Run) → option_map run_of first ≡ accepted y false i j m → {P : Type 0}
      → MatchOption first P (λ x. r ≡ Some x) → (P → option_map run_of r ≡ accepted y true i k l) → run_in r ≡ report_of y i j m k l
  unfolding report_of
  judged None None d e f = rw (not_accepted y false i j m d, not_accepted y true i k l (f e), report_of)
  judged None (Some r) d e f = let a = is_accepted y true i k l (f e) in rw (not_accepted y false i j m d, a.0, report_of) a.1
  judged (Some q) r d e f = let a = is_accepted y false i j m d in rw (e, a.0, report_of) a.1

  -- a run that is accepted has a period
  pub judged_none : i < j → i < k → (first r : Option declared.Run) → option_map run_of first ≡ accepted y false i j m → {P : Type 0}
      → MatchOption first P (λ x. r ≡ Some x) → (P → option_map run_of r ≡ accepted y true i k l) → is_none r ≡ eqb (report_of y i j m k l).period 0
  unfolding report_of reports
  judged_none g h None None d e f = rw (not_accepted y false i j m d, not_accepted y true i k l (f e), report_of) refl
  judged_none g h None (Some r) d e f = let a = is_accepted y true i k l (f e) in rw (not_accepted y false i j m d, a.0, report_of) (sym (ne_eqb (k - i) 0 (omega arith)))
  judged_none g h (Some q) r d e f = let a = is_accepted y false i j m d in rw (e, a.0, report_of) (sym (ne_eqb (j - i) 0 (omega arith)))
