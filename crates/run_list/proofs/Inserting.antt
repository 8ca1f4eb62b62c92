-- A run is put into three tables, as the code does it.
use mathlib.Core.Path.{◌≡◌, refl, sym, ap, ◌∙◌}
use mathlib.Core.Logic.{◌≢◌}
use mathlib.Core.Bool.{Bool, true, false, not, ◌&&◌}
use Prim.Native.Nat.{ℕ, zero, suc, ◌+◌, ◌-◌, ◌≤◌, ◌<◌}
use native.Mathlib.Omega.{arith}
use native.Mathlib.Numerals.{add-one}
use lib.Dec.{eqb, ltb}
use lib.ListN.{length}
use borrow.Author.Tests.{lt-ltb, ltb-true, eq-eqb, ne_eqb}
use Rattle.suffix.proofs.Cases.{both_true}
use Rattle.repeats.specs.Runs.{Run}
use Rattle.repeats.specs.Report.{before}
use Rattle.repeats.specs.Refusals.{Lists}
use Rattle.run_list.specs.declared.RunList.{RunList}
use Rattle.run_list.specs.Entries.{tables, entry_in, stored, Has, SameTables}
use Rattle.run_list.proofs.Entries.{same_after}
use Rattle.run_list.specs.Inserted.{is_taken, placed, lists_with, count_with, Inserted}

-- ---- the run goes down from place to place

module _ (r : Run) (t : Lists) where
  pub placed_below : (j : ℕ) → 0 < j → before r (entry_in t (j - 1)) ≡ true → placed j t r ≡ placed (j - 1) (stored t j (entry_in t (j - 1))) r
  unfolding placed
  placed_below zero h e = absurd (omega arith)
  placed_below (suc j) h e = let z : suc j - 1 ≡ j = omega arith in rw (z, rw z at e, placed)

  pub placed_here : (j : ℕ) → (0 < j → before r (entry_in t (j - 1)) ≡ false) → placed j t r ≡ stored t j r
  unfolding placed
  placed_here zero e = refl
  placed_here (suc j) e = let z : suc j - 1 ≡ j = omega arith in rw (rw z at (e (omega arith)), placed)

-- place j of the list is free, and from it the run goes where it goes from behind the last entry of the list as it was
pub record Placing (j : ℕ) (r : Run) (was is : RunList) : Type 0 where
  pub same : SameTables was is
  pub count : is.count ≡ was.count
  pub most : j ≤ was.count
  pub goes_on : placed j (tables is) r ≡ placed was.count (tables was) r

module _ {j : ℕ} {r : Run} {was is : RunList} (P : Placing j r was is) where
  module _ (h : 0 < j) {q : Run} (e : q ≡ entry_in (tables is) (j - 1)) {b : Bool} (d : b ≡ before r q) {k : ℕ} where
    pub placing_more : b ≡ true → {to : RunList} → SameTables is to → to.count ≡ is.count → tables to ≡ stored (tables is) k q → k ≡ j → Placing (j - 1) r was to
    placing_more y {to} S c w z =
        record {
          same = same_after P.same S;
          count = c ∙ P.count;
          most = omega (arith, P.most);
          goes_on = ap (λ t. placed (j - 1) t r) (rw z at w ∙ ap (stored (tables is) j) e) ∙ sym (placed_below r (tables is) j h (rw e at (sym d ∙ y))) ∙ P.goes_on;
        }

    pub placing_done : b ≡ false → {t : Lists} → t ≡ stored (tables is) k r → k ≡ j → t ≡ placed was.count (tables was) r
    placing_done n w z = rw z at w ∙ sym (placed_here r (tables is) j (λ h. rw e at (sym d ∙ n))) ∙ P.goes_on

  pub placing_first : {k : ℕ} {t : Lists} → t ≡ stored (tables is) k r → k ≡ j → j ≡ 0 → t ≡ placed was.count (tables was) r
  placing_first w z f = rw z at w ∙ sym (placed_here r (tables is) j (λ h. absurd (omega arith))) ∙ P.goes_on

-- ---- whether it is taken

module _ (t : Lists) (c : ℕ) (r : Run) where
  pub no_run : r.period ≡ 0 → is_taken t c r ≡ false
  unfolding is_taken
  no_run e = rw (eq-eqb r.period 0 e) refl

  pub has_taken : r.period ≢ 0 → Has t c → is_taken t c r ≡ true
  unfolding is_taken
  has_taken ne H = rw (ne_eqb r.period 0 ne, lt-ltb c (length t.starts) H.starts, lt-ltb c (length t.ends) H.ends) (lt-ltb c (length t.periods) H.periods)

  pub taken_has : is_taken t c r ≡ true → Has t c
  unfolding is_taken
  taken_has e =
      let a = ltb c (length t.starts) in
      let b = ltb c (length t.ends) in
      let p = ltb c (length t.periods) in
      let w = both_true (not (eqb r.period 0)) (a && (b && p)) e in
      let s = both_true a (b && p) w.1 in
      let e = both_true b p s.1 in
      record { starts = ltb-true _ _ s.0; ends = ltb-true _ _ e.0; periods = ltb-true _ _ e.1 }

  pub taken : is_taken t c r ≡ true → Inserted c r t (placed c t r) (c + 1)
  unfolding lists_with count_with
  taken e = record { leaves = rw (e, lists_with); answers = rw (e, count_with) (add-one c) }

  pub not_taken : is_taken t c r ≡ false → Inserted c r t t c
  unfolding lists_with count_with
  not_taken e = record { leaves = rw (e, lists_with); answers = rw (e, count_with) }
