-- Whether a place with its next and next-match lies in the string, test by test.
use mathlib.Core.Path.{◌≡◌, refl, sym, ap, ◌∙◌}
use mathlib.Core.Bool.{Bool, true, false}
use mathlib.Core.List.{List}
use Prim.Native.Nat.{ℕ, ◌+◌, ◌≤◌, ◌<◌}
use lib.Dec.{eqb, ltb, leb}
use lib.ListN.{length}
use borrow.Author.Tests.{lt-ltb, le-ltb, ltb-true, leb-true, le-leb}
use Rattle.suffix.proofs.Cases.{both_true}
use Rattle.repeats.specs.Runs.{Run, no_run}
use Rattle.repeats.specs.Gathered.{report_of}
use Rattle.root_runs.specs.States.{Within}
use Rattle.root_runs.specs.Bounds.{is_within, are_within, report_within}

-- ---- one place

module _ (n i j m : ℕ) where
  pub within_yes : Within n i j m → is_within n i j m ≡ true
  unfolding is_within
  within_yes W = rw (lt-ltb i j W.after, le-leb (j + m) n W.fits)

  pub within_told : is_within n i j m ≡ true → Within n i j m
  unfolding is_within
  within_told e = let w = both_true (ltb i j) (leb (j + m) n) e in record { after = ltb-true i j w.0; fits = leb-true (j + m) n w.1 }

-- ---- the next under the order and the one under its reverse

module _ (n i j m k l : ℕ) where
  pub too_long_lem : 1000000 < n → false ≡ are_within n i j m k l
  unfolding are_within
  too_long_lem h = rw (lt-ltb 1000000 n h)

  module _ (few : n ≤ 1000000) {a : Bool} (is : a ≡ is_within n i j m) where
    pub first_outside : a ≡ false → false ≡ are_within n i j m k l
    unfolding are_within
    first_outside e = let f : is_within n i j m ≡ false = sym is ∙ e in rw (le-ltb 1000000 n few, f)

    pub by_second : a ≡ true → {b : Bool} → b ≡ is_within n i k l → b ≡ are_within n i j m k l
    unfolding are_within
    by_second e w = let f : is_within n i j m ≡ true = sym is ∙ e in rw (le-ltb 1000000 n few, f) w

-- ---- what is reported

module _ (y : List ℕ) (i j m k l : ℕ) {n : ℕ} (long : n ≡ length y) where
  module _ {b : Bool} (is : b ≡ are_within n i j m k l) where
    found : {a : Bool} → b ≡ a → are_within (length y) i j m k l ≡ a
    found e = ap (λ v. are_within v i j m k l) (sym long) ∙ sym is ∙ e

    pub reported_within : b ≡ true → {r : Run} → r ≡ report_of y i j m k l → r ≡ report_within y i j m k l
    unfolding report_within
    reported_within e w = rw (found e, report_within) w

    pub none_outside : b ≡ false → {r : Run} → r ≡ no_run → r ≡ report_within y i j m k l
    unfolding report_within
    none_outside e w = rw (found e, report_within) w

  pub none_too_long : 1000000 < n → no_run ≡ report_within y i j m k l
  none_too_long h = none_outside (too_long_lem n i j m k l h) refl refl

  module _ (few : n ≤ 1000000) where
    pub none_first : is_within n i j m ≡ false → no_run ≡ report_within y i j m k l
    none_first e = none_outside (first_outside n i j m k l few (sym e) refl) refl refl

    pub second_outside : is_within n i j m ≡ true → is_within n i k l ≡ false → no_run ≡ report_within y i j m k l
    second_outside e f = none_outside (by_second n i j m k l few (sym e) refl (sym f)) refl refl

    pub both_within : is_within n i j m ≡ true → is_within n i k l ≡ true → {r : Run} → r ≡ report_of y i j m k l → r ≡ report_within y i j m k l
    both_within e f w = reported_within (by_second n i j m k l few (sym e) refl (sym f)) refl w

    -- and whether it is none
    pub none_within : is_within n i j m ≡ true → is_within n i k l ≡ true → {b : Bool} → b ≡ eqb (report_of y i j m k l).period 0 → b ≡ eqb (report_within y i j m k l).period 0
    none_within e f w = w ∙ ap (λ r. eqb r.period 0) (both_within e f refl)
