-- The first place where two tables differ, as the library's search over both at once finds it.
use Rattle.std.proofs.Common.{◌≡◌, ◌≢◌, refl, sym, ap, ◌∙◌, Bool, not, List, ℕ, ◌≤◌, ◌<◌, eqb, ltb, length, get_or, arith, ◌+◌, ◌-◌, cond, eq-eqb, ne_eqb, ltb-true, ltb-false, suc, zero}
use Rattle.std.specs.Prelude.{Option, Some, None, Ok}
use Rattle.std.specs.List.{zip, position_or_len}
use Rattle.std.proofs.lemmas.List.Sums.{position_or_len_is}
use Rattle.std.proofs.lemmas.Slice.Zip.{get_or-zip, length-zip}
use Rattle.suffix.specs.Search.{least_from}
use Rattle.suffix.proofs.Cases.{Test, holds, fails, test}
use Rattle.suffix.proofs.Search.{Least, found, absent, least}
use Rattle.checker.specs.Checked.{right, wrong_at, finding_of, found_at}
use Rattle.checker.specs.Comparing.{differs, first_difference}

pub found_none : {n i : ℕ} → i ≡ n → right ≡ found_at n i
unfolding found_at
found_none e = rw (eq-eqb _ _ e, found_at)

pub found_wrong : {n i k : ℕ} → k ≡ i → i ≢ n → wrong_at k ≡ found_at n i
unfolding found_at
found_wrong q e = rw (ne_eqb _ _ e, found_at) (ap wrong_at q)

-- two entries that differ
abbrev pub differ : ℕ × ℕ → Bool
differ p = not (eqb p.0 p.1)

module _ (claimed table : List ℕ) (same : length claimed ≡ length table) where
  entries : (k : ℕ) → k < length table → differ (get_or (zip claimed table) k (0, 0)) ≡ differs claimed table k
  entries k h = ap differ (get_or-zip claimed table k (0, 0) (omega arith) h)

  all : length (zip claimed table) ≡ length table
  all = omega (arith, length-zip claimed table)

  found_first : Least 0 (length table) (differs claimed table) (length table) (first_difference claimed table 0 (length table))
  unfolding first_difference
  found_first = let z : length table - 0 ≡ length table = omega arith in rw z (least (differs claimed table) (length table) 0 (length table))

  -- the first place, or the tables' length
  abbrev k : ℕ
  k = first_difference claimed table 0 (length table)

  is_first : Least 0 (length table) (differs claimed table) (length table) k → (position_or_len differ (zip claimed table) ≡ k) × (k ≤ length table)
  is_first (found a b c d) =
      (position_or_len_is differ (zip claimed table) k (0, 0) (omega (arith, all)) (λ j h. entries j (omega arith) ∙ d j (omega arith) h) (λ h. entries k (omega arith) ∙ c), omega arith)
  is_first (absent a d) =
      (position_or_len_is differ (zip claimed table) k (0, 0) (omega (arith, all)) (λ j h. entries j (omega arith) ∙ d j (omega arith) (omega arith)) (λ h. absurd (omega (arith, all))), omega arith)

  pub told : {r : Option ℕ} → r ≡ cond (ltb (position_or_len differ (zip claimed table)) (length (zip claimed table))) (Some (position_or_len differ (zip claimed table))) None
      → finding_of (Ok r) ≡ found_at (length table) (first_difference claimed table 0 (length table))
  told e = ap (λ r. finding_of (Ok r)) e ∙ rw (first.0, all) (go (test (ltb k (length table))))
    where
      first : (position_or_len differ (zip claimed table) ≡ k) × (k ≤ length table)
      first = is_first found_first

      go : Test (ltb k (length table)) → finding_of (Ok (cond (ltb k (length table)) (Some k) None)) ≡ found_at (length table) k
      go (holds q) = rw q (found_wrong refl (omega (arith, ltb-true _ _ q)))
      go (fails q) = rw q (found_none (omega (arith, ltb-false _ _ q, first.1)))

-- two tests that agree find the same
pub least_same : (g h : ℕ → Bool) (none i t : ℕ) → ((k : ℕ) → i ≤ k → k < i + t → g k ≡ h k) → least_from i t g none ≡ least_from i t h none
unfolding least_from
least_same g h none i zero q = refl
least_same g h none i (suc t) q = go (test (g i)) (least_same g h none (suc i) t (λ k a b. q k (omega arith) (omega arith)))
  where
    go : Test (g i) → least_from (suc i) t g none ≡ least_from (suc i) t h none → least_from i (suc t) g none ≡ least_from i (suc t) h none
    go (holds e) ih = rw (e, least_from, sym (q i (omega arith) (omega arith)) ∙ e, least_from)
    go (fails e) ih = rw (e, least_from, sym (q i (omega arith) (omega arith)) ∙ e, least_from) ih
