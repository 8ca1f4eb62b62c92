-- Each way out of a check answers, and leaves, what the definitions say; and the claims of specs/Claims.antt, each proved.
use mathlib.Core.Path.{◌≡◌, refl, sym, ap, ap₂, ◌∙◌}
use mathlib.Core.Logic.{◌≢◌}
use mathlib.Core.Bool.{Bool, true, false, not, ◌||◌, true≢false}
use mathlib.Core.List.{List, [], ◌∷◌}
use Prim.Native.Nat.{ℕ, ◌-◌, ◌≤◌, ◌<◌}
use native.Mathlib.Omega.{arith}
use lib.Dec.{eqb}
use lib.ListN.{length, get_or}
use borrow.Author.Tests.{lt-ltb, le-ltb, ltb-false, eq-eqb, ne_eqb, eqb-true, not-false}
use Rattle.suffix.specs.Search.{tabulate, least_from}
use Rattle.suffix.specs.Nearest.{next}
use Rattle.suffix.specs.Rows.{Tables, tables_after}
use Rattle.suffix.proofs.Cases.{Tri, lt, eq, gt, tri}
use Rattle.suffix.proofs.Search.{tabulate_length, tabulate_entry, tabulate_is, Least, found, absent, least}
use Rattle.suffix.proofs.Laws.{all_rows_give_all_entries}
use Rattle.refusal.specs.declared.Refusal.TheVariants.{TooLong, TableLength}
use Rattle.refusal.specs.declared.Refusal.{Refusal}
use Rattle.std.specs.Prelude.{Result}
use Rattle.refusal.specs.Numbers.{verdict_number, first_of, number_if, lowest, lowest_from, unless_refused}
use Rattle.refusal.specs.Conditions.{too_long, table_length_off, a_table_length_off, tables_refusal}
use Rattle.refusal.proofs.Numbers.{first_none, nothing_found, neither, unless_taken, unless_refused_lem}
use Rattle.refusal.proofs.Tables.{not_off}
use Rattle.outcome.specs.Built.{Lent, lent_after, tables_refusal_of, TablesBuilt}
use Rattle.outcome.proofs.Answers.{left_built}
use Rattle.checker.specs.Checked.{is_wrong, least_wrong, Finding, right, wrong_at, refused, found_at, check_refusal, finding, work_at_exit, CheckedExactly}
use Rattle.checker.specs.Comparing.{differs, first_difference}
use Rattle.checker.specs.Claims.{Finds, FindsTheLeastWrong, BuiltThenChecked}
use Rattle.checker.proofs.Comparing.{found_none, found_wrong, least_same}

-- ---- the refusal: but for the claimed table, it is that of the build

claim_fits : (long claim work : Bool) → claim ≡ false → first_of (number_if long TooLong ∷ number_if (claim || work) TableLength ∷ []) ≡ lowest (long ∷ work ∷ [])
unfolding first_of lowest lowest_from
claim_fits long true work e = absurd (true≢false e)
claim_fits true false work e = refl
claim_fits false false true e = refl
claim_fits false false false e = refl

long_first : (long claim work : Bool) → long ≡ true → first_of (number_if long TooLong ∷ number_if (claim || work) TableLength ∷ []) ≡ lowest (long ∷ work ∷ [])
unfolding first_of lowest lowest_from
long_first true claim work e = refl
long_first false claim work e = absurd (true≢false (sym e))

module _ (y claimed : List ℕ) (work : Tables) where
  abbrev work_off : Bool
  work_off = a_table_length_off (length y) (length work.previous) (length work.next) (length work.previous_match) (length work.next_match)

  abbrev claim_off : Bool
  claim_off = table_length_off (length y) (length claimed)

  claimed_off : length y ≤ 1000000 → claim_off ≡ true → 2 ≡ check_refusal y claimed work
  unfolding check_refusal first_of
  claimed_off h e = rw (le-ltb _ _ h, e) refl

  as_build : claim_off ≡ false → check_refusal y claimed work ≡ tables_refusal_of y work
  unfolding check_refusal tables_refusal_of tables_refusal
  as_build e = claim_fits (too_long (length y)) claim_off work_off e

  too_long_lem : 1000000 < length y → check_refusal y claimed work ≡ tables_refusal_of y work
  unfolding check_refusal tables_refusal_of tables_refusal
  too_long_lem h = long_first (too_long (length y)) claim_off work_off (lt-ltb 1000000 (length y) h)

  -- the claimed table fits, or the string is too long
  same_refusal : (length y ≤ 1000000 → claim_off ≡ false) → check_refusal y claimed work ≡ tables_refusal_of y work
  same_refusal f = go (tri (length y) 1000000)
    where
      go : Tri (length y) 1000000 → check_refusal y claimed work ≡ tables_refusal_of y work
      go (lt h) = as_build (f (omega arith))
      go (eq h) = as_build (f (omega arith))
      go (gt h) = too_long_lem (omega arith)

  claimed_length : check_refusal y claimed work ≡ 0 → length claimed ≡ length y
  unfolding check_refusal
  claimed_length e =
      let a = first_none _ _ (first_none _ _ e).1 in
      not_off _ _ (neither _ _ (nothing_found _ TableLength a.0)).0

  few : check_refusal y claimed work ≡ 0 → length y ≤ 1000000
  unfolding check_refusal
  few e = ltb-false _ _ (nothing_found _ TooLong (first_none _ _ e).0)

  refused_claim : {k : ℕ} → 0 < k → k ≡ check_refusal y claimed work → {after : Tables} → after ≡ work_at_exit y claimed work → CheckedExactly y claimed work after (refused k)
  unfolding finding
  refused_claim h e leaves =
      record { answers = ap refused e ∙ sym (unless_refused_lem _ _ _ (λ z. omega (arith, h, e, z))); leaves = leaves }

  -- where the claimed table alone is refused
  pub wrong_length : length y ≤ 1000000 → length claimed ≢ length y → CheckedExactly y claimed work work (refused 2)
  unfolding work_at_exit
  wrong_length h d =
      let e : 2 ≡ check_refusal y claimed work = claimed_off h (rw (ne_eqb _ _ d)) in
      refused_claim (omega arith) e (sym (unless_refused_lem _ _ _ (λ z. omega (arith, e, z))))

-- the build, over the same tables, is refused where the check is
module _ (y claimed : List ℕ) {before after : Tables} {verdict : Result (Unit {0}) Refusal} (B : TablesBuilt y before after verdict)
    (fits : length y ≤ 1000000 → length claimed ≡ length y) where
  agree : check_refusal y claimed before ≡ tables_refusal_of y before
  agree = same_refusal y claimed before (λ h. rw (eq-eqb _ _ (fits h)))

  left : after ≡ work_at_exit y claimed before
  unfolding work_at_exit
  left = B.leaves ∙ ap (λ k. unless_refused k (tables_after y (length y)) before) (sym agree)

  pub build_refused : 0 < verdict_number verdict → CheckedExactly y claimed before after (refused (verdict_number verdict))
  build_refused h = refused_claim y claimed before h (B.answers ∙ sym agree) left

  module _ (none : verdict_number verdict ≡ 0) where
    taken : check_refusal y claimed before ≡ 0
    taken = agree ∙ sym B.answers ∙ none

    next_is : after.next ≡ tabulate (length y) (next y)
    next_is = ap (λ (t : Tables). t.next) (B.leaves ∙ unless_taken _ _ _ (sym B.answers ∙ none) ∙ all_rows_give_all_entries y)

    next_length_lem : length after.next ≡ length y
    next_length_lem = ap length next_is ∙ tabulate_length (next y) (length y)

    pub lengths : (length after.next ≤ 1000000) × (length claimed ≡ length after.next)
    lengths = (omega (arith, next_length_lem, few y claimed before taken), claimed_length y claimed before taken ∙ sym next_length_lem)

    difference_is : first_difference claimed after.next 0 (length after.next) ≡ least_wrong y claimed
    unfolding first_difference least_wrong is_wrong
    difference_is =
        let z : length after.next - 0 ≡ length y = omega (arith, next_length_lem) in
        ap₂ (λ t k. least_from 0 t (differs claimed after.next) k) z next_length_lem
        ∙ least_same (differs claimed after.next) (is_wrong y claimed) (length y) 0 (length y)
        (λ k a b. ap (λ v. not (eqb (get_or claimed k 0) v)) (ap (λ t. get_or t k 0) next_is ∙ tabulate_entry (next y) (length y) k (omega arith)))

    pub checked : {f : Finding} → f ≡ found_at (length after.next) (first_difference claimed after.next 0 (length after.next)) → CheckedExactly y claimed before after f
    unfolding finding
    checked q = record { answers = q ∙ ap₂ found_at next_length_lem difference_is ∙ sym (unless_taken _ _ _ taken); leaves = left }

-- ---- the claims

apart : {i : ℕ} → right ≡ wrong_at i → ⊥
apart e = let z : ◌≡◌ {A = ℕ} 0 1 = cc in absurd (omega arith)

position : {i j : ℕ} → wrong_at i ≡ wrong_at j → i ≡ j
position e = cc

module _ (y claimed : List ℕ) (work : Tables) (taken : check_refusal y claimed work ≡ 0) where
  finds_right : least_wrong y claimed ≡ length y → finding y claimed work ≡ right
  unfolding finding
  finds_right z = unless_taken _ _ _ taken ∙ sym (found_none z)

  finds_wrong : least_wrong y claimed ≢ length y → finding y claimed work ≡ wrong_at (least_wrong y claimed)
  unfolding finding
  finds_wrong z = unless_taken _ _ _ taken ∙ sym (found_wrong refl z)

  correct : (i : ℕ) → is_wrong y claimed i ≡ false → get_or claimed i 0 ≡ next y i
  unfolding is_wrong
  correct i e = eqb-true _ _ (not-false _ e)

  incorrect : (i : ℕ) → is_wrong y claimed i ≡ true → get_or claimed i 0 ≢ next y i
  unfolding is_wrong
  incorrect i e z = true≢false (sym e ∙ ap not (eq-eqb _ _ z))

  finds : Least 0 (length y) (is_wrong y claimed) (length y) (least_wrong y claimed) → Finds y claimed work
  finds (found a b c d) =
      let j = least_wrong y claimed in
      let z : finding y claimed work ≡ wrong_at j = finds_wrong (omega arith) in
      record {
        if_right = λ e. absurd (apart (sym e ∙ z));
        right_if = λ e. absurd (incorrect j c (ap (λ t. get_or t j 0) e ∙ tabulate_entry (next y) (length y) j (omega arith)));
        wrong_is = λ i e. let w = position (sym z ∙ e) in (omega arith, incorrect i (ap (is_wrong y claimed) (sym w) ∙ c));
        least = λ i e k h. let w = position (sym z ∙ e) in correct k (d k (omega arith) (omega arith));
        wrong_if = λ i h u v. z ∙ ap wrong_at (go i u v (tri j i));
      }
    where
      go : (i : ℕ) → get_or claimed i 0 ≢ next y i → ((k : ℕ) → k < i → get_or claimed k 0 ≡ next y k) → Tri (least_wrong y claimed) i → least_wrong y claimed ≡ i
      go i u v (lt w) = absurd (incorrect (least_wrong y claimed) c (v (least_wrong y claimed) w))
      go i u v (eq w) = w
      go i u v (gt w) = absurd (u (correct i (d i (omega arith) w)))
  finds (absent a d) =
      record {
        if_right = λ e. tabulate_is (next y) claimed (length y) (claimed_length y claimed work taken) (λ i h. correct i (d i (omega arith) (omega arith)));
        right_if = λ e. finds_right a;
        wrong_is = λ i e. absurd (apart (sym (finds_right a) ∙ e));
        least = λ i e. absurd (apart (sym (finds_right a) ∙ e));
        wrong_if = λ i h u v. absurd (u (correct i (d i (omega arith) (omega arith))));
      }

pub finds_the_least_wrong : FindsTheLeastWrong
unfolding least_wrong
finds_the_least_wrong y claimed work e = finds y claimed work e (least (is_wrong y claimed) (length y) 0 (length y))

pub built_then_checked : BuiltThenChecked
unfolding lent_after work_at_exit
built_then_checked y before after work e z taken =
    let l : after ≡ lent_after y (length y) = z ∙ left_built y (length y) before e in
    let t : after.tables ≡ tables_after y (length y) = ap (λ (a : Lent). a.tables) l in
    record {
      found = (finds_the_least_wrong y after.tables.next work taken).right_if (ap (λ (u : Tables). u.next) (t ∙ all_rows_give_all_entries y));
      left = unless_taken _ _ _ taken ∙ sym t;
    }
