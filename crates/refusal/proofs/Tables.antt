-- The conditions on four tables, which come first of a build's.
use mathlib.Core.Path.{◌≡◌, refl, sym, ◌∙◌}
use mathlib.Core.Logic.{◌≢◌}
use mathlib.Core.Bool.{Bool, true, false, not}
use mathlib.Core.List.{List, [], ◌∷◌}
use Prim.Native.Nat.{ℕ, ◌≤◌, ◌<◌}
use native.Mathlib.Omega.{arith}
use lib.Dec.{eqb}
use borrow.Author.Tests.{lt-ltb, le-ltb, ltb-false, eq-eqb, ne_eqb, eqb-true, eqb-false, not-true, not-false}
use Rattle.suffix.specs.Tree.{tree_length}
use Rattle.suffix.proofs.Cases.{Same, same, other, same?}
use Rattle.refusal.specs.declared.Refusal.{Refusal}
use Rattle.refusal.specs.Numbers.{number_of, lowest, lowest_from}
use Rattle.refusal.specs.Conditions.{build_refusal, tables_refusal, a_table_length_off, too_long, tree_length_off, too_many_rows}
use Rattle.refusal.proofs.Numbers.{positive, none_applies, neither}

first_two : (a b : Bool) (others : List Bool) → lowest (a ∷ b ∷ []) ≢ 0 → lowest (a ∷ b ∷ others) ≡ lowest (a ∷ b ∷ [])
unfolding lowest lowest_from
first_two true b others h = refl
first_two false true others h = refl
first_two false false others h = absurd (h refl)

-- tables for n letters that are not refused
pub record Taken (n a b c d : ℕ) : Type 0 where
  pub few : n ≤ 1000000
  pub previous : a ≡ n
  pub next : b ≡ n
  pub previous_match : c ≡ n
  pub next_match : d ≡ n

-- a test whether a length is off, by what it tells
pub off : (a n : ℕ) → not (eqb a n) ≡ true → a ≢ n
off a n e = eqb-false a n (not-true _ e)

pub not_off : (a n : ℕ) → not (eqb a n) ≡ false → a ≡ n
not_off a n e = eqb-true a n (not-false _ e)

module _ (n previous next previous_match next_match : ℕ) where
  -- the refusal of four tables, by numbers
  pub says_one : 1000000 < n → {k : ℕ} → k ≡ 1 → k ≡ tables_refusal n previous next previous_match next_match
  unfolding tables_refusal lowest lowest_from
  says_one h e = rw (lt-ltb 1000000 n h) e

  one_off : (Taken n previous next previous_match next_match → ⊥) → n ≤ 1000000 → a_table_length_off n previous next previous_match next_match ≡ true
  one_off q h = go (same? previous n) (same? next n) (same? previous_match n) (same? next_match n)
    where
      go : Same previous n → Same next n → Same previous_match n → Same next_match n → a_table_length_off n previous next previous_match next_match ≡ true
      go (other a) b c d = rw (ne_eqb previous n a)
      go (same a) (other b) c d = rw (eq-eqb previous n a, ne_eqb next n b)
      go (same a) (same b) (other c) d = rw (eq-eqb previous n a, eq-eqb next n b, ne_eqb previous_match n c)
      go (same a) (same b) (same c) (other d) = rw (eq-eqb previous n a, eq-eqb next n b, eq-eqb previous_match n c, ne_eqb next_match n d)
      go (same a) (same b) (same c) (same d) = absurd (q (record { few = h; previous = a; next = b; previous_match = c; next_match = d }))

  pub says_two : n ≤ 1000000 → (Taken n previous next previous_match next_match → ⊥) → {k : ℕ} → k ≡ 2 → k ≡ tables_refusal n previous next previous_match next_match
  unfolding tables_refusal lowest lowest_from
  says_two h q e = rw (le-ltb 1000000 n h, one_off q h) e

  pub refused_first : (rows bytes : ℕ) (k : Refusal) → number_of k ≡ tables_refusal n previous next previous_match next_match
      → number_of k ≡ build_refusal n rows previous next previous_match next_match bytes
  unfolding tables_refusal build_refusal
  refused_first rows bytes k e =
      e ∙ sym (first_two (too_long n) (a_table_length_off n previous next previous_match next_match) (tree_length_off n bytes ∷ too_many_rows n rows ∷ []) (λ z. omega (arith, positive k)))

  taken_of : too_long n ≡ false → a_table_length_off n previous next previous_match next_match ≡ false → Taken n previous next previous_match next_match
  taken_of a b =
      let v = neither _ _ b in
      let u = neither _ _ v.0 in
      let p = neither _ _ u.0 in
      record {
        few = ltb-false _ _ a;
        previous = not_off _ _ p.0;
        next = not_off _ _ p.1;
        previous_match = not_off _ _ u.1;
        next_match = not_off _ _ v.1;
      }

  taken_are : tables_refusal n previous next previous_match next_match ≡ 0 → (too_long n ≡ false) × (a_table_length_off n previous next previous_match next_match ≡ false)
  unfolding tables_refusal lowest
  taken_are e = let a = none_applies 0 _ _ e in (a.0, (none_applies 1 _ _ a.1).0)

  -- nothing is refused of the tables, and of a build
  pub taken : tables_refusal n previous next previous_match next_match ≡ 0 → Taken n previous next previous_match next_match
  taken e = let a = taken_are e in taken_of a.0 a.1

  pub none_refused : Taken n previous next previous_match next_match → tables_refusal n previous next previous_match next_match ≡ 0
  unfolding tables_refusal lowest lowest_from
  none_refused t = rw (le-ltb 1000000 n t.few, eq-eqb previous n t.previous, eq-eqb next n t.next, eq-eqb previous_match n t.previous_match, eq-eqb next_match n t.next_match)

  pub build_taken : (rows bytes : ℕ) → build_refusal n rows previous next previous_match next_match bytes ≡ 0
      → Taken n previous next previous_match next_match × (bytes ≡ tree_length n) × (rows ≤ n)
  unfolding build_refusal lowest
  build_taken rows bytes e =
      let a = none_applies 0 _ _ e in
      let b = none_applies 1 _ _ a.1 in
      let c = none_applies 2 _ _ b.1 in
      let d = none_applies 3 _ _ c.1 in
      (taken_of a.0 b.0, not_off _ _ c.0, ltb-false _ _ d.0)

  pub says_none : Taken n previous next previous_match next_match → {k : ℕ} → k ≡ 0 → k ≡ tables_refusal n previous next previous_match next_match
  says_none t e = e ∙ sym (none_refused t)

  -- what is left of a build's conditions
  pub taken_first : (rows bytes : ℕ) → tables_refusal n previous next previous_match next_match ≡ 0
      → build_refusal n rows previous next previous_match next_match bytes ≡ lowest_from 3 (tree_length_off n bytes ∷ too_many_rows n rows ∷ [])
  unfolding build_refusal lowest lowest_from
  taken_first rows bytes e = let a = taken_are e in rw (a.0, a.1)

  -- the tree and the rows, where the tables are not refused
  module _ (rows bytes : ℕ) (e : tables_refusal n previous next previous_match next_match ≡ 0) where
    pub says_three : bytes ≢ tree_length n → {k : ℕ} → k ≡ 3 → k ≡ build_refusal n rows previous next previous_match next_match bytes
    unfolding lowest_from
    says_three a z = z ∙ sym (taken_first rows bytes e ∙ rw (ne_eqb bytes (tree_length n) a))

    pub says_four : bytes ≡ tree_length n → n < rows → {k : ℕ} → k ≡ 4 → k ≡ build_refusal n rows previous next previous_match next_match bytes
    unfolding lowest_from
    says_four a b z = z ∙ sym (taken_first rows bytes e ∙ rw (eq-eqb bytes (tree_length n) a, lt-ltb n rows b))

    pub says_taken : bytes ≡ tree_length n → rows ≤ n → {k : ℕ} → k ≡ 0 → k ≡ build_refusal n rows previous next previous_match next_match bytes
    unfolding lowest_from
    says_taken a b z = z ∙ sym (taken_first rows bytes e ∙ rw (eq-eqb bytes (tree_length n) a, le-ltb n rows b))
