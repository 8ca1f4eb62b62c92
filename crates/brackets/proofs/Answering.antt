-- What reading answers and leaves, case by case.
use mathlib.Core.Path.{◌≡◌, sym, ◌∙◌}
use mathlib.Core.Logic.{◌≢◌, ◌⊎◌, inl, inr}
use mathlib.Core.List.{List}
use Prim.Native.Nat.{ℕ, ◌≤◌, ◌<◌}
use native.Mathlib.Omega.{arith}
use lib.ListN.{length}
use borrow.Author.Tests.{eq-eqb, ne_eqb}
use Rattle.suffix.specs.Tree.{tree_length}
use Rattle.refusal.specs.declared.Refusal.{Refusal}
use Rattle.refusal.specs.Numbers.{number_of}
use Rattle.refusal.specs.Conditions.{flaw_number}
use Rattle.refusal.proofs.Numbers.{positive}
use Rattle.shape.specs.Shape.{previous_table, next_table}
use Rattle.shape.proofs.Conditions.{read_1, read_2, read_2_next, read_3, read_flaw}
use Rattle.brackets.specs.Answers.{Lent, refusal_of, lent_at_exit, ReadBack}

module _ (n : ℕ) (t : List ℕ) (lent : Lent) where
  pub lent_kept : refusal_of n t lent ≢ 0 → lent ≡ lent_at_exit n t lent
  unfolding lent_at_exit
  lent_kept e = rw (ne_eqb (refusal_of n t lent) 0 e, lent_at_exit)

  pub lent_read : refusal_of n t lent ≡ 0 → {p x : List ℕ} → p ≡ previous_table n t → x ≡ next_table n t → record { previous = p; next = x } ≡ lent_at_exit n t lent
  unfolding lent_at_exit
  lent_read e a b = rw (eq-eqb (refusal_of n t lent) 0 e, lent_at_exit, a, b)

module _ (n : ℕ) (t p x : List ℕ) where
  abbrev lent : Lent
  lent = record { previous = p; next = x }

  -- a refusal leaves the tables as they were
  refused : (k : ℕ) → 0 < k → refusal_of n t lent ≡ k → ReadBack n t lent lent k
  refused k h e = record { answers = sym e; leaves = lent_kept n t lent (λ z. omega arith) }

  pub refused_1 : 1000000 < n → ReadBack n t lent lent 1
  unfolding refusal_of
  refused_1 a = refused 1 (omega arith) (read_1 n t (length p) (length x) a)

  module _ (few : n ≤ 1000000) where
    pub refused_2 : (length p ≢ n) ⊎ ((length p ≡ n) × (length x ≢ n)) → ReadBack n t lent lent 2
    unfolding refusal_of
    refused_2 (inl a) = refused 2 (omega arith) (read_2 n t (length p) (length x) few a)
    refused_2 (inr (a, b)) = refused 2 (omega arith) (read_2_next n t (length p) (length x) few a b)

    module _ (previous : length p ≡ n) (next : length x ≡ n) where
      pub refused_3 : length t ≢ tree_length n → ReadBack n t lent lent 3
      unfolding refusal_of
      refused_3 a = refused 3 (omega arith) (read_3 n t (length p) (length x) few previous next a)

      module _ (bytes : length t ≡ tree_length n) where
        whole : refusal_of n t lent ≡ flaw_number n t
        unfolding refusal_of
        whole = read_flaw n t (length p) (length x) few previous next bytes

        pub refused_flaw : (k : Refusal) → number_of k ≡ flaw_number n t → ReadBack n t lent lent (number_of k)
        refused_flaw k e = refused (number_of k) (positive k) (whole ∙ sym e)

        pub read_back : 0 ≡ flaw_number n t → {q y : List ℕ} → q ≡ previous_table n t → y ≡ next_table n t → ReadBack n t lent (record { previous = q; next = y }) 0
        read_back e a b = record { answers = e ∙ sym whole; leaves = lent_read n t lent (whole ∙ sym e) a b }
