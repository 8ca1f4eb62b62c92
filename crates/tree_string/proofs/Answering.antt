-- Which number is returned, and what is left in the buffer.
use mathlib.Core.Path.{◌≡◌, sym, ◌∙◌}
use mathlib.Core.Logic.{◌≢◌}
use mathlib.Core.List.{List}
use Prim.Native.Nat.{ℕ, ◌≤◌, ◌<◌}
use native.Mathlib.Omega.{arith}
use lib.ListN.{length}
use borrow.Author.Tests.{lt-ltb, le-ltb, eq-eqb, ne_eqb}
use Rattle.suffix.specs.Tree.{tree_length}
use Rattle.suffix.proofs.Cases.{Same, same, other, same?}
use Rattle.refusal.specs.declared.Refusal.{Refusal}
use Rattle.refusal.specs.Numbers.{number_of, first_of}
use Rattle.refusal.specs.Conditions.{flaw_number, tree_refusal}
use Rattle.refusal.proofs.Numbers.{positive, first_only, unless_taken, unless_refused_lem}
use Rattle.shape.proofs.Conditions.{tree_3, tree_flaw}
use Rattle.tree_string.specs.TreeString.{tree_string, string_refusal, symbols_at_exit, StringWritten}

module _ (n : ℕ) (t : List ℕ) (m : ℕ) where
  pub string_1 : 1000000 < n → string_refusal n t m ≡ 1
  unfolding string_refusal first_of
  string_1 h = rw (lt-ltb 1000000 n h)

  pub string_2 : n ≤ 1000000 → m ≢ n → string_refusal n t m ≡ 2
  unfolding string_refusal first_of
  string_2 h k = rw (le-ltb 1000000 n h, ne_eqb m n k)

  -- the rest is the verdict on the tree
  pub string_tree : n ≤ 1000000 → m ≡ n → string_refusal n t m ≡ tree_refusal n t
  unfolding string_refusal first_of
  string_tree h k = go (same? (length t) (tree_length n))
    where
      go : Same (length t) (tree_length n) → string_refusal n t m ≡ tree_refusal n t
      go (same z) = rw (le-ltb 1000000 n h, eq-eqb m n k, eq-eqb (length t) (tree_length n) z) (first_only (flaw_number n t) ∙ sym (tree_flaw n t h z))
      go (other z) = rw (le-ltb 1000000 n h, eq-eqb m n k, ne_eqb (length t) (tree_length n) z) (sym (tree_3 n t h z))

module _ (n : ℕ) (t before : List ℕ) where
  pub buffer_kept : string_refusal n t (length before) ≢ 0 → before ≡ symbols_at_exit n t before
  unfolding symbols_at_exit
  buffer_kept e = sym (unless_refused_lem (string_refusal n t (length before)) (tree_string n t) before e)

  pub buffer_written : string_refusal n t (length before) ≡ 0 → tree_string n t ≡ symbols_at_exit n t before
  unfolding symbols_at_exit
  buffer_written e = sym (unless_taken (string_refusal n t (length before)) (tree_string n t) before e)

-- ---- what is answered and left, case by case

module _ (n : ℕ) (t b : List ℕ) where
  refused : (k : ℕ) → 0 < k → string_refusal n t (length b) ≡ k → StringWritten n t b b k
  refused k h e = record { answers = sym e; leaves = buffer_kept n t b (λ z. omega arith) }

  pub refused_1 : 1000000 < n → StringWritten n t b b 1
  refused_1 a = refused 1 (omega arith) (string_1 n t (length b) a)

  module _ (few : n ≤ 1000000) where
    pub refused_2 : length b ≢ n → StringWritten n t b b 2
    refused_2 a = refused 2 (omega arith) (string_2 n t (length b) few a)

    module _ (long : length b ≡ n) where
      pub refused_tree : (k : Refusal) → number_of k ≡ tree_refusal n t → StringWritten n t b b (number_of k)
      refused_tree k e = refused (number_of k) (positive k) (string_tree n t (length b) few long ∙ sym e)

      pub written : 0 ≡ tree_refusal n t → {after : List ℕ} → after ≡ tree_string n t → StringWritten n t b after 0
      written e w =
          let z = string_tree n t (length b) few long ∙ sym e in
          record { answers = sym z; leaves = w ∙ buffer_written n t b z }
