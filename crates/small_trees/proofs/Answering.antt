-- Which number is returned, and what is left then.
use mathlib.Core.Path.{◌≡◌, refl, sym, ◌∙◌}
use mathlib.Core.Logic.{◌≢◌}
use mathlib.Core.Bool.{true, false, cond}
use mathlib.Core.List.{List, ◌∷◌}
use Prim.Native.Nat.{ℕ, ◌≤◌, ◌<◌}
use native.Mathlib.Omega.{arith}
use lib.Dec.{eqb, ltb}
use lib.ListN.{length}
use borrow.Author.Tests.{eq-eqb, ne_eqb, ltb-false}
use Rattle.suffix.specs.Tree.{tree_length}
use Rattle.suffix.proofs.Cases.{Same, same, other, same?, Test, holds, fails, test}
use Rattle.refusal.specs.declared.Refusal.{Refusal}
use Rattle.refusal.specs.declared.Refusal.TheVariants.{SizeOutside}
use Rattle.refusal.specs.Numbers.{number_of, first_of, number_if}
use Rattle.refusal.specs.Conditions.{flaw_number, tree_refusal}
use Rattle.refusal.proofs.Numbers.{positive, neither, first_only, unless_taken, unless_refused_lem}
use Rattle.shape.proofs.Conditions.{tree_3, tree_flaw}
use Rattle.all_trees.specs.Trees.{first_tree, next_tree, is_last}
use Rattle.small_trees.specs.Answers.{size_outside, first_refusal, first_at_exit, FirstGiven, next_refusal, next_at_exit, Going, next, last, refused, next_answer, NextGiven}
use Rattle.small_trees.specs.Steps.{changed_tree, Stepped}
use Rattle.small_trees.proofs.Turning.{changed_first}

pub inside : (n : ℕ) → size_outside n ≡ false → n ≤ 12
inside n e = ltb-false 12 n (neither (eqb n 0) (ltb 12 n) e).1

-- the test of the size comes first, whatever the others
module _ (n : ℕ) (others : List ℕ) where
  refusal : ℕ
  refusal = first_of (number_if (size_outside n) SizeOutside ∷ others)

  outside_14 : size_outside n ≡ true → refusal ≡ 14
  unfolding refusal first_of
  outside_14 e = rw e

  taken_inside : refusal ≡ 0 → size_outside n ≡ false
  taken_inside e = go (test (size_outside n))
    where
      go : Test (size_outside n) → size_outside n ≡ false
      go (holds z) = absurd (omega (arith, outside_14 z))
      go (fails z) = z

module _ (n m : ℕ) where
  pub first_14 : size_outside n ≡ true → first_refusal n m ≡ 14
  unfolding first_refusal refusal
  first_14 = outside_14 n _

  pub first_inside : first_refusal n m ≡ 0 → size_outside n ≡ false
  unfolding first_refusal refusal
  first_inside = taken_inside n _

  module _ (e : size_outside n ≡ false) where
    pub first_3 : m ≢ tree_length n → first_refusal n m ≡ 3
    unfolding first_refusal first_of
    first_3 h = rw (e, ne_eqb m (tree_length n) h)

    pub first_0 : m ≡ tree_length n → first_refusal n m ≡ 0
    unfolding first_refusal first_of
    first_0 h = rw (e, eq-eqb m (tree_length n) h)

module _ (n : ℕ) (t : List ℕ) where
  pub next_14 : size_outside n ≡ true → next_refusal n t ≡ 14
  unfolding next_refusal refusal
  next_14 = outside_14 n _

  pub next_inside : next_refusal n t ≡ 0 → size_outside n ≡ false
  unfolding next_refusal refusal
  next_inside = taken_inside n _

  -- the rest is the verdict on the tree
  pub next_tree_lem : size_outside n ≡ false → next_refusal n t ≡ tree_refusal n t
  unfolding next_refusal first_of
  next_tree_lem e = go (same? (length t) (tree_length n))
    where
      small : n ≤ 1000000
      small = omega (arith, inside n e)

      go : Same (length t) (tree_length n) → next_refusal n t ≡ tree_refusal n t
      go (same z) = rw (e, eq-eqb (length t) (tree_length n) z) (first_only (flaw_number n t) ∙ sym (tree_flaw n t small z))
      go (other z) = rw (e, ne_eqb (length t) (tree_length n) z) (sym (tree_3 n t small z))

-- ---- what is left

module _ (n : ℕ) (buffer : List ℕ) where
  pub first_left : first_refusal n (length buffer) ≢ 0 → buffer ≡ first_at_exit n buffer
  unfolding first_at_exit
  first_left h = sym (unless_refused_lem (first_refusal n (length buffer)) (first_tree n) buffer h)

  pub first_written : first_refusal n (length buffer) ≡ 0 → first_at_exit n buffer ≡ first_tree n
  unfolding first_at_exit
  first_written e = unless_taken (first_refusal n (length buffer)) (first_tree n) buffer e

module _ (n : ℕ) (t : List ℕ) where
  module _ (h : next_refusal n t ≢ 0) where
    pub next_refused : refused (next_refusal n t) ≡ next_answer n t
    unfolding next_answer
    next_refused = sym (unless_refused_lem (next_refusal n t) (cond (is_last n t) last next) (refused (next_refusal n t)) h)

    pub next_left : t ≡ next_at_exit n t
    unfolding next_at_exit
    next_left = sym (unless_refused_lem (next_refusal n t) (next_tree n t) t h)

  module _ (e : next_refusal n t ≡ 0) where
    pub next_answered : next_answer n t ≡ cond (is_last n t) last next
    unfolding next_answer
    next_answered = unless_taken (next_refusal n t) (cond (is_last n t) last next) (refused (next_refusal n t)) e

    pub next_written : next_at_exit n t ≡ next_tree n t
    unfolding next_at_exit
    next_written = unless_taken (next_refusal n t) (next_tree n t) t e

-- ---- the first tree and the next, case by case

module _ (n : ℕ) (b : List ℕ) where
  first_refused : (k : ℕ) → 0 < k → first_refusal n (length b) ≡ k → FirstGiven n b b k
  first_refused k h e = record { answers = sym e; leaves = first_left n b (λ z. omega arith) }

  pub first_outside : size_outside n ≡ true → FirstGiven n b b 14
  first_outside a = first_refused 14 (omega arith) (first_14 n (length b) a)

  module _ (size : size_outside n ≡ false) where
    pub first_short : length b ≢ tree_length n → FirstGiven n b b 3
    first_short a = first_refused 3 (omega arith) (first_3 n (length b) size a)

    pub first_given : length b ≡ tree_length n → {after : List ℕ} → after ≡ changed_tree b 0 0 n → FirstGiven n b after 0
    first_given a w =
        let e = first_0 n (length b) size a in
        record { answers = sym e; leaves = changed_first n b a w refl refl refl ∙ sym (first_written n b e) }

module _ (n : ℕ) (t : List ℕ) where
  refused_as : (k : ℕ) → 0 < k → next_refusal n t ≡ k → NextGiven n t t (refused k)
  refused_as k h e = let z : next_refusal n t ≢ 0 = λ z. omega arith in record { answers = rw e at (next_refused n t z); leaves = next_left n t z }

  pub next_outside : size_outside n ≡ true → NextGiven n t t (refused 14)
  next_outside a = refused_as 14 (omega arith) (next_14 n t a)

  module _ (size : size_outside n ≡ false) where
    pub next_bad : (k : Refusal) → number_of k ≡ tree_refusal n t → NextGiven n t t (refused (number_of k))
    next_bad k e = refused_as (number_of k) (positive k) (next_tree_lem n t size ∙ sym e)

    pub next_given : 0 ≡ tree_refusal n t → {after : List ℕ} {g : Going} → Stepped n t after g → NextGiven n t after g
    next_given e S =
        let z = next_tree_lem n t size ∙ sym e in
        record { answers = S.answers ∙ sym (next_answered n t z); leaves = S.leaves ∙ sym (next_written n t z) }
