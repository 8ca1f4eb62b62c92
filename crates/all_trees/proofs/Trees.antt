-- The trees of a size, as bytes and as brackets.
use mathlib.Core.Path.{◌≡◌, refl, sym, ap, ◌∙◌}
use mathlib.Core.Bool.{Bool, true, false, true≢false}
use mathlib.Core.List.{List, [], map}
use Prim.Native.Nat.{ℕ, zero, suc, ◌+◌, ◌*◌, ◌≤◌, ◌<◌}
use native.Mathlib.Omega.{arith}
use lib.Dec.{eqb}
use lib.ListN.{length, get_or, get_or-eq_default}
use lib.Seq.{ext_get_or}
use borrow.Author.Tests.{eq-eqb, ne_eqb}
use Rattle.suffix.specs.Tree.{byte_of, tree_length}
use Rattle.suffix.proofs.Cases.{Tri, lt, eq, gt, tri, Test, holds, fails, test}
use Rattle.suffix.proofs.Search.{tabulate_length}
use Rattle.suffix.proofs.Bytes.{bytes_fit}
use Rattle.refusal.specs.Conditions.{bit_of, flaw_number}
use Rattle.shape.specs.Claims.{AreBytes}
use Rattle.shape.proofs.ByteBits.{bytes_bit, bytes_by_bits}
use Rattle.shape.proofs.Conditions.{sound, flaw_0, spare_clear, spare_none, not_early, all_closed}
use Rattle.shape.proofs.Reading.{Balanced}
use Rattle.all_trees.specs.Trees.{chosen, brackets_from, brackets_of, tree_of, all_brackets, before, trees_of, trees_after}
use Rattle.all_trees.specs.Claims.{IsBalanced}
use Rattle.all_trees.proofs.Lists.{chosen_map, chosen_same}
use Rattle.all_trees.proofs.BracketLists.{all_same, all_length}
use Rattle.all_trees.proofs.Closing.{closes, kept, balanced_closes, closes_balanced}

pub brackets_length : (g : ℕ → Bool) (a m : ℕ) → length (brackets_from g a m) ≡ m
unfolding brackets_from
brackets_length g a zero = refl
brackets_length g a (suc m) = ap suc (brackets_length g (suc a) m)

pub brackets_entry : (g : ℕ → Bool) (a m k : ℕ) → k < m → get_or (brackets_from g a m) k false ≡ g (a + k)
unfolding brackets_from
brackets_entry g a zero k h = absurd (omega arith)
brackets_entry g a (suc m) zero h = ap g (omega arith)
brackets_entry g a (suc m) (suc k) h = brackets_entry g (suc a) m k (omega arith) ∙ ap g (omega arith)

pub brackets_past : (w : List Bool) (k : ℕ) → length w ≤ k → get_or w k false ≡ false
brackets_past w k h = get_or-eq_default w false {n = k} h

module _ (n : ℕ) where
  pub of_length : (t : List ℕ) → length (brackets_of n t) ≡ 2 * n
  unfolding brackets_of
  of_length t = brackets_length (bit_of t) 0 (2 * n)

  of_entry : (t : List ℕ) (k : ℕ) → k < 2 * n → get_or (brackets_of n t) k false ≡ bit_of t k
  unfolding brackets_of
  of_entry t k h = brackets_entry (bit_of t) 0 (2 * n) k h ∙ ap (bit_of t) (omega arith)

  -- ---- the bytes of brackets

  module _ (w : List Bool) where
    pub tree_size : length (tree_of n w) ≡ tree_length n
    unfolding tree_of
    tree_size = tabulate_length (byte_of (λ k. get_or w k false)) (tree_length n)

    pub tree_bytes_lem : AreBytes (tree_of n w)
    unfolding tree_of
    tree_bytes_lem j = bytes_fit (λ k. get_or w k false) (tree_length n) j

    tree_bit : (k : ℕ) → k < 8 * tree_length n → bit_of (tree_of n w) k ≡ get_or w k false
    unfolding tree_of
    tree_bit k h = bytes_bit (λ k. get_or w k false) (tree_length n) k h

    module _ (e : length w ≡ 2 * n) where
      pub brackets_back : brackets_of n (tree_of n w) ≡ w
      brackets_back =
          ext_get_or false (brackets_of n (tree_of n w)) w (of_length (tree_of n w) ∙ sym e)
          (λ k h. of_entry (tree_of n w) k (omega (arith, of_length (tree_of n w))) ∙ tree_bit k (omega (arith, of_length (tree_of n w))))

      -- it is balanced exactly where its brackets close all
      pub balanced_tree : eqb (flaw_number n (tree_of n w)) 0 ≡ closes 0 w
      unfolding brackets_of
      balanced_tree = go (test (closes 0 w))
        where
          go : Test (closes 0 w) → eqb (flaw_number n (tree_of n w)) 0 ≡ closes 0 w
          go (holds q) =
              let B : Balanced (bit_of (tree_of n w)) (2 * n) = closes_balanced (bit_of (tree_of n w)) (2 * n) (ap (closes 0) brackets_back ∙ q) in
              eq-eqb (flaw_number n (tree_of n w)) 0
              (flaw_0 n (tree_of n w) (spare_clear n (tree_of n w) (λ k h c. tree_bit k (omega (arith, tree_size)) ∙ brackets_past w k (omega arith)))
              (not_early n (tree_of n w) B.above) (all_closed n (tree_of n w) (omega (arith, B.closed))))
              ∙ sym q
          go (fails q) =
              ne_eqb (flaw_number n (tree_of n w)) 0
              (λ z. true≢false (sym (balanced_closes (bit_of (tree_of n w)) (2 * n) (sound n (tree_of n w) z).even) ∙ ap (closes 0) brackets_back ∙ q))
              ∙ sym q

  -- ---- the brackets of a balanced tree

  module _ {t : List ℕ} (T : IsBalanced n t) where
    pub tree_even : Balanced (bit_of t) (2 * n)
    tree_even = (sound n t T.balanced).even

    pub tree_closes : closes 0 (brackets_of n t) ≡ true
    unfolding brackets_of
    tree_closes = balanced_closes (bit_of t) (2 * n) tree_even

    pub bytes_back : tree_of n (brackets_of n t) ≡ t
    bytes_back =
        bytes_by_bits (tree_of n (brackets_of n t)) t (tree_size (brackets_of n t) ∙ sym T.size) (tree_bytes_lem (brackets_of n t)) T.bytes
        (λ k h. tree_bit (brackets_of n t) k (omega (arith, tree_size (brackets_of n t))) ∙ go k (omega (arith, tree_size (brackets_of n t), T.size)) (tri k (2 * n)))
      where
        past : (k : ℕ) → k < 8 * length t → 2 * n ≤ k → get_or (brackets_of n t) k false ≡ bit_of t k
        past k h c = brackets_past (brackets_of n t) k (omega (arith, of_length t)) ∙ sym (spare_none n t (sound n t T.balanced).spare k c h)

        go : (k : ℕ) → k < 8 * length t → Tri k (2 * n) → get_or (brackets_of n t) k false ≡ bit_of t k
        go k h (lt c) = of_entry t k c
        go k h (eq c) = past k h (omega arith)
        go k h (gt c) = past k h (omega arith)

  -- ---- all trees of n positions, and those after one

  pub trees_are : trees_of n ≡ map (tree_of n) (kept 0 (2 * n))
  unfolding trees_of kept
  trees_are =
      chosen_map (λ t. eqb (flaw_number n t) 0) (tree_of n) (all_brackets (2 * n))
      ∙ ap (map (tree_of n)) (all_same (2 * n) (λ w. eqb (flaw_number n (tree_of n w)) 0) (closes 0) (λ w e. balanced_tree w e))

  pub kept_length : (k : ℕ) → k < length (kept 0 (2 * n)) → length (get_or (kept 0 (2 * n)) k []) ≡ 2 * n
  unfolding kept
  kept_length k h = all_length (2 * n) (closes 0) k h

  pub after_are : (t : List ℕ) → trees_after n t ≡ map (tree_of n) (chosen (before (brackets_of n t)) (kept 0 (2 * n)))
  unfolding trees_after
  after_are t =
      ap (chosen (λ u. before (brackets_of n t) (brackets_of n u))) trees_are
      ∙ chosen_map (λ u. before (brackets_of n t) (brackets_of n u)) (tree_of n) (kept 0 (2 * n))
      ∙ ap (map (tree_of n))
      (chosen_same (λ w. before (brackets_of n t) (brackets_of n (tree_of n w))) (before (brackets_of n t)) [] (kept 0 (2 * n))
      (λ k h. ap (before (brackets_of n t)) (brackets_back (get_or (kept 0 (2 * n)) k []) (kept_length k h))))
