-- The claim of specs/Claims.antt, proved.
use mathlib.Core.Path.{◌≡◌, sym, ap, ◌∙◌}
use mathlib.Core.Bool.{false, cond}
use mathlib.Core.List.{List, []}
use Prim.Native.Nat.{ℕ, zero, suc, ◌<◌}
use native.Mathlib.Omega.{arith}
use lib.ListN.{length, get_or}
use Rattle.suffix.specs.Tree.{tree_length}
use Rattle.shape.proofs.Conditions.{tree_flaw}
use Rattle.all_trees.specs.Trees.{trees_of, first_tree}
use Rattle.all_trees.proofs.Laws.{trees_are_all, some_tree, next_is, not_last_is, last_is}
use Rattle.small_trees.specs.Answers.{size_outside, first_refusal, next_refusal, next, last}
use Rattle.small_trees.specs.Claims.{reached, GoesOverAll, GoingOnReachesEach}
use Rattle.small_trees.proofs.Answering.{inside, first_0, next_tree_lem, first_written, next_answered, next_written}

pub listed_taken : (n k : ℕ) → size_outside n ≡ false → k < length (trees_of n) → next_refusal n (get_or (trees_of n) k []) ≡ 0
listed_taken n k size h =
    let t = get_or (trees_of n) k [] in
    let T = (trees_are_all n).trees k h in
    next_tree_lem n t size ∙ tree_flaw n t (omega (arith, inside n size)) T.size ∙ T.balanced

module _ (n : ℕ) (buffer : List ℕ) (size : size_outside n ≡ false) (long : length buffer ≡ tree_length n) where
  abbrev tree : ℕ → List ℕ
  tree k = get_or (trees_of n) k []

  first_taken : first_refusal n (length buffer) ≡ 0
  first_taken = first_0 n (length buffer) size long

  taken : (k : ℕ) → k < length (trees_of n) → next_refusal n (tree k) ≡ 0
  taken k h = listed_taken n k size h

  reaches : (k : ℕ) → k < length (trees_of n) → reached n buffer k ≡ tree k
  unfolding reached first_tree
  reaches zero h = first_written n buffer first_taken
  reaches (suc k) h =
      let w : k < length (trees_of n) = omega arith in
      rw (reaches k w) (next_written n (tree k) (taken k w) ∙ next_is n k w h)

  goes_over : GoesOverAll n buffer
  goes_over =
      record {
        first_given = first_taken;
        some = some_tree n;
        reaches = reaches;
        each = λ t T. let w = (trees_are_all n).each t T in (w.0, w.1, reaches w.0 w.1 ∙ w.2);
        once = λ j k h w e. (trees_are_all n).once j k h w (sym (reaches j h) ∙ e ∙ reaches k w);
        goes_on = λ k h. let w : k < length (trees_of n) = omega arith in rw (reaches k w) (next_answered n (tree k) (taken k w) ∙ ap (λ b. cond b last next) (not_last_is n k w h));
        ends = λ k e. let w : k < length (trees_of n) = omega arith in rw (reaches k w) (next_answered n (tree k) (taken k w) ∙ ap (λ b. cond b last next) (last_is n k w e));
      }

pub going_on_reaches_each : GoingOnReachesEach
going_on_reaches_each = goes_over
