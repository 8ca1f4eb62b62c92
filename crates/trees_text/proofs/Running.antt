-- The program at work: which line is in the buffer, and how many bytes went before it.
use mathlib.Core.Path.{◌≡◌, refl, sym, ap, ◌∙◌}
use mathlib.Core.Logic.{◌≢◌}
use mathlib.Core.Bool.{true, false, true≢false}
use mathlib.Core.List.{List, []}
use Prim.Native.Nat.{ℕ, suc, ◌+◌, ◌^◌, ◌≤◌, ◌<◌}
use native.Mathlib.Omega.{arith}
use lib.ListN.{length, get_or}
use Rattle.suffix.specs.Tree.{tree_length}
use Rattle.suffix.proofs.Cases.{Same, same, other, same?}
use Rattle.writing.proofs.Writes.{put_fits}
use Rattle.all_trees.specs.Trees.{trees_of, first_tree, next_tree, is_last}
use Rattle.all_trees.proofs.Laws.{some_tree, next_is, last_ends, not_last_goes_on}
use Rattle.small_trees.specs.Answers.{size_outside, first_refusal, next_refusal}
use Rattle.small_trees.proofs.Answering.{first_inside}
use Rattle.small_trees.proofs.Laws.{listed_taken}
use Rattle.trees_text.specs.Text.{line_text, lines_text, size_text}
use Rattle.trees_text.specs.Lines.{LineMade, Begun}
use Rattle.trees_text.specs.declared.Line.{Line}
use Rattle.trees_text.proofs.Beginning.{begun_made, begun_no_size}
use Rattle.trees_text.proofs.Lines.{listed_most, lines_more, lines_few, lines_up, text_lines, text_none}

abbrev tree_at : ℕ → ℕ → List ℕ
tree_at n k = get_or (trees_of n) k []

-- the line of tree k is in the buffer, and the lines before it are written; or the size is refused, and `no size` is there
pub data Running (n written : ℕ) (line : Line) (tree : List ℕ) : Type 0 where
  none : first_refusal n (tree_length n) ≢ 0 → written ≡ 0 → line.length ≡ 8 → line.last ≡ true → Running n written line tree
  at :
      (k : ℕ) → size_outside n ≡ false → k < length (trees_of n) → written ≡ length (lines_text n k) → line.length ≡ length (line_text n (tree_at n k))
      → line.last ≡ is_last n (tree_at n k) → tree ≡ next_tree n (tree_at n k) → Running n written line tree

module _ {n written : ℕ} {line : Line} {tree : List ℕ} where
  pub running_most : Running n written line tree → line.length ≤ 300
  running_most (none r w l e) = omega arith
  running_most (at k s h w l e t) = omega (arith, listed_most n s k h)

  -- the bytes up to the end of this line
  pub running_fits : Running n written line tree → written + line.length < 2 ^ 64
  running_fits (none r w l e) = omega arith
  running_fits (at k s h w l e t) = omega (arith, lines_more n s k, lines_few n s (suc k) (omega arith))

  pub running_up : Running n written line tree → (0 < line.length) × (written + line.length ≤ length (size_text n))
  running_up (none r w l e) = (omega arith, omega (arith, ap length (text_none n r)))
  running_up (at k s h w l e t) =
      (omega (arith, listed_most n s k h), omega (arith, lines_more n s k, lines_up n s (suc k) (length (trees_of n)) (omega arith), ap length (text_lines n s)))

  pub running_ends : Running n written line tree → line.last ≡ true → written + line.length ≡ length (size_text n)
  running_ends (none r w l e) q = omega (arith, ap length (text_none n r))
  running_ends (at k s h w l e t) q =
      omega (arith, lines_more n s k, ap (λ j. length (lines_text n j)) (last_ends n k h (sym e ∙ q)), ap length (text_lines n s))

  pub running_taken : Running n written line tree → line.last ≡ false → next_refusal n tree ≡ 0
  running_taken (none r w l e) q = absurd (true≢false (sym e ∙ q))
  running_taken (at k s h w l e t) q =
      let c : suc k < length (trees_of n) = not_last_goes_on n k h (sym e ∙ q) in
      rw (t, next_is n k h c) (listed_taken n (suc k) s c)

  pub running_again :
      {after text text_after : List ℕ} {made : Line} → Running n written line tree → line.last ≡ false → 300 ≤ length text → LineMade n tree after text text_after made
      → Running n (written + line.length) made after
  running_again (none r w l e) q x m = absurd (true≢false (sym e ∙ q))
  running_again (at k s h w l e t) q x m =
      let c : suc k < length (trees_of n) = not_last_goes_on n k h (sym e ∙ q) in
      let z : tree ≡ tree_at n (suc k) = t ∙ next_is n k h c in
      let f : length (line_text n tree) ≤ 300 = rw z (listed_most n s (suc k) c).1 in
      at (suc k) s c (omega (arith, lines_more n s k)) (omega (arith, (put_fits m.text (omega arith)).size, ap (λ t. length (line_text n t)) z)) (m.stop ∙ ap (is_last n) z) (m.leaves ∙ ap (next_tree n) z)

pub running_start :
    {n : ℕ} {buffer after text text_after : List ℕ} {line : Line} → length buffer ≡ tree_length n → 300 ≤ length text → Begun n buffer after text text_after line
    → Running n 0 line after
unfolding lines_text first_tree
running_start {n} {buffer} {after} {line = line} e x b = go (same? (first_refusal n (length buffer)) 0)
  where
    go : Same (first_refusal n (length buffer)) 0 → Running n 0 line after
    go (same z) =
        let i = first_inside n (length buffer) z in
        let m = begun_made b z in
        at 0 i (some_tree n) refl (omega (arith, (put_fits m.text (omega (arith, listed_most n i 0 (some_tree n)))).size)) m.stop m.leaves
    go (other z) =
        let w = begun_no_size b z in
        none (rw e at z) refl (put_fits w.0 (omega arith)).size w.1
