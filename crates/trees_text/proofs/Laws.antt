-- The claims of specs/Claims.antt, each proved.
use mathlib.Core.Path.{◌≡◌, refl, sym, ap, ap₂, ◌∙◌}
use mathlib.Core.Bool.{Bool, true, false, true≢false}
use mathlib.Core.List.{List, [], ◌++◌, append_assoc, append-nil}
use Prim.Native.Nat.{ℕ, zero, suc, ◌≤◌, ◌<◌}
use native.Mathlib.Omega.{arith}
use lib.ListN.{length, get_or, take}
use Rattle.suffix.specs.Tree.{tree_length}
use Rattle.suffix.proofs.Cases.{Same, same, other, same?}
use Rattle.writing.specs.Writing.{Put}
use Rattle.writing.proofs.Writes.{put_fits}
use Rattle.all_trees.specs.Trees.{trees_of, first_tree, next_tree, is_last}
use Rattle.all_trees.proofs.Laws.{some_tree, next_is, last_ends, not_last_goes_on}
use Rattle.small_trees.specs.Answers.{size_outside, first_refusal}
use Rattle.small_trees.proofs.Answering.{first_14, first_inside}
use Rattle.small_trees.proofs.Laws.{going_on_reaches_each}
use Rattle.tree_size.specs.Size.{size_in}
use Rattle.trees_text.specs.Text.{line_text, lines_text, no_size_text, size_text, program_text}
use Rattle.trees_text.specs.Claims.{reached_text, TextIsOfGoingOn, OtherSizesAreNone, LinesAfter, none, line, LinesMadeAreTheText}
use Rattle.trees_text.proofs.Beginning.{begun_made, begun_no_size}
use Rattle.trees_text.proofs.Lines.{listed_most, text_lines, text_none}

-- up to any line
lines_reached :
    (n : ℕ) (buffer : List ℕ) → size_outside n ≡ false → length buffer ≡ tree_length n → (k : ℕ) → k ≤ length (trees_of n)
    → lines_text n k ≡ reached_text n buffer k
unfolding lines_text reached_text
lines_reached n buffer e l zero h = refl
lines_reached n buffer e l (suc k) h =
    ap₂ ◌++◌ (lines_reached n buffer e l k (omega arith)) (ap (line_text n) (sym ((going_on_reaches_each n buffer e l).reaches k (omega arith))))

pub text_is_of_going_on : TextIsOfGoingOn
unfolding program_text
text_is_of_going_on input buffer e l =
    let n = size_in input in
    text_lines n e ∙ lines_reached n buffer e l (length (trees_of n)) (omega arith)

pub other_sizes_are_none : OtherSizesAreNone
unfolding program_text
other_sizes_are_none input e = let n = size_in input in text_none n (λ z. omega (arith, first_14 n (tree_length n) e))

-- a text that was put into a buffer with room for it
put_whole : {a b t : List ℕ} {z : ℕ} → Put a b t 0 z → length t ≤ length a → take z b ≡ t
put_whole p h = (put_fits p (omega arith)).text

-- the lines after the line of tree k
lines_after :
    (n k : ℕ) {tree printed : List ℕ} {last : Bool} → size_outside n ≡ false → k < length (trees_of n) → tree ≡ next_tree n (get_or (trees_of n) k [])
    → last ≡ is_last n (get_or (trees_of n) k []) → LinesAfter n tree last printed → lines_text n (suc k) ++ printed ≡ lines_text n (length (trees_of n))
unfolding lines_text
lines_after n k s h t e (none tree) = append-nil (lines_text n (suc k)) ∙ ap (lines_text n) (last_ends n k h (sym e))
lines_after n k s h t e (line tree after before text others made x m rest) =
    let c : suc k < length (trees_of n) = not_last_goes_on n k h (sym e) in
    let z : tree ≡ get_or (trees_of n) (suc k) [] = t ∙ next_is n k h c in
    let f : length (line_text n tree) ≤ 300 = rw z (listed_most n s (suc k) c).1 in
    ap (λ p. lines_text n (suc k) ++ (p ++ others)) (put_whole m.text (omega arith) ∙ ap (line_text n) z)
    ∙ sym (append_assoc (lines_text n (suc k)) (line_text n (get_or (trees_of n) (suc k) [])) others)
    ∙ lines_after n (suc k) s c (m.leaves ∙ ap (next_tree n) z) (m.stop ∙ ap (is_last n) z) rest

none_after : {n : ℕ} {tree printed : List ℕ} {last : Bool} → last ≡ true → LinesAfter n tree last printed → printed ≡ []
none_after e (none tree) = refl
none_after e (line tree after before text others made x m rest) = absurd (true≢false (sym e))

pub lines_made_are_the_text : LinesMadeAreTheText
unfolding first_tree lines_text
lines_made_are_the_text n buffer printed e P = P.is ∙ go (same? (first_refusal n (length buffer)) 0)
  where
    go : Same (first_refusal n (length buffer)) 0 → take P.made.length P.text ++ P.others ≡ size_text n
    go (same z) =
        let s = first_inside n (length buffer) z in
        let m = begun_made P.begun z in
        ap (◌++ P.others) (put_whole m.text (omega (arith, (listed_most n s 0 (some_tree n)).1, P.room)))
        ∙ lines_after n 0 s (some_tree n) m.leaves m.stop P.rest
        ∙ sym (text_lines n s)
    go (other z) =
        let w = begun_no_size P.begun z in
        ap₂ ◌++◌ (put_whole w.0 (omega (arith, P.room))) (none_after w.1 P.rest) ∙ append-nil no_size_text ∙ sym (text_none n (rw e at z))
