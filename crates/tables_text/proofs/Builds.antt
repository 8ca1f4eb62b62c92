-- A whole build is not refused, and what it answers and leaves makes the program's text.
use mathlib.Core.Path.{◌≡◌, refl, sym, ap, ◌∙◌}
use mathlib.Core.Bool.{false}
use mathlib.Core.List.{List}
use Prim.Native.Nat.{ℕ, ◌≤◌, ◌<◌}
use native.Mathlib.Omega.{arith}
use lib.ListN.{length, get_or, length-append, length-take}
use borrow.Author.Tests.{lt-ltb, le-ltb, eq-eqb}
use Rattle.suffix.specs.Search.{tabulate}
use Rattle.suffix.specs.Nearest.{previous, next}
use Rattle.suffix.specs.Tree.{tree_bytes, tree_length, byte_of, tree_after}
use Rattle.suffix.proofs.Cases.{Same, same, other, same?}
use Rattle.suffix.proofs.Search.{tabulate_length, tabulate_entry}
use Rattle.suffix.proofs.Laws.{all_rows_give_all_entries}
use Rattle.ranks.specs.Ranks.{ranks}
use Rattle.ranks.proofs.Ranks.{ranks_length}
use Rattle.refusal.specs.Numbers.{lowest, lowest_from}
use Rattle.refusal.specs.Conditions.{build_refusal}
use Rattle.reuse.specs.Steps.{comparisons}
use Rattle.reuse.proofs.Laws.{steps_are_exact}
use Rattle.suffix.specs.Rows.{Tables}
use Rattle.outcome.specs.Built.{Lent, lent_after, Figures, figures_at, refusal_of, answer, BuiltExactly}
use Rattle.outcome.proofs.Answers.{left_built}
use Rattle.tables_text.specs.Text.{head_text, lines, tables_text, too_long_text, program_text, Rendered}
use Rattle.writing.specs.Writing.{Put}
use Rattle.tables_text.specs.Buffers.{Room, WholeBuild, count_of, most_compared}
use Rattle.writing.proofs.Writes.{put_fits, put_then}
use Rattle.tables_text.proofs.Sizes.{lines_most, head_most}

taken : {n bytes : ℕ} {t : Tables} → Room n t bytes → build_refusal n n (length t.previous) (length t.next) (length t.previous_match) (length t.next_match) bytes ≡ 0
unfolding build_refusal lowest lowest_from
taken {n} {bytes} {t} r =
    rw (
      le-ltb 1000000 n (omega (arith, r.few)),
      eq-eqb (length t.previous) n r.lengths.previous,
      eq-eqb (length t.next) n r.lengths.next,
      eq-eqb (length t.previous_match) n r.lengths.previous_match,
      eq-eqb (length t.next_match) n r.lengths.next_match,
      eq-eqb bytes (tree_length n) r.tree,
      le-ltb n n (omega arith),
    )

module _ (y : List ℕ) (before after : Lent) (f : Figures) (accepted : refusal_of y (length y) before ≡ 0) (e : BuiltExactly y (length y) before after f) where
  counted : count_of f ≡ comparisons y (length y)
  unfolding answer
  counted =
      let z : count_of (answer y (length y) before) ≡ comparisons y (length y) =
      rw (eq-eqb (refusal_of y (length y) before) 0 accepted, answer, eq-eqb (length y) (length y) refl, figures_at)
      in ap count_of e.answers ∙ z

  few : length y ≤ 2048 → count_of f ≤ most_compared
  few h = go (same? (length y) 0)
    where
      go : Same (length y) 0 → count_of f ≤ most_compared
      go (same z) = let o = (steps_are_exact y (length y) (omega arith)).at_zero z in omega (arith, counted, o.0, o.1)
      go (other z) = omega (arith, counted, (e.bounded accepted).whole (omega arith) refl)

  left : after ≡ lent_after y (length y)
  left = e.leaves ∙ left_built y (length y) before accepted

  previous_is : after.tables.previous ≡ tabulate (length y) (previous y)
  unfolding lent_after
  previous_is = ap (λ (l : Lent). l.tables.previous) left ∙ ap (λ t. t.previous) (all_rows_give_all_entries y)

  next_is : after.tables.next ≡ tabulate (length y) (next y)
  unfolding lent_after
  next_is = ap (λ (l : Lent). l.tables.next) left ∙ ap (λ t. t.next) (all_rows_give_all_entries y)

  pub exactly : WholeBuild y after.tables after.tree (count_of f)
  unfolding lent_after
  exactly =
      record {
        nearests =
            record {
              previous_length = ap length previous_is ∙ tabulate_length (previous y) (length y);
              next_length = ap length next_is ∙ tabulate_length (next y) (length y);
              previous_at = λ k h. ap (λ (l : List ℕ). get_or l k 0) previous_is ∙ tabulate_entry (previous y) (length y) k h;
              next_at = λ k h. ap (λ (l : List ℕ). get_or l k 0) next_is ∙ tabulate_entry (next y) (length y) k h;
            };
        tree = ap (λ (l : Lent). l.tree) left;
        count = counted;
      }

-- where the memory has room
module _ (letters : List ℕ) {before after : Lent} {f : Figures}
    (r : Room (length letters) before.tables (length before.tree))
    (e : BuiltExactly (ranks letters) (length letters) before after f) where
  abbrev y : List ℕ
  y = ranks letters

  not_refused : refusal_of y (length y) before ≡ 0
  unfolding refusal_of
  not_refused = rw (ranks_length letters) (taken r)

  -- as many rows as ranks
  all_rows : BuiltExactly y (length y) before after f
  all_rows = rw (ranks_length letters) e

  pub few_compared : count_of f ≤ most_compared
  few_compared = few y before after f not_refused all_rows (omega (arith, ranks_length letters, r.few))

  pub whole_build : {c : ℕ} → c ≡ count_of f → WholeBuild y after.tables after.tree c
  whole_build z = rw z (exactly y before after f not_refused all_rows)

tree_small : (y : List ℕ) → length y ≤ 2048 → length (tree_bytes y (length y)) ≤ 512
unfolding tree_bytes
tree_small y h = let z = tabulate_length (byte_of (λ k. get_or (tree_after y (length y)) k false)) (tree_length (length y)) in omega arith

tables_most : (letters : List ℕ) → length letters ≤ 2048 → length (tables_text (ranks letters)) ≤ 180000
unfolding tables_text
tables_most letters h =
    let y = ranks letters in
    let few : length y ≤ 2048 = omega (arith, ranks_length letters) in
    simp length-append (omega (arith, head_most (length y) (comparisons y (length y)) (tree_bytes y (length y)) (tree_small y few), lines_most y (length y)))

pub tables_put :
    {tables : Tables} {t u v w : List ℕ} {c x z : ℕ} (letters : List ℕ)
    → WholeBuild (ranks letters) tables t c
    → Put u v (head_text (length letters) c t) 0 x
    → Put v w (lines (ranks letters) (length letters)) x z
    → Put u w (tables_text (ranks letters)) 0 z
unfolding tables_text
tables_put letters b h l = rw (ranks_length letters) (put_then (rw (b.count, b.tree, ranks_length letters) at h) l)

text_long : (y : List ℕ) → 2048 < length y → program_text y ≡ too_long_text
unfolding program_text
text_long y h = rw (lt-ltb 2048 (length y) h)

text_tables : (letters : List ℕ) → length letters ≤ 2048 → program_text letters ≡ tables_text (ranks letters)
unfolding program_text
text_tables letters h = rw (le-ltb 2048 (length letters) h)

rendered : {y a b t : List ℕ} {r : ℕ} → program_text y ≡ t → length t ≤ length a → Put a b t 0 r → Rendered y a b r
rendered e h p = let w = put_fits p (omega arith) in record { size = omega (arith, w.size, ap length e); text = w.text ∙ sym e; rest = w.rest }

pub rendered_long : (y : List ℕ) → 2048 < length y → {a b : List ℕ} {r : ℕ} → 180000 ≤ length a → Put a b too_long_text 0 r → Rendered y a b r
rendered_long y h room p = rendered (text_long y h) (omega arith) p

pub rendered_tables :
    (letters : List ℕ) → length letters ≤ 2048 → {a b : List ℕ} {r : ℕ} → 180000 ≤ length a → Put a b (tables_text (ranks letters)) 0 r → Rendered letters a b r
rendered_tables letters h room p = rendered (text_tables letters h) (omega (arith, tables_most letters h)) p

-- what render says fits the buffer
pub rendered_fits : {y before out : List ℕ} {r : ℕ} → Rendered y before out r → r ≤ length out
rendered_fits {out = out} {r = r} w = omega (arith, ap length w.text, w.size, length-take r out)
