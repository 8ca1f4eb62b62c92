-- The first line.
use mathlib.Core.Path.{◌≡◌, sym, ◌∙◌}
use mathlib.Core.Logic.{◌≢◌}
use mathlib.Core.Bool.{true}
use mathlib.Core.List.{List}
use Prim.Native.Nat.{ℕ}
use lib.ListN.{length}
use Rattle.refusal.proofs.Numbers.{unless_taken, unless_refused_lem}
use Rattle.writing.specs.Writing.{Put}
use Rattle.all_trees.specs.Trees.{first_tree, next_tree, is_last}
use Rattle.all_trees.proofs.Laws.{some_tree}
use Rattle.small_trees.specs.Answers.{first_refusal, next_refusal, FirstGiven}
use Rattle.small_trees.proofs.Answering.{first_inside, first_left, first_written}
use Rattle.small_trees.proofs.Laws.{listed_taken}
use Rattle.trees_text.specs.Text.{line_text, no_size_text}
use Rattle.trees_text.specs.Lines.{LineMade, Begun}
use Rattle.trees_text.specs.declared.Line.{Line}

module _ {n : ℕ} {buffer tree : List ℕ} {number : ℕ} (F : FirstGiven n buffer tree number) where
  abbrev r : ℕ
  r = first_refusal n (length buffer)

  -- the first tree is given
  module _ (e : number ≡ 0) where
    taken : r ≡ 0
    taken = sym F.answers ∙ e

    given : tree ≡ first_tree n
    given = F.leaves ∙ first_written n buffer taken

    pub first_taken : next_refusal n tree ≡ 0
    unfolding first_tree
    first_taken = rw given (listed_taken n 0 (first_inside n (length buffer) taken) (some_tree n))

    pub begun_first : {m : ℕ} {after text text_after : List ℕ} {line : Line} → m ≡ n → LineMade m tree after text text_after line → Begun n buffer after text text_after line
    begun_first z m =
        let L = rw (z, given) at m in
        record {
          text = rw (unless_taken r (line_text n (first_tree n)) no_size_text taken) L.text;
          stop = L.stop ∙ sym (unless_taken r (is_last n (first_tree n)) true taken);
          leaves = L.leaves ∙ sym (unless_taken r (next_tree n (first_tree n)) buffer taken);
        }

  -- it is refused
  pub begun_none : {text text_after : List ℕ} {size : ℕ} → number ≢ 0 → Put text text_after no_size_text 0 size → Begun n buffer tree text text_after (record { length = size; last = true })
  begun_none h w =
      let f : r ≢ 0 = λ z. h (F.answers ∙ z) in
      record {
        text = rw (unless_refused_lem r (line_text n (first_tree n)) no_size_text f) w;
        stop = sym (unless_refused_lem r (is_last n (first_tree n)) true f);
        leaves = F.leaves ∙ sym (first_left n buffer f) ∙ sym (unless_refused_lem r (next_tree n (first_tree n)) buffer f);
      }

-- what the first line tells
module _ {n : ℕ} {buffer after text text_after : List ℕ} {line : Line} (b : Begun n buffer after text text_after line) where
  abbrev q : ℕ
  q = first_refusal n (length buffer)

  pub begun_made : q ≡ 0 → LineMade n (first_tree n) after text text_after line
  begun_made z =
      record {
        text = rw (unless_taken q (line_text n (first_tree n)) no_size_text z) at b.text;
        stop = b.stop ∙ unless_taken q (is_last n (first_tree n)) true z;
        leaves = b.leaves ∙ unless_taken q (next_tree n (first_tree n)) buffer z;
      }

  pub begun_no_size : q ≢ 0 → Put text text_after no_size_text 0 line.length × (line.last ≡ true)
  begun_no_size z = (rw (unless_refused_lem q (line_text n (first_tree n)) no_size_text z) at b.text, b.stop ∙ unless_refused_lem q (is_last n (first_tree n)) true z)
