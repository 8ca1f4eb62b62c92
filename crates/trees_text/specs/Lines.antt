-- What the functions promise that make one line after the other.
use Rattle.std.specs.Prelude.{◌≡◌, Bool, true, false, List, ℕ, length}
use Rattle.refusal.specs.Numbers.{unless_refused}
use Rattle.writing.specs.Writing.{Put}
use Rattle.all_trees.specs.Trees.{first_tree, next_tree, is_last}
use Rattle.small_trees.specs.Answers.{Going, next, last, refused, first_refusal}
use Rattle.trees_text.specs.Text.{line_text, no_size_text}
use Rattle.trees_text.specs.declared.Line.{Line}

-- no line comes after an answer but 'next'
abbrev pub stops : Going → Bool
stops next = false
stops last = true
stops (refused number) = true

-- the line of the tree t is put at the start of the text, and the tree's buffer holds the next tree, or t where t is the last
pub record LineMade (n : ℕ) (t after text_before text_after : List ℕ) (line : Line) : Type 0 where
  pub text : Put text_before text_after (line_text n t) 0 line.length
  pub stop : line.last ≡ is_last n t
  pub leaves : after ≡ next_tree n t

-- so does the first line, for all inputs; it is `no size`, and nothing else is written, where giving the first tree in this buffer is refused
pub record Begun (n : ℕ) (buffer after text_before text_after : List ℕ) (line : Line) : Type 0 where
  pub text : Put text_before text_after (unless_refused (first_refusal n (length buffer)) (line_text n (first_tree n)) no_size_text) 0 line.length
  pub stop : line.last ≡ unless_refused (first_refusal n (length buffer)) (is_last n (first_tree n)) true
  pub leaves : after ≡ unless_refused (first_refusal n (length buffer)) (next_tree n (first_tree n)) buffer
