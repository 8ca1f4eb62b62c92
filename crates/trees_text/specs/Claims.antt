-- What is claimed of the program's text. Each claim is a type; the law of its name, in small letters with `_`, proves it in proofs/Laws.antt.
use Rattle.std.specs.Prelude.{◌≡◌, Bool, true, false, List, [], ◌++◌, ℕ, zero, suc, ◌≤◌, length, take}
use Rattle.suffix.specs.Tree.{tree_length}
use Rattle.all_trees.specs.Trees.{trees_of}
use Rattle.small_trees.specs.Answers.{size_outside}
use Rattle.small_trees.specs.Claims.{reached}
use Rattle.tree_size.specs.Size.{size_in}
use Rattle.trees_text.specs.Text.{line_text, no_size_text, size_text, program_text}
use Rattle.trees_text.specs.Lines.{LineMade, Begun}
use Rattle.trees_text.specs.declared.Line.{Line}

-- the lines of the first k trees that are reached in this buffer by starting from the first and going on
unfoldable pub reached_text : ℕ → List ℕ → ℕ → List ℕ
reached_text n buffer zero = []
reached_text n buffer (suc k) = reached_text n buffer k ++ line_text n (reached n buffer k)

-- the program's text is the lines of the trees that going on reaches up to the last, whatever the buffer
abbrev pub TextIsOfGoingOn : Type 0
TextIsOfGoingOn =
    (input buffer : List ℕ) → let n = size_in input in size_outside n ≡ false → length buffer ≡ tree_length n
    → program_text input ≡ reached_text n buffer (length (trees_of n))

-- and the one line for a size outside 1 to 12
abbrev pub OtherSizesAreNone : Type 0
OtherSizesAreNone = (input : List ℕ) → size_outside (size_in input) ≡ true → program_text input ≡ no_size_text

-- ---- of the functions that make the lines

-- what is printed after a line that left this tree and was the last or not: line after line as `make_line` makes them, each the part of its buffer
-- that it tells, up to the last; a buffer has room for any line
pub data LinesAfter (n : ℕ) : (tree : List ℕ) (last : Bool) (printed : List ℕ) → Type 0 where
  none : (tree : List ℕ) → LinesAfter n tree true []
  line :
      (tree after before text others : List ℕ) (made : Line) → 300 ≤ length before → LineMade n tree after before text made → LinesAfter n after made.last others
      → LinesAfter n tree false (take made.length text ++ others)

-- the first line, as `begin` makes it in this buffer, and those after it
pub record Printed (n : ℕ) (buffer printed : List ℕ) : Type 0 where
  pub after : List ℕ
  pub before : List ℕ
  pub text : List ℕ
  pub others : List ℕ
  pub made : Line
  pub room : 300 ≤ length before
  pub begun : Begun n buffer after before text made
  pub rest : LinesAfter n after made.last others
  pub is : printed ≡ take made.length text ++ others

-- together they are the text for the size
abbrev pub LinesMadeAreTheText : Type 0
LinesMadeAreTheText = (n : ℕ) (buffer printed : List ℕ) → length buffer ≡ tree_length n → Printed n buffer printed → printed ≡ size_text n
