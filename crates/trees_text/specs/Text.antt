-- Document 02, T-09: what the program prints, as bytes.
use Rattle.std.specs.Prelude.{List, [], ◌∷◌, ◌++◌, ℕ, zero, suc, length, get_or}
use Rattle.suffix.specs.Tree.{tree_length}
use Rattle.refusal.specs.Numbers.{unless_refused}
use Rattle.writing.specs.Text.{decimal, hexes}
use Rattle.tree_string.specs.TreeString.{tree_string}
use Rattle.all_trees.specs.Trees.{trees_of}
use Rattle.small_trees.specs.Answers.{first_refusal}
use Rattle.tree_size.specs.Size.{size_in}

-- ---- "prints a line for each: the tree in lower-case hexadecimal, then its string from T-08 in decimal, with single blanks"

-- the first k symbols in decimal, each behind a blank
unfoldable pub symbols_text : List ℕ → ℕ → List ℕ
symbols_text s zero = []
symbols_text s (suc k) = symbols_text s k ++ 32 ∷ decimal (get_or s k 0)

-- a tree and its string, and byte 10
unfoldable pub line_of : (tree symbols : List ℕ) → List ℕ
line_of t s = hexes t (length t) ++ (symbols_text s (length s) ++ (10 ∷ []))

unfoldable pub line_text : ℕ → List ℕ → List ℕ
line_text n t = line_of t (tree_string n t)

-- the lines of the first k trees of n positions
unfoldable pub lines_text : ℕ → ℕ → List ℕ
lines_text n zero = []
lines_text n (suc k) = lines_text n k ++ line_text n (get_or (trees_of n) k [])

-- ---- "Other input, or a refused size, prints the one line `no size`."

abbrev pub no_size_text : List ℕ
no_size_text = 110 ∷ 111 ∷ 32 ∷ 115 ∷ 105 ∷ 122 ∷ 101 ∷ 10 ∷ []

-- the whole text for a size: it is refused where giving the first tree of that size is
unfoldable pub size_text : ℕ → List ℕ
size_text n = unless_refused (first_refusal n (tree_length n)) (lines_text n (length (trees_of n))) no_size_text

-- for this input
unfoldable pub program_text : List ℕ → List ℕ
program_text input = size_text (size_in input)
