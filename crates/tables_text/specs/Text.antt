-- Document 01, "The tables program": what the program writes, as bytes, for the letters that it reads.
use Rattle.std.specs.Prelude.{◌≡◌, cond, List, [], ◌∷◌, ◌++◌, ℕ, zero, suc, ◌-◌, ltb, eqb, length, take, drop}
use Rattle.suffix.specs.Nearest.{previous, next}
use Rattle.suffix.specs.Tree.{tree_bytes}
use Rattle.ranks.specs.Ranks.{ranks}
use Rattle.reuse.specs.Steps.{comparisons}
use Rattle.writing.specs.Text.{decimal, hexes}

-- "the tree in lower-case hexadecimal, or - when n is 0": it has no byte then, and only then
unfoldable pub tree_text : List ℕ → List ℕ
tree_text t = cond (eqb (length t) 0) (45 ∷ []) (hexes t (length t))

-- a number and the byte behind it
unfoldable pub field : ℕ → ℕ → List ℕ
field x b = decimal x ++ (b ∷ [])

-- "previous (- for none)", where none is n, and a space
unfoldable pub or_dash : ℕ → ℕ → List ℕ
or_dash n p = cond (eqb p n) (45 ∷ 32 ∷ []) (field p 32)

-- "Each further line gives position, previous (- for none), next, Lyndon length. Each line ends in byte 10."
unfoldable pub line_text : ℕ → ℕ → ℕ → ℕ → List ℕ
line_text n i p q = field i 32 ++ (or_dash n p ++ (field q 32 ++ field (q - i) 10))

-- a name and a number, with a space behind it
unfoldable pub figure : List ℕ → ℕ → List ℕ
figure name x = name ++ field x 32

-- "The first line gives n, the count and the tree": length N comparisons C tree T
unfoldable pub head_text : ℕ → ℕ → List ℕ → List ℕ
head_text n c t =
    figure (108 ∷ 101 ∷ 110 ∷ 103 ∷ 116 ∷ 104 ∷ 32 ∷ []) n
    ++ (figure (99 ∷ 111 ∷ 109 ∷ 112 ∷ 97 ∷ 114 ∷ 105 ∷ 115 ∷ 111 ∷ 110 ∷ 115 ∷ 32 ∷ []) c
    ++ ((116 ∷ 114 ∷ 101 ∷ 101 ∷ 32 ∷ []) ++ (tree_text t ++ (10 ∷ []))))

-- the lines of the first k positions
unfoldable pub lines : List ℕ → ℕ → List ℕ
lines y zero = []
lines y (suc k) = lines y k ++ line_text (length y) k (previous y k) (next y k)

-- the text of a string that is not too long
unfoldable pub tables_text : List ℕ → List ℕ
tables_text y = head_text (length y) (comparisons y (length y)) (tree_bytes y (length y)) ++ lines y (length y)

-- "Longer input prints the one line `too long`."
abbrev pub too_long_text : List ℕ
too_long_text = 116 ∷ 111 ∷ 111 ∷ 32 ∷ 108 ∷ 111 ∷ 110 ∷ 103 ∷ 10 ∷ []

-- the whole text for these letters: "at most 2,048 bytes, each a letter"
unfoldable pub program_text : List ℕ → List ℕ
program_text letters = cond (ltb 2048 (length letters)) too_long_text (tables_text (ranks letters))

-- at exit the buffer begins with the whole text for these letters, which is r bytes long; behind it it is as it was
pub record Rendered (letters before after : List ℕ) (r : ℕ) : Type 0 where
  pub size : r ≡ length (program_text letters)
  pub text : take r after ≡ program_text letters
  pub rest : drop r after ≡ drop r before
