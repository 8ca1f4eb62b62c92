-- Document 02, T-08: the string of a tree, when it is refused, and what is left in the lent buffer.
use Rattle.std.specs.Prelude.{◌≡◌, true, false, List, [], ◌∷◌, ◌++◌, ℕ, suc, ◌+◌, eqb, length}
use Rattle.suffix.specs.Search.{tabulate}
use Rattle.suffix.specs.Tree.{Forest, none, tree}
use Rattle.refusal.specs.declared.Refusal.TheVariants.{TooLong, TableLength, TreeLength}
use Rattle.refusal.specs.Numbers.{first_of, number_if, unless_refused}
use Rattle.refusal.specs.Conditions.{too_long, table_length_off, tree_length_off, flaw_number}
use Rattle.shape.specs.Shape.{size, shape_of}

-- "roots from last to first, each followed by all that hangs below it before the next root, children likewise from last to first": the
-- positions of a forest, which are those from i on, in this order
unfoldable pub order : Forest → ℕ → List ℕ
order none i = []
order (tree under right) i = order right (suc i + size under) ++ i ∷ order under (suc i)

-- "Number the positions thus: .. counting from 0.": the number of a position is how many come before it
unfoldable pub number_in : List ℕ → ℕ → ℕ
number_in [] i = 0
number_in (j ∷ positions) i = elim (eqb j i) [ true ↦ 0 | false ↦ suc (number_in positions i) ]

-- "Those numbers, as 32-bit symbols, are the string.": of the bytes t as a tree of n positions
unfoldable pub tree_string : ℕ → List ℕ → List ℕ
tree_string n t = tabulate n (number_in (order (shape_of n t) 0))

-- "the order is 1, 2 (the symbol buffer), 3, 6, 7, 8", for a buffer of so many symbols
unfoldable pub string_refusal : ℕ → List ℕ → ℕ → ℕ
string_refusal n t symbols =
    first_of
    (number_if (too_long n) TooLong
    ∷ number_if (table_length_off n symbols) TableLength
    ∷ number_if (tree_length_off n (length t)) TreeLength
    ∷ flaw_number n t
    ∷ [])

-- the buffer at exit: as it was where writing is refused
unfoldable pub symbols_at_exit : ℕ → List ℕ → List ℕ → List ℕ
symbols_at_exit n t before = unless_refused (string_refusal n t (length before)) (tree_string n t) before

-- writing that answers with this number, 0 for none, for all inputs
pub record StringWritten (n : ℕ) (t before after : List ℕ) (number : ℕ) : Type 0 where
  pub answers : number ≡ string_refusal n t (length before)
  pub leaves : after ≡ symbols_at_exit n t before
