-- Document 02, T-09: "A program reads a size from standard input, one or two decimal digits and then at most one byte 10".
use Rattle.std.specs.Prelude.{Bool, cond, ◌&&◌, List, [], ◌∷◌, ℕ, ◌+◌, ◌-◌, ◌*◌, eqb, leb}

abbrev pub is_digit : ℕ → Bool
is_digit b = leb 48 b && leb b 57

-- the number of a digit, and of two; of other bytes 0, which no tree has for its size
abbrev pub one_digit : ℕ → ℕ
one_digit a = cond (is_digit a) (a - 48) 0

abbrev pub two_digits : ℕ → ℕ → ℕ
two_digits a b = cond (is_digit a && is_digit b) (10 * one_digit a + one_digit b) 0

-- the size that the input is, 0 for "Other input"
unfoldable pub size_in : List ℕ → ℕ
size_in [] = 0
size_in (a ∷ []) = one_digit a
size_in (a ∷ b ∷ []) = cond (eqb b 10) (one_digit a) (two_digits a b)
size_in (a ∷ b ∷ c ∷ []) = cond (eqb c 10) (two_digits a b) 0
size_in (a ∷ b ∷ c ∷ d ∷ others) = 0
