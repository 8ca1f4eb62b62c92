-- Document 01, "The tree": "A constant table for all 256 byte values holds the signed sum of that byte's brackets (+1 open, −1 close,
-- lowest bit first) and the lowest running sum, the empty start included."
use Rattle.std.specs.Prelude.{true, false, List, [], ◌∷◌, ℕ, zero, suc, ℤ, pos, negsuc, ◌+ℤ◌}
use Rattle.std.specs.Int.Signed.{lt_z}
use Rattle.refusal.specs.Conditions.{byte_bit}

-- the sum of the first m brackets of a byte
abbrev pub excess : ℕ → ℕ → ℤ
excess b zero = pos 0
excess b (suc m) = excess b m +ℤ elim (byte_bit b m) [ true ↦ pos 1 | false ↦ negsuc 0 ]

-- the lower of two sums
abbrev pub lower : ℤ → ℤ → ℤ
lower x y = elim (lt_z y x) [ true ↦ y | false ↦ x ]

-- the lowest of excess b 0, .., excess b m
abbrev pub lowest_to : ℕ → ℕ → ℤ
lowest_to b zero = excess b 0
lowest_to b (suc m) = lower (lowest_to b m) (excess b (suc m))

unfoldable pub byte_excess : ℕ → ℤ
byte_excess b = excess b 8

unfoldable pub byte_min_excess : ℕ → ℤ
byte_min_excess b = lowest_to b 8

-- Document 02, T-05: "Use a table of 16 entries for half bytes and combine two." The same two numbers of a half byte, which has four brackets
unfoldable pub half_excess : ℕ → ℤ
half_excess h = excess h 4

unfoldable pub half_min_excess : ℕ → ℤ
half_min_excess h = lowest_to h 4

-- f i, f (i + 1), .., t of them
abbrev pub list_from : ℕ → ℕ → (ℕ → ℤ) → List ℤ
list_from i zero f = []
list_from i (suc t) f = f i ∷ list_from (suc i) t f

-- the two tables
abbrev pub excesses : List ℤ
excesses = list_from 0 16 half_excess

abbrev pub min_excesses : List ℤ
min_excesses = list_from 0 16 half_min_excess
