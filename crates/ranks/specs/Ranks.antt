-- Document 01, "What the house files, and what it doesn't": "Letters compare by their byte value, unsigned.", as document 02 amends it: T-04 by masked letters, T-07 by
-- symbols of 32 bits.
use Rattle.std.specs.Prelude.{Bool, true, false, ◌&&◌, List, map, ℕ, ◌+◌, ◌-◌, ◌≤◌, ◌<◌, leb, length, get_or}

-- the number by which a letter compares: "bytes 97 to 122 compare as 65 to 90; all other bytes keep their value."
unfoldable pub rank : ℕ → ℕ
rank letter = elim (leb 97 letter && leb letter 122) [ true ↦ 65 + (letter - 97) | false ↦ letter ]

-- The ranks of letters. Every definition is over such a list, never over bytes, so that it serves letters of one byte, masked letters and
-- 32-bit symbols alike: y is the ranks of the letters, n is length y. Read as bytes, the ranks are the same letters in capitals.
abbrev pub ranks : List ℕ → List ℕ
ranks letters = map rank letters

-- Document 02, T-07: symbols are "32-bit unsigned numbers": "Symbols compare as numbers, with no masking.", so they are their own ranks.
abbrev pub symbol_rank : ℕ → ℕ
symbol_rank symbol = symbol

-- a string of either width: it is of letters, or where `wide` is true of symbols
abbrev pub string_of : (wide : Bool) → (letters symbols : List ℕ) → List ℕ
string_of false letters symbols = ranks letters
string_of true letters symbols = symbols

-- Document 02, T-03: "under the byte order and under its reverse". In the reverse order ranks are counted down from one that none is above:
-- the greater one is the smaller, equal ones stay equal, and the end stays smaller than any letter.
abbrev pub oriented_from : (top : ℕ) → (reverse : Bool) → List ℕ → List ℕ
oriented_from top false y = y
oriented_from top true y = map (λ x. top - x) y

-- ranks are below 2 ^ 32, of 32-bit symbols too
abbrev pub greatest_rank : ℕ
greatest_rank = 4294967295

abbrev pub oriented : (reverse : Bool) → List ℕ → List ℕ
oriented reverse y = oriented_from greatest_rank reverse y

-- ranks that 32 bits hold
abbrev pub AllFit : List ℕ → Type 0
AllFit y = (i : ℕ) → i < length y → get_or y i 0 ≤ greatest_rank

-- one rank in that order
abbrev pub oriented_rank : (reverse : Bool) → ℕ → ℕ
oriented_rank false x = x
oriented_rank true x = greatest_rank - x
