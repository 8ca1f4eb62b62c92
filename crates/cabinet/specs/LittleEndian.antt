-- Document 02, T-01: "a 32-bit little-endian" number, four bytes with the lowest first.
use Rattle.std.specs.Prelude.{List, [], ◌∷◌, ℕ, zero, suc, ◌+◌, ◌*◌, ◌/◌, ◌%◌}
use Rattle.suffix.specs.Lyndon.{part}

-- the lowest k bytes of a number, and the number that bytes are
unfoldable pub bytes_of : ℕ → ℕ → List ℕ
bytes_of zero v = []
bytes_of (suc k) v = v % 256 ∷ bytes_of k (v / 256)

unfoldable pub value_of : List ℕ → ℕ
value_of [] = 0
value_of (b ∷ bytes) = b + 256 * value_of bytes

-- a number as four bytes, and the number in four bytes at a place of a file; bytes that the file lacks count as 0, and then 9 or 11 applies
abbrev pub four_bytes : ℕ → List ℕ
four_bytes v = bytes_of 4 v

unfoldable pub number_at : List ℕ → ℕ → ℕ
number_at file at = value_of (part file at 4)
