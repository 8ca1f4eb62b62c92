-- Numbers as text: one in decimal, bytes in hexadecimal.
use Rattle.std.specs.Prelude.{cond, List, [], ◌++◌, ℕ, zero, suc, ◌/◌, ltb, get_or}
use Rattle.io.specs.Digits.{last_digits}

-- the number of decimal digits of n, up to f + 1
unfoldable pub places : ℕ → ℕ → ℕ
places zero n = 1
places (suc f) n = cond (ltb n 10) 1 (suc (places f (n / 10)))

-- n in decimal; no number of 64 bits has more than 20 digits
unfoldable pub decimal : ℕ → List ℕ
decimal n = last_digits 10 (places 19 n) n

-- the first k bytes of t in hexadecimal, two digits each
unfoldable pub hexes : List ℕ → ℕ → List ℕ
hexes t zero = []
hexes t (suc k) = hexes t k ++ last_digits 16 2 (get_or t k 0)
