-- Bytes in hexadecimal: one more, and how long they are.
use mathlib.Core.Path.{◌≡◌, refl}
use mathlib.Core.List.{List, ◌++◌}
use Prim.Native.Nat.{ℕ, zero, suc, ◌+◌}
use native.Mathlib.Numerals.{add-one}
use native.Mathlib.Omega.{arith}
use lib.ListN.{length, get_or, length-append}
use Rattle.io.specs.Digits.{last_digits}
use Rattle.writing.specs.Text.{hexes}

pub hexes_more : (t : List ℕ) (k : ℕ) → hexes t (k + 1) ≡ hexes t k ++ last_digits 16 2 (get_or t k 0)
unfolding hexes
hexes_more t k = rw add-one

pub hexes_size : (t : List ℕ) (k : ℕ) → length (hexes t k) ≡ k + k
unfolding hexes
hexes_size t zero = refl
hexes_size t (suc k) = omega (arith, length-append (hexes t k) (last_digits 16 2 (get_or t k 0)), hexes_size t k)
