-- Periods and rotations of banana and of words of a, b, by computation.
use mathlib.Core.Path.{◌≡◌, refl}
use mathlib.Core.Bool.{true, false}
use mathlib.Core.List.{List, [], ◌∷◌, map}
use Prim.Native.Nat.{ℕ}
use Rattle.suffix.specs.Search.{greatest_below, all_below}
use Rattle.suffix.specs.Order.{lex_less}
use Rattle.suffix.specs.Lyndon.{is_lyndon, part, longest_lyndon}
use Rattle.suffix.specs.Periods.{has_period, rotation, cycled}

abbrev banana : List ℕ
banana = 98 ∷ 97 ∷ 110 ∷ 97 ∷ 110 ∷ 97 ∷ []

-- anana has the period 2, banana has not; ana has, whatever follows it
periods : has_period banana 1 6 2 ∷ has_period banana 0 6 2 ∷ has_period banana 1 4 2 ∷ has_period (97 ∷ 98 ∷ 97 ∷ 97 ∷ []) 0 3 2 ∷ [] ≡ true ∷ false ∷ true ∷ true ∷ []
unfolding has_period all_below
periods = refl

-- nanaba, and all of them
nanaba : rotation banana 2 ≡ 110 ∷ 97 ∷ 110 ∷ 97 ∷ 98 ∷ 97 ∷ []
unfolding rotation
nanaba = refl

around_once : map (rotation (97 ∷ 98 ∷ 99 ∷ [])) (0 ∷ 1 ∷ 2 ∷ 3 ∷ []) ≡ (97 ∷ 98 ∷ 99 ∷ []) ∷ (98 ∷ 99 ∷ 97 ∷ []) ∷ (99 ∷ 97 ∷ 98 ∷ []) ∷ (97 ∷ 98 ∷ 99 ∷ []) ∷ []
unfolding rotation
around_once = refl

without_end : map (cycled banana) (0 ∷ 5 ∷ 6 ∷ 7 ∷ 20 ∷ []) ≡ 98 ∷ 97 ∷ 98 ∷ 97 ∷ 110 ∷ []
without_end = refl

-- the smallest rotation of banana is abanan, from 5, a Lyndon word
abanan : is_lyndon (rotation banana 5) ∷ lex_less (rotation banana 5) (rotation banana 1) ∷ lex_less (rotation banana 3) (rotation banana 5) ∷ [] ≡ true ∷ true ∷ false ∷ []
unfolding is_lyndon all_below lex_less rotation
abanan = refl

-- that of baba is abab, from 1, and begins with ab, which it repeats
abab : longest_lyndon (rotation (98 ∷ 97 ∷ 98 ∷ 97 ∷ []) 1) 0 ≡ 2
unfolding longest_lyndon part greatest_below is_lyndon all_below lex_less rotation
abab = refl
