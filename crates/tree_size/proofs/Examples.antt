-- Inputs, computed by the definitions.
use mathlib.Core.Path.{◌≡◌, refl}
use mathlib.Core.List.{[], ◌∷◌}
use Rattle.tree_size.specs.Size.{size_in}

-- `1`, `2` and a newline, `12`, `12` and a newline, `02`
sizes :
    size_in (49 ∷ []) ∷ size_in (50 ∷ 10 ∷ []) ∷ size_in (49 ∷ 50 ∷ []) ∷ size_in (49 ∷ 50 ∷ 10 ∷ []) ∷ size_in (48 ∷ 50 ∷ []) ∷ []
    ≡ 1 ∷ 2 ∷ 12 ∷ 12 ∷ 2 ∷ []
unfolding size_in
sizes = refl

-- other input: none, a newline alone, `2` and two newlines, `2` and a carriage return, `002`, `12`, a newline and `X`
others :
    size_in [] ∷ size_in (10 ∷ []) ∷ size_in (50 ∷ 10 ∷ 10 ∷ []) ∷ size_in (50 ∷ 13 ∷ []) ∷ size_in (48 ∷ 48 ∷ 50 ∷ []) ∷ size_in (49 ∷ 50 ∷ 10 ∷ 88 ∷ []) ∷ []
    ≡ 0 ∷ 0 ∷ 0 ∷ 0 ∷ 0 ∷ 0 ∷ []
unfolding size_in
others = refl
