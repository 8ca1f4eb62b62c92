-- The claim of specs/Claims.antt, proved.
use mathlib.Core.Path.{refl}
use mathlib.Core.List.{[], ◌∷◌}
use Rattle.tree_size.specs.Size.{size_in}
use Rattle.tree_size.specs.Claims.{FourBytesTell}

pub four_bytes_tell : FourBytesTell
unfolding size_in
four_bytes_tell [] = refl
four_bytes_tell (a ∷ []) = refl
four_bytes_tell (a ∷ b ∷ []) = refl
four_bytes_tell (a ∷ b ∷ c ∷ []) = refl
four_bytes_tell (a ∷ b ∷ c ∷ d ∷ input) = refl
