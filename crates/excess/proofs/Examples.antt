-- The document's example, computed by the definitions.
use mathlib.Core.Path.{◌≡◌, refl}
use mathlib.Core.List.{[], ◌∷◌}
use lib.IntN.{pos, negsuc}
use Rattle.refusal.specs.Conditions.{byte_bit}
use Rattle.excess.specs.Excess.{byte_excess, byte_min_excess}

-- "For hexadecimal CD they are 2 and 0."; the byte 02 closes first, and has one opening
excesses : byte_excess 0xCD ∷ byte_min_excess 0xCD ∷ byte_excess 0x02 ∷ byte_min_excess 0x02 ∷ [] ≡ pos 2 ∷ pos 0 ∷ negsuc 5 ∷ negsuc 5 ∷ []
unfolding byte_excess byte_min_excess byte_bit
excesses = refl
