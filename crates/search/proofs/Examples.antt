-- What searches find in small trees, computed by the definitions.
use mathlib.Core.Path.{◌≡◌, refl}
use mathlib.Core.List.{[], ◌∷◌}
use Rattle.refusal.specs.Conditions.{byte_bit, bit_of}
use Rattle.search.specs.Searching.{fell_at, ended_at, not_started, walk_on, walk_back, forward_found, backward_found}

-- banana's tree, CD 04: it is closed at its end; position 1, which opens at bit 2, is closed behind bit 5, and is a root
-- M9, tree 02: the first bracket closes. M10, tree 0F: 4 brackets are open at the end. A search behind the last bit does not start
on : forward_found (0xCD ∷ 0x04 ∷ []) 0 12 ∷ forward_found (0xCD ∷ 0x04 ∷ []) 3 12 ∷ forward_found (0x02 ∷ []) 0 4 ∷ forward_found (0x0F ∷ []) 0 4 ∷ forward_found (0x0F ∷ []) 0 9 ∷ []
    ≡ ended_at 12 0 ∷ fell_at 6 ∷ fell_at 1 ∷ ended_at 4 4 ∷ not_started 0 ∷ []
unfolding forward_found walk_on bit_of byte_bit
on = refl

-- position 2, which opens at bit 3, hangs under the one at bit 2; a root under none
back : backward_found (0xCD ∷ 0x04 ∷ []) 3 ∷ backward_found (0xCD ∷ 0x04 ∷ []) 2 ∷ backward_found (0xCD ∷ []) 9 ∷ [] ≡ fell_at 2 ∷ ended_at 0 0 ∷ not_started 9 ∷ []
unfolding backward_found walk_back bit_of byte_bit
back = refl
