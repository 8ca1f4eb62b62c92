-- The document's examples, computed by the definitions.
use mathlib.Core.Path.{◌≡◌, refl}
use mathlib.Core.List.{[], ◌∷◌}
use Rattle.suffix.specs.Search.{any_below, count_below}
use Rattle.refusal.specs.Numbers.{lowest_from, lowest}
use Rattle.refusal.specs.Conditions.{byte_bit, bit_of, spare_bit_set, closed_too_early, left_open, tree_refusal}
use Rattle.shape.specs.Shape.{forests_from, shape_of, previous_table, next_table}

-- the verdict, without tables, on the trees of M9 to M11, on that of banana, and on that of its first four rows, which is a tree of 4
-- positions and not of 6
verdicts :
    tree_refusal 2 (0x02 ∷ [])
    ∷ tree_refusal 2 (0x0F ∷ [])
    ∷ tree_refusal 2 (0x15 ∷ [])
    ∷ tree_refusal 6 (0xCD ∷ 0x04 ∷ [])
    ∷ tree_refusal 6 (0x4D ∷ 0x00 ∷ [])
    ∷ tree_refusal 4 (0x4D ∷ [])
    ∷ []
    ≡ 7 ∷ 8 ∷ 6 ∷ 0 ∷ 7 ∷ 0 ∷ []
unfolding any_below count_below lowest_from lowest byte_bit bit_of spare_bit_set closed_too_early left_open tree_refusal
verdicts = refl

-- the tables of these trees
banana : previous_table 6 (0xCD ∷ 0x04 ∷ []) ∷ next_table 6 (0xCD ∷ 0x04 ∷ []) ∷ [] ≡ (6 ∷ 6 ∷ 1 ∷ 6 ∷ 3 ∷ 6 ∷ []) ∷ (1 ∷ 3 ∷ 3 ∷ 5 ∷ 5 ∷ 6 ∷ []) ∷ []
unfolding byte_bit bit_of forests_from shape_of previous_table next_table
banana = refl

halted_banana : previous_table 4 (0x4D ∷ []) ∷ next_table 4 (0x4D ∷ []) ∷ [] ≡ (4 ∷ 4 ∷ 1 ∷ 4 ∷ []) ∷ (1 ∷ 3 ∷ 3 ∷ 4 ∷ []) ∷ []
unfolding byte_bit bit_of forests_from shape_of previous_table next_table
halted_banana = refl
