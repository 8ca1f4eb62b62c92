-- The document's examples, computed by the definitions; and the string of the tree of banana.
use mathlib.Core.Path.{◌≡◌, refl}
use mathlib.Core.List.{[], ◌∷◌}
use Rattle.suffix.specs.Search.{tabulate_from, tabulate, any_below, count_below}
use Rattle.refusal.specs.Conditions.{byte_bit, bit_of, spare_bit_set, closed_too_early, left_open}
use Rattle.refusal.specs.Numbers.{lowest_from, first_of}
use Rattle.shape.specs.Shape.{forests_from, shape_of}
use Rattle.tree_string.specs.TreeString.{order, number_in, tree_string, string_refusal}

-- "For tree 05 with n 2 it is 1, 0. For tree 03 it is 0, 1."
examples :
    tree_string 2 (0x05 ∷ []) ∷ tree_string 2 (0x03 ∷ []) ∷ tree_string 6 (0xCD ∷ 0x04 ∷ []) ∷ tree_string 0 [] ∷ []
    ≡ (1 ∷ 0 ∷ []) ∷ (0 ∷ 1 ∷ []) ∷ (5 ∷ 3 ∷ 4 ∷ 1 ∷ 2 ∷ 0 ∷ []) ∷ [] ∷ []
unfolding tabulate_from tabulate byte_bit bit_of forests_from shape_of order number_in tree_string
examples = refl

-- "the order is 1, 2 (the symbol buffer), 3, 6, 7, 8": of trees of 2 positions, with a wrong buffer and no byte, then with one thing wrong
refusals :
    string_refusal 1000001 [] 0
    ∷ string_refusal 2 [] 3
    ∷ string_refusal 2 [] 2
    ∷ string_refusal 2 (0x15 ∷ []) 2
    ∷ string_refusal 2 (0x02 ∷ []) 2
    ∷ string_refusal 2 (0x0F ∷ []) 2
    ∷ string_refusal 2 (0x05 ∷ []) 2
    ∷ []
    ≡ 1 ∷ 2 ∷ 3 ∷ 6 ∷ 7 ∷ 8 ∷ 0 ∷ []
unfolding any_below count_below lowest_from first_of byte_bit bit_of spare_bit_set closed_too_early left_open string_refusal
refusals = refl
