-- The document's examples, computed by the definitions.
use mathlib.Core.Path.{◌≡◌, refl}
use mathlib.Core.Bool.{true, false}
use mathlib.Core.List.{[], ◌∷◌, map}
use Rattle.suffix.specs.Search.{any_below, count_below, sum_below, tabulate_from, tabulate}
use Rattle.suffix.specs.Tree.{byte_of}
use Rattle.refusal.specs.Numbers.{lowest_from}
use Rattle.refusal.specs.Conditions.{byte_bit, bit_of, spare_bit_set, closed_too_early, left_open}
use Rattle.all_trees.specs.Trees.{chosen, brackets_from, brackets_of, tree_of, all_brackets, before, trees_of, trees_after, first_tree, next_tree, is_last}

-- "Size 3 gives ((())), (()()), (())(), ()(()), ()()()."
three :
    map (brackets_of 3) (trees_of 3)
    ≡ (true ∷ true ∷ true ∷ false ∷ false ∷ false ∷ [])
    ∷ (true ∷ true ∷ false ∷ true ∷ false ∷ false ∷ [])
    ∷ (true ∷ true ∷ false ∷ false ∷ true ∷ false ∷ [])
    ∷ (true ∷ false ∷ true ∷ true ∷ false ∷ false ∷ [])
    ∷ (true ∷ false ∷ true ∷ false ∷ true ∷ false ∷ [])
    ∷ []
unfolding any_below count_below sum_below tabulate_from tabulate byte_of lowest_from byte_bit bit_of spare_bit_set closed_too_early left_open chosen brackets_from brackets_of tree_of all_brackets trees_of
three = refl

-- their bytes, the first of them, the one after (())(), which is ()(()), and after ()()(), which is last
bytes : trees_of 3 ≡ (0x07 ∷ []) ∷ (0x0B ∷ []) ∷ (0x13 ∷ []) ∷ (0x0D ∷ []) ∷ (0x15 ∷ []) ∷ []
unfolding any_below count_below sum_below tabulate_from tabulate byte_of lowest_from byte_bit bit_of spare_bit_set closed_too_early left_open chosen tree_of all_brackets trees_of
bytes = refl

steps : first_tree 3 ∷ next_tree 3 (0x13 ∷ []) ∷ next_tree 3 (0x15 ∷ []) ∷ [] ≡ (0x07 ∷ []) ∷ (0x0D ∷ []) ∷ (0x15 ∷ []) ∷ []
unfolding any_below count_below sum_below tabulate_from tabulate byte_of lowest_from byte_bit bit_of spare_bit_set closed_too_early left_open chosen brackets_from brackets_of tree_of all_brackets before trees_of first_tree trees_after next_tree
steps = refl

lasts : is_last 3 (0x13 ∷ []) ∷ is_last 3 (0x15 ∷ []) ∷ [] ≡ false ∷ true ∷ []
unfolding any_below count_below sum_below tabulate_from tabulate byte_of lowest_from byte_bit bit_of spare_bit_set closed_too_early left_open chosen brackets_from brackets_of tree_of all_brackets before trees_of trees_after is_last
lasts = refl
