-- The document's examples, computed by the definitions.
use mathlib.Core.Path.{◌≡◌, refl}
use mathlib.Core.List.{[], ◌∷◌}
use Rattle.suffix.specs.Search.{any_below, count_below, sum_below, tabulate_from, tabulate}
use Rattle.suffix.specs.Tree.{byte_of}
use Rattle.refusal.specs.Numbers.{lowest_from, first_of, unless_refused}
use Rattle.refusal.specs.Conditions.{byte_bit, bit_of, spare_bit_set, closed_too_early, left_open}
use Rattle.shape.specs.Shape.{forests_from, shape_of}
use Rattle.writing.specs.Text.{places, decimal, hexes}
use Rattle.tree_string.specs.TreeString.{order, number_in, tree_string}
use Rattle.all_trees.specs.Trees.{chosen, tree_of, all_brackets, trees_of}
use Rattle.small_trees.specs.Answers.{first_refusal}
use Rattle.tree_size.specs.Size.{size_in}
use Rattle.trees_text.specs.Text.{symbols_text, line_of, line_text, lines_text, no_size_text, size_text, program_text}

-- "For 2 it prints `03 0 1` and `05 1 0`."
two : program_text (50 ∷ []) ≡ 48 ∷ 51 ∷ 32 ∷ 48 ∷ 32 ∷ 49 ∷ 10 ∷ 48 ∷ 53 ∷ 32 ∷ 49 ∷ 32 ∷ 48 ∷ 10 ∷ []
unfolding any_below count_below sum_below tabulate_from tabulate byte_of lowest_from first_of unless_refused byte_bit bit_of spare_bit_set closed_too_early left_open forests_from shape_of places decimal hexes order number_in tree_string chosen tree_of all_brackets trees_of first_refusal size_in symbols_text line_of line_text lines_text size_text program_text
two = refl

-- "Other input, or a refused size, prints the one line `no size`.": `x`, `0` and `13`
none : program_text (120 ∷ []) ∷ program_text (48 ∷ []) ∷ program_text (49 ∷ 51 ∷ []) ∷ [] ≡ no_size_text ∷ no_size_text ∷ no_size_text ∷ []
unfolding first_of unless_refused first_refusal size_in size_text program_text
none = refl
