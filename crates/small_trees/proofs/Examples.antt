-- Which refusal comes first, computed by the definitions.
use mathlib.Core.Path.{◌≡◌, refl}
use mathlib.Core.List.{[], ◌∷◌}
use Rattle.suffix.specs.Search.{any_below, count_below}
use Rattle.refusal.specs.Numbers.{lowest_from, first_of}
use Rattle.refusal.specs.Conditions.{byte_bit, bit_of, spare_bit_set, closed_too_early, left_open}
use Rattle.small_trees.specs.Answers.{first_refusal, next_refusal}

-- "14 for a size outside 1 to 12, tested first, then 3": sizes 0, 13, 1 and 12, with a byte and with three
first : first_refusal 0 1 ∷ first_refusal 13 3 ∷ first_refusal 1 3 ∷ first_refusal 1 1 ∷ first_refusal 12 1 ∷ first_refusal 12 3 ∷ [] ≡ 14 ∷ 14 ∷ 3 ∷ 0 ∷ 3 ∷ 0 ∷ []
unfolding first_of first_refusal
first = refl

-- "then 3, 6, 7, 8": a tree of two positions with a spare bit that is 1, closed at once, left open, and balanced
next :
    next_refusal 13 (0x10 ∷ []) ∷ next_refusal 2 [] ∷ next_refusal 2 (0x10 ∷ []) ∷ next_refusal 2 (0x02 ∷ []) ∷ next_refusal 2 (0x0F ∷ []) ∷ next_refusal 2 (0x05 ∷ []) ∷ []
    ≡ 14 ∷ 3 ∷ 6 ∷ 7 ∷ 8 ∷ 0 ∷ []
unfolding any_below count_below lowest_from first_of byte_bit bit_of spare_bit_set closed_too_early left_open next_refusal
next = refl
