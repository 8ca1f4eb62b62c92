-- Questions put to the tree of banana, computed by the definitions.
use mathlib.Core.Path.{◌≡◌, refl}
use mathlib.Core.List.{[], ◌∷◌}
use Rattle.suffix.specs.Search.{least_from, any_below, count_below}
use Rattle.refusal.specs.Numbers.{lowest_from, lowest, unless_refused}
use Rattle.refusal.specs.Conditions.{byte_bit, bit_of, spare_bit_set, closed_too_early, left_open, question_refusal}
use Rattle.shape.specs.Shape.{forests_from, shape_of, previous_table, next_table}
use Rattle.refusal.specs.Answers.{value, refused}
use Rattle.questions.specs.Answers.{place_of, previous_answer, next_answer, place_answer}

questions :
    previous_answer 6 (0xCD ∷ 0x04 ∷ []) 4
    ∷ next_answer 6 (0xCD ∷ 0x04 ∷ []) 4
    ∷ place_answer 6 (0xCD ∷ 0x04 ∷ []) 4
    ∷ place_answer 6 (0xCD ∷ 0x04 ∷ []) 6
    ∷ []
    ≡ value 3 ∷ value 5 ∷ value 7 ∷ refused 5 ∷ []
unfolding
    any_below
    count_below
    least_from
    lowest_from
    lowest
    unless_refused
    byte_bit
    bit_of
    spare_bit_set
    closed_too_early
    left_open
    question_refusal
    forests_from
    shape_of
    previous_table
    next_table
    place_of
    previous_answer
    next_answer
    place_answer
questions = refl
