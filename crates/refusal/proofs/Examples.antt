-- The numbers of the refusals, and the refused specimens of document 01, by computation.
use mathlib.Core.Path.{◌≡◌, refl}
use mathlib.Core.List.{[], ◌∷◌, map}
use Rattle.suffix.specs.Search.{any_below, count_below}
use Rattle.refusal.specs.Numbers.{number_of, lowest_from, lowest}
use Rattle.refusal.specs.Conditions.{byte_bit, bit_of, spare_bit_set, closed_too_early, left_open, build_refusal, read_refusal, question_refusal, word_refusal}
use Rattle.refusal.specs.declared.Refusal.TheVariants.{TooLong, TableLength, TreeLength, TooManyRows, PositionOutside, SpareBitSet, ClosedTooEarly, LeftOpen, NotMarked, TooManyEntries, WrongContents, ListLengths, TooManyRuns, SizeOutside}

numbers : map number_of (TooLong ∷ TableLength ∷ TreeLength ∷ TooManyRows ∷ PositionOutside ∷ SpareBitSet ∷ ClosedTooEarly ∷ LeftOpen ∷ NotMarked ∷ TooManyEntries ∷ WrongContents ∷ ListLengths ∷ TooManyRuns ∷ SizeOutside ∷ []) ≡ 1 ∷ 2 ∷ 3 ∷ 4 ∷ 5 ∷ 6 ∷ 7 ∷ 8 ∷ 9 ∷ 10 ∷ 11 ∷ 12 ∷ 13 ∷ 14 ∷ []
numbers = refl

-- M9, M10, M11: the trees 02, 0F and 15 with n 2
trees : read_refusal 2 (0x02 ∷ []) 2 2 ∷ read_refusal 2 (0x0F ∷ []) 2 2 ∷ read_refusal 2 (0x15 ∷ []) 2 2 ∷ [] ≡ 7 ∷ 8 ∷ 6 ∷ []
unfolding any_below count_below lowest_from lowest byte_bit bit_of spare_bit_set closed_too_early left_open read_refusal
trees = refl

-- banana, R 7; n 1,000,000 and 1,000,001; n 5 with a tree of 1 byte; the word in banana at 1 and at 6
lengths :
    build_refusal 6 7 6 6 6 6 2
    ∷ build_refusal 1000000 0 1000000 1000000 1000000 1000000 250000
    ∷ build_refusal 1000001 0 1000001 1000001 1000001 1000001 250001
    ∷ build_refusal 5 5 5 5 5 5 1
    ∷ word_refusal 6 1
    ∷ word_refusal 6 6
    ∷ []
    ≡ 4 ∷ 0 ∷ 1 ∷ 3 ∷ 0 ∷ 5 ∷ []
unfolding lowest_from lowest build_refusal word_refusal
lengths = refl

-- a question put to a tree: a position that is too large comes before a tree that is not balanced
questions : question_refusal 2 (0x02 ∷ []) 2 ∷ question_refusal 2 (0x02 ∷ []) 1 ∷ [] ≡ 5 ∷ 7 ∷ []
unfolding any_below count_below lowest_from lowest byte_bit bit_of spare_bit_set closed_too_early left_open question_refusal
questions = refl
