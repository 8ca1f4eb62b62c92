-- The reuse steps, computed. (The specimens M1 to M8 stand with the others in the crate specimens.)
use mathlib.Core.Path.{◌≡◌, refl}
use mathlib.Core.Bool.{Bool, true, false, ◌&&◌}
use mathlib.Core.List.{List, [], ◌∷◌}
use Prim.Native.Nat.{ℕ, suc, ◌+◌, ◌-◌, ◌*◌}
use lib.Dec.{eqb, ltb}
use lib.ListN.{length}
use Rattle.suffix.specs.Search.{all_below, greatest_below, least_from, sum_below, maximum_below, tabulate, tabulate_from}
use Rattle.suffix.specs.Order.{lex_less, lcp, suffix_less, lce}
use Rattle.suffix.specs.Nearest.{previous, next, previous_match, next_match}
use Rattle.suffix.specs.Rows.{previous_after, previous_match_after, next_settled, next_after, next_match_after, Tables, tables_after, is_pair, pair_reach, reach}
use Rattle.suffix.specs.Tree.{hanging, forest_after, parentheses, byte_of, tree_after, tree_bytes}
use Rattle.reuse.specs.Steps.{scan, scan_from, reuse, settle, record_previous, record_next, climb, advance, advances, state_of, row_start, row, start, after_rows, equal_comparisons, unequal_comparisons, comparisons}

unfoldable same_list : List ℕ → List ℕ → Bool
same_list [] [] = true
same_list [] (b ∷ t) = false
same_list (a ∷ s) [] = false
same_list (a ∷ s) (b ∷ t) = eqb a b && same_list s t

unfoldable same_tables : Tables → Tables → Bool
same_tables s t =
    same_list s.previous t.previous && same_list s.next t.next && same_list s.previous_match t.previous_match && same_list s.next_match t.next_match

-- Words that tell a misreading of steps 2 and 4 from the steps, as M1 to M8 do not: after each number of rows the steps have the
-- tables and the reach of the definitions.
unfoldable words : List (List ℕ)
words =
    (0 ∷ 0 ∷ 1 ∷ 0 ∷ 0 ∷ [])
    ∷ (0 ∷ 0 ∷ 1 ∷ 0 ∷ 0 ∷ 0 ∷ 1 ∷ [])
    ∷ (0 ∷ 0 ∷ 1 ∷ 0 ∷ 0 ∷ 1 ∷ 0 ∷ 1 ∷ [])
    ∷ (0 ∷ 1 ∷ 1 ∷ [])
    ∷ (0 ∷ 0 ∷ 0 ∷ 1 ∷ 0 ∷ [])
    ∷ (0 ∷ 1 ∷ 0 ∷ [])
    ∷ []

unfoldable exact_for : List (List ℕ) → Bool
exact_for [] = true
exact_for (y ∷ t) =
    all_below (suc (length y)) (λ R. same_tables (after_rows y R).tables (tables_after y R) && eqb (after_rows y R).progress.reach (reach y R)) && exact_for t

words_exact : exact_for words ≡ true
unfolding exact_for words all_below same_tables same_list greatest_below least_from sum_below maximum_below tabulate tabulate_from lex_less lcp suffix_less lce previous next previous_match next_match previous_after previous_match_after next_settled next_after next_match_after tables_after is_pair pair_reach reach hanging forest_after parentheses byte_of tree_after tree_bytes scan scan_from reuse settle record_previous record_next climb advance advances state_of row_start row start after_rows
words_exact = refl

-- `aabaaab` takes 4 equal comparisons and 8 unequal ones
abbrev aabaaab : List ℕ
aabaaab = 0 ∷ 0 ∷ 1 ∷ 0 ∷ 0 ∷ 0 ∷ 1 ∷ []

counts_4_8 : (equal_comparisons aabaaab 7 ≡ 4) × (unequal_comparisons aabaaab 7 ≡ 8)
unfolding scan scan_from reuse settle record_previous record_next climb advance advances state_of row_start row start after_rows
counts_4_8 = (refl, refl)

-- Bounds that a string breaks: reach - 2 on the equal ones (`aa`, R = 2), R - 1 on the unequal ones (`acb`, R = 3), and R - 1 once on both
-- together (`aaaabaaaaa`, R = 6).
abbrev aa : List ℕ
aa = 0 ∷ 0 ∷ []

abbrev acb : List ℕ
acb = 0 ∷ 2 ∷ 1 ∷ []

abbrev aaaabaaaaa : List ℕ
aaaabaaaaa = 0 ∷ 0 ∷ 0 ∷ 0 ∷ 1 ∷ 0 ∷ 0 ∷ 0 ∷ 0 ∷ 0 ∷ []

too_low :
    (ltb (reach aa 2 - 2) (equal_comparisons aa 2) ≡ true) × (ltb (3 - 1) (unequal_comparisons acb 3) ≡ true)
    × (ltb (1 * (6 - 1) + (reach aaaabaaaaa 6 - 1)) (comparisons aaaabaaaaa 6) ≡ true)
unfolding greatest_below least_from maximum_below lex_less lcp suffix_less lce previous next is_pair pair_reach reach scan scan_from reuse settle record_previous record_next climb advance advances state_of row_start row start after_rows
too_low = (refl, refl, refl)
