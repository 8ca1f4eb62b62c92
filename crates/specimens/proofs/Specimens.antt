-- M1 to M12, computed.
use mathlib.Core.Path.{refl}
use Rattle.suffix.specs.Search.{any_below, all_below, count_below, greatest_below, least_from, sum_below, maximum_below, tabulate, tabulate_from}
use Rattle.suffix.specs.Order.{lex_less, lcp, suffix_less, lce}
use Rattle.suffix.specs.Nearest.{previous, next, previous_match, next_match}
use Rattle.suffix.specs.Rows.{previous_after, previous_match_after, next_settled, next_after, next_match_after, tables_after, is_pair, pair_reach, reach}
use Rattle.suffix.specs.Tree.{hanging, forest_after, parentheses, byte_of, tree_after, tree_bytes}
use Rattle.suffix.specs.Lyndon.{is_lyndon, part, longest_lyndon}
use Rattle.ranks.specs.Ranks.{rank}
use Rattle.refusal.specs.Numbers.{lowest, lowest_from}
use Rattle.refusal.specs.Conditions.{byte_bit, bit_of, spare_bit_set, closed_too_early, left_open, build_refusal, read_refusal, word_refusal}
use Rattle.reuse.specs.Steps.{scan, scan_from, reuse, settle, record_previous, record_next, climb, advance, advances, state_of, row_start, row, start, after_rows}
use Rattle.outcome.specs.Built.{lent_after, refusal_of, answer, lent_at_exit}
use Rattle.word.specs.Word.{word_part, word_start}
use Rattle.specimens.specs.Specimens.{SpecimensHold}

pub specimens_hold : SpecimensHold
unfolding rank any_below all_below count_below greatest_below least_from sum_below maximum_below tabulate tabulate_from lex_less lcp suffix_less lce previous next previous_match next_match previous_after previous_match_after next_settled next_after next_match_after tables_after is_pair pair_reach reach hanging forest_after parentheses byte_of tree_after tree_bytes is_lyndon part longest_lyndon lowest lowest_from byte_bit bit_of spare_bit_set closed_too_early left_open build_refusal read_refusal word_refusal scan scan_from reuse settle record_previous record_next climb advance advances state_of row_start row start after_rows lent_after refusal_of answer lent_at_exit word_part word_start
specimens_hold = refl
