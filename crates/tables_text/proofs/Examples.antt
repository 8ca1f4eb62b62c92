-- The text of document 01 for the six bytes banana, by computation.
use mathlib.Core.Path.{◌≡◌, refl}
use mathlib.Core.List.{[], ◌∷◌}
use Rattle.suffix.specs.Search.{greatest_below, least_from, sum_below, tabulate, tabulate_from}
use Rattle.suffix.specs.Order.{lex_less, suffix_less}
use Rattle.suffix.specs.Nearest.{previous, next}
use Rattle.suffix.specs.Tree.{hanging, forest_after, parentheses, byte_of, tree_after, tree_bytes}
use Rattle.ranks.specs.Ranks.{rank}
use Rattle.reuse.specs.Steps.{scan, scan_from, reuse, settle, record_previous, record_next, climb, advance, advances, state_of, row_start, row, start, after_rows}
use Rattle.writing.specs.Text.{places, decimal, hexes}
use Rattle.tables_text.specs.Text.{tree_text, field, or_dash, line_text, figure, head_text, lines, tables_text, program_text}

banana :
    program_text (98 ∷ 97 ∷ 110 ∷ 97 ∷ 110 ∷ 97 ∷ [])
    ≡ 108 ∷ 101 ∷ 110 ∷ 103 ∷ 116 ∷ 104 ∷ 32 ∷ 54 ∷ 32
    ∷ 99 ∷ 111 ∷ 109 ∷ 112 ∷ 97 ∷ 114 ∷ 105 ∷ 115 ∷ 111 ∷ 110 ∷ 115 ∷ 32 ∷ 54 ∷ 32
    ∷ 116 ∷ 114 ∷ 101 ∷ 101 ∷ 32 ∷ 99 ∷ 100 ∷ 48 ∷ 52 ∷ 10
    ∷ 48 ∷ 32 ∷ 45 ∷ 32 ∷ 49 ∷ 32 ∷ 49 ∷ 10
    ∷ 49 ∷ 32 ∷ 45 ∷ 32 ∷ 51 ∷ 32 ∷ 50 ∷ 10
    ∷ 50 ∷ 32 ∷ 49 ∷ 32 ∷ 51 ∷ 32 ∷ 49 ∷ 10
    ∷ 51 ∷ 32 ∷ 45 ∷ 32 ∷ 53 ∷ 32 ∷ 50 ∷ 10
    ∷ 52 ∷ 32 ∷ 51 ∷ 32 ∷ 53 ∷ 32 ∷ 49 ∷ 10
    ∷ 53 ∷ 32 ∷ 45 ∷ 32 ∷ 54 ∷ 32 ∷ 49 ∷ 10 ∷ []
unfolding rank greatest_below least_from sum_below tabulate tabulate_from lex_less suffix_less previous next hanging forest_after parentheses byte_of tree_after tree_bytes scan scan_from reuse settle record_previous record_next climb advance advances state_of row_start row start after_rows places decimal hexes tree_text field or_dash line_text figure head_text lines tables_text program_text
banana = refl

-- the text for no letters
empty :
    program_text []
    ≡ 108 ∷ 101 ∷ 110 ∷ 103 ∷ 116 ∷ 104 ∷ 32 ∷ 48 ∷ 32
    ∷ 99 ∷ 111 ∷ 109 ∷ 112 ∷ 97 ∷ 114 ∷ 105 ∷ 115 ∷ 111 ∷ 110 ∷ 115 ∷ 32 ∷ 48 ∷ 32
    ∷ 116 ∷ 114 ∷ 101 ∷ 101 ∷ 32 ∷ 45 ∷ 10 ∷ []
unfolding tabulate tabulate_from tree_bytes start after_rows places decimal hexes tree_text field figure head_text lines tables_text program_text
empty = refl
