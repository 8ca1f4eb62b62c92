-- Document 003, example 8, by computation: the Lyndon lengths of aabaabbabbab are 12 2 1 9 3 1 1 3 1 1 2 1.
use mathlib.Core.Path.{◌≡◌, refl}
use mathlib.Core.List.{List, [], ◌∷◌}
use Prim.Native.Nat.{ℕ, ◌-◌}
use Rattle.suffix.specs.Search.{greatest_below, least_from, all_below, tabulate, tabulate_from}
use Rattle.suffix.specs.Order.{lex_less, suffix_less}
use Rattle.suffix.specs.Nearest.{next}
use Rattle.suffix.specs.Lyndon.{is_lyndon, part, longest_lyndon}

-- in ranks
unfoldable word : List ℕ
word = 65 ∷ 65 ∷ 66 ∷ 65 ∷ 65 ∷ 66 ∷ 66 ∷ 65 ∷ 66 ∷ 66 ∷ 65 ∷ 66 ∷ []

unfoldable lengths : List ℕ
lengths = 12 ∷ 2 ∷ 1 ∷ 9 ∷ 3 ∷ 1 ∷ 1 ∷ 3 ∷ 1 ∷ 1 ∷ 2 ∷ 1 ∷ []

by_definition : tabulate 12 (longest_lyndon word) ≡ lengths
unfolding word lengths greatest_below all_below tabulate tabulate_from lex_less is_lyndon part longest_lyndon
by_definition = refl

by_next : tabulate 12 (λ i. next word i - i) ≡ lengths
unfolding word lengths least_from tabulate tabulate_from lex_less suffix_less next
by_next = refl
