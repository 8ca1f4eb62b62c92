-- What is found in small tables, computed by the definitions.
use mathlib.Core.Path.{◌≡◌, refl}
use mathlib.Core.List.{List, [], ◌∷◌}
use Prim.Native.Nat.{ℕ}
use lib.ListN.{replicate}
use Rattle.suffix.specs.Search.{least_from}
use Rattle.suffix.specs.Order.{suffix_less, lex_less}
use Rattle.suffix.specs.Nearest.{next}
use Rattle.suffix.specs.Rows.{Tables}
use Rattle.ranks.specs.Ranks.{rank, ranks}
use Rattle.refusal.specs.Numbers.{first_of, unless_refused}
use Rattle.outcome.specs.Built.{tables_of}
use Rattle.checker.specs.Checked.{is_wrong, least_wrong, right, wrong_at, refused, found_at, check_refusal, finding}

-- baNana
y : List ℕ
y = ranks (98 ∷ 97 ∷ 78 ∷ 97 ∷ 110 ∷ 97 ∷ [])

work : ℕ → Tables
work n = let t : List ℕ = replicate n 9 in tables_of t t t t

-- banana's next table; n + 1 for none; every entry 0; the greatest number for none; two wrong entries; a claimed table of 5 and of 7 entries,
-- work tables of 5
found : finding y (1 ∷ 3 ∷ 3 ∷ 5 ∷ 5 ∷ 6 ∷ []) (work 6)
    ∷ finding y (1 ∷ 3 ∷ 3 ∷ 5 ∷ 5 ∷ 7 ∷ []) (work 6)
    ∷ finding y (replicate 6 0) (work 6)
    ∷ finding y (1 ∷ 3 ∷ 3 ∷ 5 ∷ 5 ∷ 4294967295 ∷ []) (work 6)
    ∷ finding y (1 ∷ 3 ∷ 4 ∷ 5 ∷ 4 ∷ 6 ∷ []) (work 6)
    ∷ finding y (1 ∷ 3 ∷ 3 ∷ 5 ∷ 5 ∷ []) (work 6)
    ∷ finding y (1 ∷ 3 ∷ 3 ∷ 5 ∷ 5 ∷ 6 ∷ 6 ∷ []) (work 6)
    ∷ finding y (1 ∷ 3 ∷ 3 ∷ 5 ∷ 5 ∷ 6 ∷ []) (work 5)
    ∷ []
    ≡ right ∷ wrong_at 5 ∷ wrong_at 0 ∷ wrong_at 5 ∷ wrong_at 2 ∷ refused 2 ∷ refused 2 ∷ refused 2 ∷ []
unfolding y work rank finding found_at least_wrong is_wrong check_refusal first_of unless_refused next least_from suffix_less lex_less
found = refl

-- an empty string with empty tables
none : finding [] [] (work 0) ≡ right
unfolding work finding found_at least_wrong check_refusal first_of unless_refused least_from
none = refl
