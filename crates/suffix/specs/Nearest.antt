-- Document 01, "Definitions": the nearest smaller suffixes and their matches. "'None' is written n in both tables".
use Rattle.std.specs.Prelude.{true, false, List, ℕ, suc, ◌-◌, eqb, length}
use Rattle.suffix.specs.Search.{greatest_below, least_from}
use Rattle.suffix.specs.Order.{suffix_less, lce}

-- "previous[i] is the greatest j < i whose suffix is smaller than that at i"
unfoldable pub previous : List ℕ → ℕ → ℕ
previous y i = greatest_below i (λ j. suffix_less y j i) (length y)

-- "next[i] is the least j > i with a smaller suffix"; such a j is one of i + 1 to n - 1
unfoldable pub next : List ℕ → ℕ → ℕ
next y i = least_from (suc i) (length y - suc i) (λ j. suffix_less y j i) (length y)

-- "previous-match[i] is match(previous[i], i) .. 0 where the entry is none."
unfoldable pub previous_match : List ℕ → ℕ → ℕ
previous_match y i = elim (eqb (previous y i) (length y)) [ true ↦ 0 | false ↦ lce y (previous y i) i ]

-- "next-match[i] is match(i, next[i]) .. 0 where the entry is none."
unfoldable pub next_match : List ℕ → ℕ → ℕ
next_match y i = elim (eqb (next y i) (length y)) [ true ↦ 0 | false ↦ lce y i (next y i) ]
