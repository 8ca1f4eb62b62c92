-- Document 01, "Rows and the half-built structure": the four tables after R rows, and the reach.
use Rattle.std.specs.Prelude.{Bool, true, false, ◌&&◌, ◌||◌, List, ℕ, zero, suc, ◌+◌, max, eqb, ltb, length}
use Rattle.suffix.specs.Search.{maximum_below, tabulate}
use Rattle.suffix.specs.Order.{lce}
use Rattle.suffix.specs.Nearest.{previous, next, previous_match, next_match}

-- "previous and previous-match are exact for i < R. .. For i ≥ R both tables hold n and both match tables 0."
unfoldable pub previous_after : List ℕ → ℕ → ℕ → ℕ
previous_after y R i = elim (ltb i R) [ true ↦ previous y i | false ↦ length y ]

unfoldable pub previous_match_after : List ℕ → ℕ → ℕ → ℕ
previous_match_after y R i = elim (ltb i R) [ true ↦ previous_match y i | false ↦ 0 ]

-- "next[i], i < R, is the exact value if that is below R, else n, with next-match 0."
unfoldable pub next_settled : List ℕ → ℕ → ℕ → Bool
next_settled y R i = ltb i R && ltb (next y i) R

unfoldable pub next_after : List ℕ → ℕ → ℕ → ℕ
next_after y R i = elim (next_settled y R i) [ true ↦ next y i | false ↦ length y ]

unfoldable pub next_match_after : List ℕ → ℕ → ℕ → ℕ
next_match_after y R i = elim (next_settled y R i) [ true ↦ next_match y i | false ↦ 0 ]

pub record Tables : Type 0 where
  pub previous : List ℕ
  pub next : List ℕ
  pub previous_match : List ℕ
  pub next_match : List ℕ

-- the four tables after R rows, n entries each
unfoldable pub tables_after : List ℕ → ℕ → Tables
tables_after y R =
    let n = length y in
    record {
      previous = tabulate n (previous_after y R);
      next = tabulate n (next_after y R);
      previous_match = tabulate n (previous_match_after y R);
      next_match = tabulate n (next_match_after y R);
    }

-- "next[l] = r or previous[r] = l, both by the definitions above and not by what a build recorded"
unfoldable pub is_pair : List ℕ → ℕ → ℕ → Bool
is_pair y l r = eqb (next y l) r || eqb (previous y r) l

-- "r + match(l, r)" of a pair
unfoldable pub pair_reach : List ℕ → ℕ → ℕ → ℕ
pair_reach y l r = elim (is_pair y l r) [ true ↦ r + lce y l r | false ↦ 0 ]

-- "For R = 0 comparisons and reach are 0. For R ≥ 1, reach is the greatest of 1 and r + match(l, r) over all pairs l < r < R"
unfoldable pub reach : List ℕ → ℕ → ℕ
reach y zero = 0
reach y (suc R) = max 1 (maximum_below (suc R) (λ r. maximum_below r (λ l. pair_reach y l r)))
