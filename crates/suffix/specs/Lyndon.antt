-- Document 01, "Definitions": Lyndon words (document 004), and the longest from a position.
use Rattle.std.specs.Prelude.{Bool, ◌&&◌, List, ℕ, suc, ◌-◌, ltb, length, take, drop}
use Rattle.suffix.specs.Search.{greatest_below, all_below}
use Rattle.suffix.specs.Order.{lex_less}

-- "A Lyndon word is non-empty and smaller than each of its proper non-empty suffixes (document 004)."
unfoldable pub is_lyndon : List ℕ → Bool
is_lyndon w = ltb 0 (length w) && all_below (length w - 1) (λ k. lex_less w (drop (suc k) w))

-- y[i] to y[i + k - 1]
unfoldable pub part : List ℕ → ℕ → ℕ → List ℕ
part y i k = take k (drop i y)

-- the length of the longest Lyndon word from i: the greatest k ≤ n - i for which y[i] to y[i + k - 1] is one
unfoldable pub longest_lyndon : List ℕ → ℕ → ℕ
longest_lyndon y i = greatest_below (suc (length y - i)) (λ k. is_lyndon (part y i k)) 0
