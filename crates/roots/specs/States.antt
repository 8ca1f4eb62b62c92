-- What the contracts of the private functions are written with.
use Rattle.std.specs.Prelude.{◌≡◌, Bool, List, ℕ, ◌≤◌, length}
use Rattle.suffix.specs.Search.{tabulate}
use Rattle.suffix.specs.Nearest.{next, next_match}
use Rattle.ranks.specs.Ranks.{oriented}
use Rattle.roots.specs.declared.WorkTables.{WorkTables}

-- next and next-match of the ranks y, in their order or in its reverse
pub record Tabled (y : List ℕ) (reverse : Bool) (nexts matches : List ℕ) : Type 0 where
  pub next : nexts ≡ tabulate (length y) (next (oriented reverse y))
  pub match : matches ≡ tabulate (length y) (next_match (oriented reverse y))

-- a string of n letters is not too long, and the tables for the starts and the ends have n entries
pub record HasRoom (n : ℕ) (w : WorkTables) : Type 0 where
  pub few : n ≤ 1000000
  pub previous : length w.previous.now ≡ n
  pub previous_match : length w.previous_match.now ≡ n
