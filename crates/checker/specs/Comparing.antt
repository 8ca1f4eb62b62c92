-- What the contracts of the private functions are written with.
use Rattle.std.specs.Prelude.{Bool, not, List, ℕ, ◌-◌, eqb, get_or}
use Rattle.suffix.specs.Search.{least_from}

abbrev pub differs : (claimed table : List ℕ) → ℕ → Bool
differs claimed table i = not (eqb (get_or claimed i 0) (get_or table i 0))

-- the least place from `from` on, and before `stop`, where a claimed table differs from another table, or `stop`
unfoldable pub first_difference : (claimed table : List ℕ) (from stop : ℕ) → ℕ
first_difference claimed table from stop = least_from from (stop - from) (differs claimed table) stop
