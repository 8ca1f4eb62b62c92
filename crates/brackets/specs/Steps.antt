-- What the private functions promise each other while the tables of a tree are filled.
use Rattle.std.specs.Prelude.{◌≡◌, Bool, true, false, List, ℕ, ◌+◌, ◌<◌, length, get_or, set}
use Rattle.brackets.specs.declared.Open.{Open}

-- the innermost open position or n, how many positions are opened, and the two tables
pub record Filled : Type 0 where
  pub top : ℕ
  pub count : ℕ
  pub previous : List ℕ
  pub next : List ℕ

abbrev pub filled_of : Open → List ℕ → List ℕ → Filled
filled_of s previous next = record { top = s.top; count = s.count; previous = previous; next = next }

-- after one bracket more: an opening is the next position, under the innermost open one; a closing ends the innermost open one
abbrev pub bracket_filled : Bool → Filled → Filled
bracket_filled true s = record { top = s.count; count = s.count + 1; previous = set s.previous s.count s.top; next = s.next }
bracket_filled false s = record { top = get_or s.previous s.top 0; count = s.count; previous = s.previous; next = set s.next s.top s.count }

-- what is asked of it: an opening has a place in the table, and the count fits 32 bits; a closing ends a position of both tables
pub record Fillable (opening : Bool) (s : Filled) : Type 0 where
  pub opens : opening ≡ true → (s.count < length s.previous) × (s.count + 1 < 4294967296)
  pub closes : opening ≡ false → (s.top < length s.previous) × (s.top < length s.next)
