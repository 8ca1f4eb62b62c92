-- What a build leaves is what a reader reads, by the definitions of the operations. Each claim is a type; the law of its name, with a small letter
-- first, proves it in proofs/Laws.antt.
use Rattle.std.specs.Prelude.{◌≡◌, List, ℕ, ◌<◌, length, get_or}
use Rattle.suffix.specs.Search.{tabulate}
use Rattle.outcome.specs.Built.{Lent, refusal_of, lent_at_exit}
use Rattle.shape.specs.Claims.{first_bytes, for_none}
use Rattle.brackets.specs.Answers as brackets

-- two tables of n entries are lent to a reader
pub record Fits (n : ℕ) (tables : brackets.Lent) : Type 0 where
  pub previous : length tables.previous ≡ n
  pub next : length tables.next ≡ n

-- the tree t of n positions, read into two such tables, is not refused and leaves p and x there
pub record Reads (n : ℕ) (t : List ℕ) (tables : brackets.Lent) (p x : List ℕ) : Type 0 where
  pub taken : brackets.refusal_of n t tables ≡ 0
  pub leaves : brackets.lent_at_exit n t tables ≡ record { previous = p; next = x }

-- "The tree of a finished build, read back, gives the same previous and next tables"
abbrev pub BuiltThenRead : Type 0
BuiltThenRead =
    (y : List ℕ) (before after : Lent) (tables : brackets.Lent) → let n = length y in
    refusal_of y n before ≡ 0 → after ≡ lent_at_exit y n before → Fits n tables → Reads n after.tree tables after.tables.previous after.tables.next

-- "Where R < n this isn't a tree of n positions: read at n it is refused 7."
abbrev pub HaltedThenRefused : Type 0
HaltedThenRefused =
    (y : List ℕ) (R : ℕ) (before after : Lent) (tables : brackets.Lent) → let n = length y in
    R < n → refusal_of y R before ≡ 0 → after ≡ lent_at_exit y R before → Fits n tables → brackets.refusal_of n after.tree tables ≡ 7

-- "Its first ceil(R/4) bytes, read with R for n, give the same entries below R, with R for none."
abbrev pub HaltedThenRead : Type 0
HaltedThenRead =
    (y : List ℕ) (R : ℕ) (before after : Lent) (tables : brackets.Lent) → let n = length y in
    refusal_of y R before ≡ 0 → after ≡ lent_at_exit y R before → Fits R tables
    → Reads R (first_bytes R after.tree) tables (tabulate R (λ i. for_none n R (get_or after.tables.previous i 0)))
    (tabulate R (λ i. for_none n R (get_or after.tables.next i 0)))
