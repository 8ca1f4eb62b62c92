-- Document 01, "The tree" and "Who can cause which refusal": what reading a tree answers, and what it leaves in the lent tables.
use Rattle.std.specs.Prelude.{◌≡◌, true, false, List, ℕ, eqb, length}
use Rattle.refusal.specs.Conditions.{read_refusal}
use Rattle.shape.specs.Shape.{previous_table, next_table}

-- the two tables that are lent to a reader
pub record Lent : Type 0 where
  pub previous : List ℕ
  pub next : List ℕ

unfoldable pub refusal_of : ℕ → List ℕ → Lent → ℕ
refusal_of n t lent = read_refusal n t (length lent.previous) (length lent.next)

-- "A refusal .. writes nothing to a table"; else they hold the tables of the tree
unfoldable pub lent_at_exit : ℕ → List ℕ → Lent → Lent
lent_at_exit n t lent = elim (eqb (refusal_of n t lent) 0) [ true ↦ record { previous = previous_table n t; next = next_table n t } | false ↦ lent ]

-- reading that answers with this number, 0 for none, for all inputs
pub record ReadBack (n : ℕ) (t : List ℕ) (before after : Lent) (number : ℕ) : Type 0 where
  pub answers : number ≡ refusal_of n t before
  pub leaves : after ≡ lent_at_exit n t before
