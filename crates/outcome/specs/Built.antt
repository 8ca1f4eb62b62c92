-- Demand 3: what a build answers, and what it leaves in the memory that is lent to it.
use Rattle.std.specs.Prelude.{◌≡◌, true, false, List, ℕ, eqb, length, Result, Ok, Err}
use Rattle.suffix.specs.Rows.{Tables, tables_after, reach}
use Rattle.suffix.specs.Tree.{tree_bytes}
use Rattle.refusal.specs.declared.Refusal.{Refusal}
use Rattle.refusal.specs.Numbers.{number_of, verdict_number, unless_refused}
use Rattle.refusal.specs.Conditions.{build_refusal, tables_refusal}
use Rattle.reuse.specs.Steps.{equal_comparisons, unequal_comparisons}
use Rattle.reuse.specs.Claims.{Bounded}
use Rattle.outcome.specs.declared.Built.{Built}
use Rattle.outcome.specs.declared.Built.TheVariants.{Finished, Halted}

abbrev pub tables_of : List ℕ → List ℕ → List ℕ → List ℕ → Tables
tables_of previous next previous_match next_match = record { previous = previous; next = next; previous_match = previous_match; next_match = next_match }

-- the four tables and the tree that are lent to a build
pub record Lent : Type 0 where
  pub tables : Tables
  pub tree : List ℕ

abbrev pub lent : List ℕ → List ℕ → List ℕ → List ℕ → List ℕ → Lent
lent previous next previous_match next_match tree = record { tables = tables_of previous next previous_match next_match; tree = tree }

-- what R rows leave there
unfoldable pub lent_after : List ℕ → ℕ → Lent
lent_after y R = record { tables = tables_after y R; tree = tree_bytes y R }

-- "The answer is 'finished' when R = n, else 'halted', with rows done, comparisons and reach." T-02: "The build's record shall carry
-- equal and unequal comparisons as two numbers instead of their sum". "A refusal carries its number and no other figure"
pub data Figures : Type 0 where
  finished : (rows equal unequal reach : ℕ) → Figures
  halted : (rows equal unequal reach : ℕ) → Figures
  refused : (number : ℕ) → Figures

abbrev pub figures_of : Result Built Refusal → Figures
figures_of (Ok (Finished r)) = finished r.rows r.equal r.unequal r.reach
figures_of (Ok (Halted r)) = halted r.rows r.equal r.unequal r.reach
figures_of (Err k) = refused (number_of k)

-- the figures of a build of n letters or symbols that is not refused
abbrev pub figures_at : (n rows equal unequal reach : ℕ) → Figures
figures_at n rows equal unequal reach = elim (eqb rows n) [ true ↦ finished rows equal unequal reach | false ↦ halted rows equal unequal reach ]

-- the refusal of a build of R rows of y over this memory, or 0
unfoldable pub refusal_of : List ℕ → ℕ → Lent → ℕ
refusal_of y R lent =
    let t = lent.tables in
    build_refusal (length y) R (length t.previous) (length t.next) (length t.previous_match) (length t.next_match) (length lent.tree)

-- "Rows done is always R."
unfoldable pub answer : List ℕ → ℕ → Lent → Figures
answer y R lent =
    elim (eqb (refusal_of y R lent) 0) [
      | true ↦ figures_at (length y) R (equal_comparisons y R) (unequal_comparisons y R) (reach y R)
      | false ↦ refused (refusal_of y R lent)
    ]

-- the memory at exit: as it was where the build is refused
unfoldable pub lent_at_exit : List ℕ → ℕ → Lent → Lent
lent_at_exit y R lent = elim (eqb (refusal_of y R lent) 0) [ true ↦ lent_after y R | false ↦ lent ]

-- demand 3, and demand 1 for the build: of one and the same build with these figures, whatever the string, R and the lent memory
pub record BuiltExactly (y : List ℕ) (R : ℕ) (before after : Lent) (figures : Figures) : Type 0 where
  pub answers : figures ≡ answer y R before
  pub leaves : after ≡ lent_at_exit y R before
  pub bounded : refusal_of y R before ≡ 0 → Bounded y R

-- ---- the four tables alone, of the whole string: what T-03 and T-06 of document 02 work with

-- the refusal over these tables, or 0
unfoldable pub tables_refusal_of : List ℕ → Tables → ℕ
tables_refusal_of y t = tables_refusal (length y) (length t.previous) (length t.next) (length t.previous_match) (length t.next_match)

pub record TablesBuilt (y : List ℕ) (before after : Tables) (verdict : Result (Unit {0}) Refusal) : Type 0 where
  pub answers : verdict_number verdict ≡ tables_refusal_of y before
  pub leaves : after ≡ unless_refused (tables_refusal_of y before) (tables_after y (length y)) before
