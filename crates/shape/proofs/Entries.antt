-- The tables of a balanced tree, entry by entry.
use mathlib.Core.Path.{◌≡◌, sym, ◌∙◌}
use mathlib.Core.List.{List}
use Prim.Native.Nat.{ℕ, ◌*◌, ◌<◌}
use native.Mathlib.Omega.{arith}
use lib.ListN.{length, get_or}
use lib.Seq.{ext_get_or}
use Rattle.refusal.specs.Conditions.{bit_of}
use Rattle.shape.specs.Shape.{size, shape_of, previous_table, next_table}
use Rattle.shape.proofs.Heights.{Entry, entry_one}
use Rattle.shape.proofs.Shapes.{Laid, laid_end, entries, parents_length, ends_length}
use Rattle.shape.proofs.Parsing.{balanced_laid}
use Rattle.shape.proofs.Reading.{Balanced, Reading, reading_end}

module _ (n : ℕ) (t : List ℕ) (B : Balanced (bit_of t) (2 * n)) where
  pub shape_laid : Laid (bit_of t) 0 (shape_of n t) (2 * n)
  unfolding shape_of
  shape_laid = balanced_laid (bit_of t) (2 * n) B.above B.closed

  pub shape_size : size (shape_of n t) ≡ n
  shape_size = omega (arith, laid_end (bit_of t) shape_laid)

  pub previous_length_lem : length (previous_table n t) ≡ n
  unfolding previous_table
  previous_length_lem = parents_length (shape_of n t) 0 n ∙ shape_size

  pub next_length_lem : length (next_table n t) ≡ n
  unfolding next_table
  next_length_lem = ends_length (shape_of n t) 0 ∙ shape_size

  pub table_entry : (i : ℕ) → i < n → Entry (bit_of t) (2 * n) n i (get_or (previous_table n t) i 0) (get_or (next_table n t) i 0)
  unfolding previous_table next_table
  table_entry i h = entries (bit_of t) shape_laid n i (omega (arith, shape_size))

  -- tables that were read to the end
  pub read_tables : {top : ℕ} {prev next : List ℕ} → Reading (bit_of t) n (2 * n) top prev next → (prev ≡ previous_table n t) × (next ≡ next_table n t)
  read_tables {top} {prev} {next} R = (
    ext_get_or 0 prev (previous_table n t) (R.prev_long ∙ sym previous_length_lem) (λ i h. (same i (omega (arith, R.prev_long))).0),
    ext_get_or 0 next (next_table n t) (R.next_long ∙ sym next_length_lem) (λ i h. (same i (omega (arith, R.next_long))).1),
  )
    where
      same : (i : ℕ) → i < n → (get_or prev i 0 ≡ get_or (previous_table n t) i 0) × (get_or next i 0 ≡ get_or (next_table n t) i 0)
      same i h = entry_one (reading_end (bit_of t) n B R i h) (table_entry i h)
