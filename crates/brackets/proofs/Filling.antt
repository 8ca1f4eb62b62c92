-- The tables of a tree, filled bracket by bracket.
use mathlib.Core.Path.{◌≡◌, sym, ◌∙◌}
use mathlib.Core.Bool.{Bool, true, false}
use mathlib.Core.List.{List}
use Prim.Native.Nat.{ℕ, suc, ◌+◌, ◌*◌, ◌%◌, ◌≤◌, ◌<◌}
use native.Mathlib.Omega.{arith}
use lib.ListN.{length, take, get_or}
use Rattle.std.proofs.lemmas.List.{get_or-take}
use Rattle.refusal.specs.Conditions.{byte_bit, bit_of, flaw_number}
use Rattle.excess.proofs.Bits.{read_bit}
use Rattle.shape.specs.Shape.{previous_table, next_table}
use Rattle.shape.proofs.Heights.{opened, opened_none, opens, shuts}
use Rattle.shape.proofs.Reading.{Balanced, Reading, reading_start, opened_lt, read_open, top_lt, read_close}
use Rattle.shape.proofs.Entries.{read_tables}
use Rattle.shape.proofs.Conditions.{sound}
use Rattle.brackets.specs.Steps.{Filled, bracket_filled, Fillable}

-- k bits are read, and their openings are counted
pub record Filling (n : ℕ) (t : List ℕ) (s : Filled) (k : ℕ) : Type 0 where
  pub reading : Reading (bit_of t) n k s.top s.previous s.next
  pub count : s.count ≡ opened (bit_of t) k

pub filling_start : (n : ℕ) (t : List ℕ) {previous next : List ℕ} → length previous ≡ n → length next ≡ n → Filling n t (record { top = n; count = 0; previous = previous; next = next }) 0
filling_start n t {previous} {next} p x = record { reading = reading_start (bit_of t) n previous next p x; count = sym (opened_none (bit_of t)) }

pub filling_at : {n : ℕ} {t : List ℕ} {s : Filled} {k l : ℕ} → Filling n t s k → k ≡ l → Filling n t s l
filling_at F e = rw e at F

pub filling_end : {n : ℕ} {t : List ℕ} {s : Filled} {k : ℕ} → flaw_number n t ≡ 0 → Filling n t s k → 2 * n ≤ k → (s.previous ≡ previous_table n t) × (s.next ≡ next_table n t)
filling_end {n} {t} flawless F h = read_tables n t (sound n t flawless).even (filling_at F (omega arith)).reading

-- k bits of a tree that has no flaw are read, and b is the next
module _ {n : ℕ} {t : List ℕ} {s : Filled} {k : ℕ} {b : Bool} (small : n ≤ 1000000) (flawless : flaw_number n t ≡ 0) (F : Filling n t s k) (more : k < 2 * n) (is_next : b ≡ bit_of t k) where
  even : Balanced (bit_of t) (2 * n)
  even = (sound n t flawless).even

  pub next_fillable : Fillable b s
  next_fillable =
      record {
        opens = λ e. (let h = opened_lt (bit_of t) n even F.reading more (sym is_next ∙ e) in (omega arith, omega arith));
        closes = λ e. (let h = top_lt (bit_of t) n even F.reading more (sym is_next ∙ e) in (omega arith, omega arith));
      }

  step : (b : Bool) → b ≡ bit_of t k → Filling n t (bracket_filled b s) (suc k)
  step true e =
      rw F.count
      (record { reading = read_open (bit_of t) n even F.reading more (sym e); count = omega (arith, opens (bit_of t) k (sym e)) })
  step false e =
      rw F.count
      (record { reading = read_close (bit_of t) n even F.reading more (sym e); count = sym (shuts (bit_of t) k (sym e)) })

  pub next_read : {u : Filled} → u ≡ bracket_filled b s → Filling n t u (k + 1)
  next_read q = rw q (filling_at (step b is_next) (omega arith))

-- bit m of byte j, which is one of the first l bytes
pub whole_bit : (t : List ℕ) {j l m : ℕ} {b : Bool} → j < l → m < 8 → b ≡ byte_bit (get_or (take l t) j 0) (m % 8) → b ≡ bit_of t (8 * j + m)
whole_bit t {j} {l} h w e = read_bit t j w (rw (get_or-take l t j 0) at e)
