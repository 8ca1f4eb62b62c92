-- The ranks of a string and their reverse, as sequences: one pattern, and the same runs.
use mathlib.Core.Path.{◌≡◌}
use mathlib.Core.Bool.{Bool, true, false}
use mathlib.Core.List.{List}
use Prim.Native.Nat.{ℕ, ◌+◌, ◌≤◌, ◌<◌}
use native.Mathlib.Omega.{arith}
use lib.ListN.{length, get_or}
use Rattle.suffix.proofs.Order.{extended, extended_in}
use Rattle.ranks.specs.Ranks.{oriented_from}
use Rattle.ranks.proofs.Ranks.{oriented_length, reversed_entry}
use Rattle.repeats.specs.Runs.{Run, IsRun}
use Rattle.repeats.specs.Roots.{AtMost}
use Rattle.repeats.proofs.Periods.{Ends}
use Rattle.repeats.proofs.Orders.{SamePattern, Reverse, pattern_sym, pattern_trans, pattern_run, reverse_pattern}
use Rattle.repeats.proofs.Meaning.{letter, run_of, of_run, letters_pattern, letters_end}

reversed_sum : (top : ℕ) (y : List ℕ) (k : ℕ) → k < length y → get_or y k 0 ≤ top → extended y k + extended (oriented_from top true y) k ≡ top + 2
reversed_sum top y k h g =
    omega (arith, reversed_entry top y k h, extended_in y k h, extended_in (oriented_from top true y) k (omega (arith, oriented_length top true y)))

module _ (top : ℕ) (y : List ℕ) where
  -- the ranks in one order, as a sequence
  abbrev pub z : Bool → List ℕ
  z o = oriented_from top o y

  abbrev pub f : Bool → ℕ → ℕ
  f o = extended (z o)

  module _ (B : AtMost top y) where
    pub reverses : Reverse (f false) (f true) (length y) (top + 2)
    reverses =
        record {
          ends = letters_end y;
          ends' = rw (oriented_length top true y) at (letters_end (oriented_from top true y));
          sum = λ k h. reversed_sum top y k h (omega (arith, B.at k h));
        }

    pub pattern : (o : Bool) → SamePattern (letter y) (f o) (length y)
    pattern false = letters_pattern y
    pattern true = pattern_trans (letters_pattern y) (reverse_pattern reverses)

    pub ends : (o : Bool) → Ends (f o) (length y)
    ends false = reverses.ends
    ends true = reverses.ends'

    -- a run is the same under both
    pub reversed_run : (r : Run) → (IsRun y r → IsRun (oriented_from top true y) r) × (IsRun (oriented_from top true y) r → IsRun y r)
    reversed_run r =
        let n = oriented_length top true y in
        let A = rw n at (letters_pattern (oriented_from top true y)) in
        (λ I. of_run (oriented_from top true y) r (rw n (pattern_run (pattern_trans (pattern true) (pattern_sym A)) (run_of y r I))), λ I. of_run y r (pattern_run (pattern_trans A (pattern_sym (pattern true))) (rw n at (run_of (oriented_from top true y) r I))))
