-- The loops of `questions::openings::select`.
use mathlib.Core.Path.{◌≡◌}
use mathlib.Core.List.{List}
use Prim.Native.Nat.{ℕ, ◌+◌, ◌*◌, ◌≤◌}
use Rattle.refusal.specs.Conditions.{openings}
use Rattle.questions.proofs.openings.select.Given as goal

-- m bits of byte j are passed, and so many openings are still to pass
pub record Passing (t : List ℕ) (i j left m : ℕ) : Type 0 where
  pub within : m ≤ 8
  pub count : openings t (8 * j + m) + left ≡ i

abbrev pub invariant-loop-m : goal.invariant-loop-m
invariant-loop-m l = Passing l.tree l.i l.place.byte l.left l.m
