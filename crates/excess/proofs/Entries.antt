-- An entry of a table of all half bytes.
use mathlib.Core.Path.{◌≡◌, ap, ◌∙◌}
use mathlib.Core.List.{List}
use Prim.Native.Nat.{ℕ, zero, suc, ◌+◌, ◌<◌}
use native.Mathlib.Omega.{arith}
use lib.IntN.{ℤ, pos}
use lib.ListN.{get_or}
use Rattle.excess.specs.Excess.{list_from}

entry_from : (f : ℕ → ℤ) (i t k : ℕ) → k < t → get_or (list_from i t f) k (pos 0) ≡ f (i + k)
entry_from f i zero k h = absurd (omega arith)
entry_from f i (suc t) zero h = ap f (omega arith)
entry_from f i (suc t) (suc k) h = entry_from f (suc i) t k (omega arith) ∙ ap f (omega arith)

pub entry : (f : ℕ → ℤ) (t : List ℤ) (h : ℕ) → h < 16 → t ≡ list_from 0 16 f → get_or t h (pos 0) ≡ f h
entry f t h k e = ap (λ v. get_or v h (pos 0)) e ∙ entry_from f 0 16 h k ∙ ap f (omega arith)
