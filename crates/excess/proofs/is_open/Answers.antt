-- `excess::is_open` meets its contract.
use mathlib.Core.Path.{◌≡◌, sym, ap, ◌∙◌}
use mathlib.Core.Bool.{false}
use Prim.Native.Nat.{ℕ, ◌^◌, ◌%◌}
use native.Mathlib.Nat.{zero-div}
use native.Mathlib.Omega.{arith}
use lib.Dec.{eqb}
use Rattle.refusal.specs.Conditions.{byte_bit, bit_of}
use Rattle.excess.proofs.is_open.Goals as goal

pub returns-in-Some : goal.returns-in-Some
unfolding bit_of
returns-in-Some c = c.bit.ensures ∙ ap (λ b. byte_bit b (c.args.k % 8)) (rw c.in-Some.is at (c.get.ensures.lookup.4 (omega arith) 0))

-- a byte that is 0 has no bit
no_bit : (m : ℕ) → byte_bit 0 m ≡ false
unfolding byte_bit
no_bit m = ap (λ v. eqb (v % 2) 1) (zero-div (2 ^ m))

pub returns-in-None : goal.returns-in-None
unfolding bit_of
returns-in-None c = sym (no_bit (c.args.k % 8)) ∙ ap (λ b. byte_bit b (c.args.k % 8)) (rw c.in-None.is at (c.get.ensures.lookup.4 (omega arith) 0))
