-- `excess::bit` meets its contract.
use mathlib.Core.Path.{◌≡◌}
use Prim.Native.Nat.{ℕ, ◌^◌, ◌/◌, ◌%◌}
use native.Mathlib.Omega.{arith}
use lib.Dec.{eqb}
use Rattle.refusal.specs.Conditions.{byte_bit}
use Rattle.excess.proofs.bit.Goals as goal

-- bit v of a byte, where v is m mod 8
bit_at : (byte m : ℕ) {v one : ℕ} → v ≡ m % 8 → one ≡ 1 → eqb (byte / 2 ^ v % 2) one ≡ byte_bit byte (m % 8)
unfolding byte_bit
bit_at byte m p q = rw (p, q)

pub returns : goal.returns
returns c = bit_at c.args.byte c.args.m (omega arith) (omega arith)
