-- `questions::openings::select` meets its contract.
use mathlib.Core.Path.{◌≡◌, sym, ◌∙◌}
use mathlib.Core.Bool.{true, false}
use mathlib.Core.List.{List}
use mathlib.Core.Logic.{◌≢◌}
use Prim.Native.Nat.{ℕ, suc, ◌+◌, ◌-◌, ◌*◌, ◌<◌}
use native.Mathlib.Omega.{arith}
use Rattle.refusal.specs.Conditions.{bit_of}
use Rattle.excess.proofs.Bits.{read_bit}
use Rattle.shape.proofs.Heights.{opens, shuts}
use Rattle.questions.proofs.openings.select.Invariants.{Passing}
use Rattle.questions.proofs.openings.select.Goals as goal
use Rattle.questions.proofs.openings.select.Goals.{then-bit+else-left-eq0, else-bit}

module _ {t : List ℕ} {i j left m : ℕ} (P : Passing t i j left m) (more : m < 8) where
  z : 8 * j + (m + 1) ≡ suc (8 * j + m)
  z = omega arith

  pass_open : bit_of t (8 * j + m) ≡ true → left ≢ 0 → Passing t i j (left - 1) (m + 1)
  pass_open e w = record { within = omega arith; count = rw z (omega (arith, opens (bit_of t) (8 * j + m) e, P.count)) }

  pass_close : bit_of t (8 * j + m) ≡ false → Passing t i j left (m + 1)
  pass_close e = record { within = omega arith; count = rw z (omega (arith, shuts (bit_of t) (8 * j + m) e, P.count)) }

pub returns-then-left-eq0 : goal.returns-then-left-eq0
returns-then-left-eq0 c =
    let here = read_bit c.args.tree.now c.select_byte-place.result.byte c.loop-m-test.true c.bit.ensures in
    (omega (arith, c.select_byte-place.ensures.0), sym here ∙ c.if-bit.true, omega (arith, c.loop-m.invariant.count))

pub loop-m-preserved : goal.loop-m-preserved
loop-m-preserved c =
    let here = read_bit c.args.tree.now c.select_byte-place.result.byte c.loop-m-test.true c.bit.ensures in
    elim c.if-bit.branch [
      | then-bit+else-left-eq0 w ↦ rw w.left-is (pass_open c.loop-m.invariant c.loop-m-test.true (sym here ∙ w.if-bit.true) w.if-left-eq0.false)
      | else-bit w ↦ rw w.left-is (pass_close c.loop-m.invariant c.loop-m-test.true (sym here ∙ w.if-bit.false))
    ]
