-- `search::sums::bits_on` meets its contract.
use mathlib.Core.Path.{refl, sym, ◌∙◌}
use native.Mathlib.Omega.{arith}
use Rattle.refusal.specs.Conditions.{bit_of}
use Rattle.search.proofs.On.{on_fell, on_going}
use Rattle.search.proofs.sums.bits_on.Goals as goal

pub returns-then-fell : goal.returns-then-fell
unfolding bit_of
returns-then-fell c = on_fell c.loop-k.invariant (omega arith) c.bit.ensures refl c.turned-sum.ensures (sym c.fell.ensures ∙ c.if-fell.true)

pub loop-k-preserved : goal.loop-k-preserved
unfolding bit_of
loop-k-preserved c = on_going c.loop-k.invariant (omega arith) c.bit.ensures refl c.turned-sum.ensures (sym c.fell.ensures ∙ c.if-fell.false)
