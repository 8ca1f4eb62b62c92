-- `search::sums::pass_on` meets its contract.
use mathlib.Core.Path.{sym, ◌∙◌}
use Prim.Native.Nat.{◌%◌}
use native.Mathlib.Omega.{arith}
use Rattle.search.proofs.Signed.{end_small}
use Rattle.search.proofs.On.{byte_going}
use Rattle.search.proofs.sums.pass_on.Goals as goal

pub falls_in-requires-in-loop-j : goal.falls_in-requires-in-loop-j
falls_in-requires-in-loop-j c = (omega (arith, end_small c.loop-j.sum.0 {bound = 2000000} (omega arith) (c.from-byte.result % 16) c.at_end-middle.ensures), omega arith)

pub at_end-sum-requires : goal.at_end-sum-requires
at_end-sum-requires c = (omega (arith, end_small c.loop-j.sum.0 {bound = 2000000} (omega arith) (c.from-byte.result % 16) c.at_end-middle.ensures), omega arith)

pub loop-j-preserved : goal.loop-j-preserved
loop-j-preserved c =
    byte_going c.loop-j.invariant (omega arith) c.from-byte.ensures (sym c.falls_in.ensures ∙ c.if-falls_in.false) c.at_end-middle.ensures
    (sym c.falls_in-in-loop-j.ensures ∙ c.if-falls_in-2.false) c.at_end-sum.ensures
