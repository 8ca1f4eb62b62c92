-- `search::sums::pass_back` meets its contract.
use mathlib.Core.Path.{refl, sym, ◌∙◌}
use Prim.Native.Nat.{◌/◌, ◌%◌}
use native.Mathlib.Omega.{arith}
use Rattle.search.proofs.Signed.{start_small}
use Rattle.search.proofs.Back.{byte_going}
use Rattle.search.proofs.sums.pass_back.Goals as goal

pub falls_in-requires : goal.falls_in-requires
falls_in-requires c = (omega (arith, start_small c.loop-j.sum.0 {bound = 2000000} (omega arith) (c.from-byte.result / 16) c.at_start-upper.ensures), omega arith)

pub at_start-lower-requires : goal.at_start-lower-requires
at_start-lower-requires c = (omega (arith, start_small c.loop-j.sum.0 {bound = 2000000} (omega arith) (c.from-byte.result / 16) c.at_start-upper.ensures), omega arith)

pub falls_in-requires-in-loop-j : goal.falls_in-requires-in-loop-j
falls_in-requires-in-loop-j c =
    let upper_small = start_small c.loop-j.sum.0 {bound = 2000000} (omega arith) (c.from-byte.result / 16) c.at_start-upper.ensures in
    (omega (arith, start_small c.at_start-upper.result.0 upper_small (c.from-byte.result % 16) c.at_start-lower.ensures), omega arith)

pub loop-j-preserved : goal.loop-j-preserved
loop-j-preserved c =
    byte_going c.loop-j.invariant (omega arith) refl c.from-byte.ensures c.at_start-upper.ensures (sym c.falls_in.ensures ∙ c.if-falls_in.false) c.at_start-lower.ensures
    (sym c.falls_in-in-loop-j.ensures ∙ c.if-falls_in-2.false)
