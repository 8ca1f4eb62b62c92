-- `questions::openings::select_byte` meets its contract.
use native.Mathlib.Omega.{arith}
use Rattle.questions.proofs.Counting.{passed_bytes, counted_byte}
use Rattle.questions.proofs.openings.select_byte.Goals as goal

pub returns-then-left-count : goal.returns-then-left-count
returns-then-left-count c =
    let in_byte = counted_byte c.args.tree.now c.loop-j.j (omega (arith, c.type_inv.tree c.loop-j.j)) in
    let v = c.loop-j.invariant in
    (c.loop-j-test.true, v.count, omega (arith, in_byte, v.count))

pub loop-j-preserved : goal.loop-j-preserved
loop-j-preserved c =
    let in_byte = counted_byte c.args.tree.now c.loop-j.j (omega (arith, c.type_inv.tree c.loop-j.j)) in
    passed_bytes 1 c.loop-j.invariant (omega (arith, c.loop-j-test.true)) (omega (arith, in_byte)) c.if-left-count.false
