-- `brackets::fill_tables` meets its contract.
use Prim.Native.Nat.{◌/◌, ◌<◌}
use native.Mathlib.Omega.{arith}
use Rattle.std.proofs.lemmas.List.{length-take-le}
use Rattle.brackets.proofs.Filling.{filling_start, filling_at, filling_end, next_fillable, next_read, whole_bit}
use Rattle.brackets.proofs.fill_tables.Goals as goal

pub loop-byte-init : goal.loop-byte-init
loop-byte-init c = filling_start c.args.n c.args.tree.now c.requires.2 c.requires.3

pub loop-m-init : goal.loop-m-init
loop-m-init c = filling_at c.loop-byte.invariant (omega arith)

pub fill_bracket-s-requires : goal.fill_bracket-s-requires
fill_bracket-s-requires c =
    let j : c.loop-byte.byte-index < c.args.n / 4 = omega (arith, c.loop-byte-test.true, length-take-le (c.args.n / 4) c.args.tree.now) in
    next_fillable c.requires.0 c.requires.4 c.loop-m.invariant (omega arith) (whole_bit c.args.tree.now j c.loop-m-test.true c.bit.ensures)

pub loop-m-preserved : goal.loop-m-preserved
loop-m-preserved c =
    let j : c.loop-byte.byte-index < c.args.n / 4 = omega (arith, c.loop-byte-test.true, length-take-le (c.args.n / 4) c.args.tree.now) in
    filling_at
    (next_read c.requires.0 c.requires.4 c.loop-m.invariant (omega arith) (whole_bit c.args.tree.now j c.loop-m-test.true c.bit.ensures) c.fill_bracket-s.ensures)
    (omega arith)

pub loop-byte-preserved : goal.loop-byte-preserved
loop-byte-preserved c = filling_at c.loop-m.invariant (omega arith)

pub loop-k-init : goal.loop-k-init
loop-k-init c = filling_at c.loop-byte.invariant (omega (arith, length-take-le (c.args.n / 4) c.args.tree.now))

pub fill_bracket-s-requires-in-loop-k : goal.fill_bracket-s-requires-in-loop-k
fill_bracket-s-requires-in-loop-k c = next_fillable c.requires.0 c.requires.4 c.loop-k.invariant (omega arith) c.is_open.ensures

pub loop-k-preserved : goal.loop-k-preserved
loop-k-preserved c = next_read c.requires.0 c.requires.4 c.loop-k.invariant (omega arith) c.is_open.ensures c.fill_bracket-s-in-loop-k.ensures

pub returns : goal.returns
returns c = filling_end c.requires.4 c.loop-k.invariant (omega arith)
