-- `tree_string::fill` meets its contract.
use mathlib.Core.Path.{◌≡◌, refl}
use Prim.Native.Nat.{◌/◌}
use native.Mathlib.Omega.{arith}
use lib.ListN.{take}
use Rattle.std.specs.Slice.Iter.{iter_rest}
use Rattle.std.specs.Iterator.Adapters.{rev_source}
use Rattle.std.proofs.lemmas.List.{length-take-le}
use Rattle.refusal.specs.Conditions.{bit_of}
use Rattle.shape.proofs.Laws.{Whole, whole}
use Rattle.tree_string.proofs.Writing.{writing_at, writing_start, byte_numberable, byte_written, bytes_start, byte_is_last, byte_start, byte_passed, all_numbered, none_left}
use Rattle.tree_string.proofs.fill.Goals as goal

pub loop-k-init : goal.loop-k-init
loop-k-init c =
    let W : Whole c.args.n c.args.tree.now = whole _ _ c.requires.0 in
    writing_at (writing_start (bit_of c.args.tree.now) c.args.n W.sound.even c.requires.1 refl refl refl) (omega arith)

-- all closings are numbered: in the last byte, in a whole byte, and where no bracket is left
pub returns-then-s-n : goal.returns-then-s-n
returns-then-s-n c = all_numbered _ _ c.requires.0 c.loop-k.invariant c.if-s-n.true

pub bounds-tree-n : goal.bounds-tree-n
bounds-tree-n c = omega (arith, (whole c.args.n c.args.tree.now c.requires.0).bytes)

pub number_bracket-s-requires : goal.number_bracket-s-requires
number_bracket-s-requires c = byte_numberable _ _ _ c.requires.0 c.loop-k.invariant c.loop-k-test.true (omega arith) c.if-s-n.false refl c.opening_at.ensures

pub loop-k-preserved : goal.loop-k-preserved
loop-k-preserved c = byte_written _ _ _ c.requires.0 c.loop-k.invariant c.loop-k-test.true (omega arith) c.if-s-n.false refl c.opening_at.ensures c.number_bracket-s.ensures

pub slice_bounds-iter-end : goal.slice_bounds-iter-end
slice_bounds-iter-end c = omega (arith, (whole c.args.n c.args.tree.now c.requires.0).bytes, length-take-le (c.args.n / 4) c.args.tree.now)

pub loop-byte-init : goal.loop-byte-init
loop-byte-init c =
    let e : iter_rest (rev_source c.into_iter-byte-iterator.result) ≡ take (c.args.n / 4) c.args.tree.now = cc in
    bytes_start c.requires.0 e (writing_at c.loop-k.invariant (omega arith))

pub loop-m-init : goal.loop-m-init
loop-m-init c = byte_start _ _ c.loop-byte.invariant c.in-Some.ensures.steps

pub loop-byte-preserved : goal.loop-byte-preserved
loop-byte-preserved c = byte_passed _ _ c.loop-byte.invariant c.in-Some.ensures.steps c.loop-m.invariant c.loop-m-test.false

pub returns-then-s-n-2 : goal.returns-then-s-n-2
returns-then-s-n-2 c = all_numbered _ _ c.requires.0 c.loop-m.invariant c.if-s-n-2.true

pub number_bracket-s-requires-in-loop-m : goal.number_bracket-s-requires-in-loop-m
number_bracket-s-requires-in-loop-m c =
    byte_numberable _ _ _ c.requires.0 c.loop-m.invariant c.loop-m-test.true (omega arith) c.if-s-n-2.false
    (byte_is_last _ _ c.loop-byte.invariant c.in-Some.ensures.steps) c.opening_at-in-loop-m.ensures

pub loop-m-preserved : goal.loop-m-preserved
loop-m-preserved c =
    byte_written _ _ _ c.requires.0 c.loop-m.invariant c.loop-m-test.true (omega arith) c.if-s-n-2.false
    (byte_is_last _ _ c.loop-byte.invariant c.in-Some.ensures.steps) c.opening_at-in-loop-m.ensures c.number_bracket-s-in-loop-m.ensures

pub returns : goal.returns
returns c = all_numbered _ _ c.requires.0 c.loop-byte.invariant.writing (none_left c.loop-byte.invariant.writing (omega (arith, c.in-None.ensures.steps)))
