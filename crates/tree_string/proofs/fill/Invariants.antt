-- The loops of `tree_string::fill`: which brackets are numbered.
use Prim.Native.Nat.{◌+◌, ◌*◌, ◌/◌}
use lib.ListN.{length}
use Rattle.std.specs.Slice.Iter.{iter_rest}
use Rattle.std.specs.Iterator.Adapters.{rev_source}
use Rattle.refusal.specs.Conditions.{bit_of}
use Rattle.tree_string.specs.Steps.{numbered_of}
use Rattle.tree_string.proofs.Writing.{Writing, BytesLeft}
use Rattle.tree_string.proofs.fill.Given as goal

abbrev pub invariant-loop-k : goal.invariant-loop-k
invariant-loop-k l = Writing (bit_of l.tree) l.n (8 * (l.n / 4) + l.k) (numbered_of l.s l.symbols)

abbrev pub invariant-loop-m : goal.invariant-loop-m
invariant-loop-m l = Writing (bit_of l.tree) l.n (8 * length (iter_rest (rev_source l.byte-iterator)) + l.m) (numbered_of l.s l.symbols)

abbrev pub invariant-loop-byte : goal.invariant-loop-byte
invariant-loop-byte l = BytesLeft l.n l.tree (iter_rest (rev_source l.byte-iterator)) (numbered_of l.s l.symbols)
