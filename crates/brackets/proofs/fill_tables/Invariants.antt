-- The loops of `brackets::fill_tables`: how many bits are read.
use Prim.Native.Nat.{◌+◌, ◌*◌}
use Rattle.brackets.specs.Steps.{filled_of}
use Rattle.brackets.proofs.Filling.{Filling}
use Rattle.brackets.proofs.fill_tables.Given as goal

abbrev pub invariant-loop-m : goal.invariant-loop-m
invariant-loop-m l = Filling l.n l.tree (filled_of l.s l.previous l.next) (8 * l.byte-index + l.m)

abbrev pub invariant-loop-byte : goal.invariant-loop-byte
invariant-loop-byte l = Filling l.n l.tree (filled_of l.s l.previous l.next) (8 * l.byte-index)

abbrev pub invariant-loop-k : goal.invariant-loop-k
invariant-loop-k l = Filling l.n l.tree (filled_of l.s l.previous l.next) l.k
