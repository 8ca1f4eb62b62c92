-- The loops of `writing::put`.
use lib.ListN.{take}
use Rattle.writing.specs.Writing.{Put}
use Rattle.writing.proofs.put.Given as goal

abbrev pub invariant-loop-b : goal.invariant-loop-b
invariant-loop-b l = Put l.initial.out l.out (take l.b-index l.s) l.at l.end
