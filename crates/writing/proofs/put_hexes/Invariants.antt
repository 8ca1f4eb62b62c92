-- The loops of `writing::put_hexes`.
use Rattle.writing.specs.Writing.{Put}
use Rattle.writing.specs.Text.{hexes}
use Rattle.writing.proofs.put_hexes.Given as goal

abbrev pub invariant-loop-b : goal.invariant-loop-b
invariant-loop-b l = Put l.initial.out l.out (hexes l.s l.b-index) l.at l.end
