-- The loops of `tables_text::put_lines`.
use lib.ListN.{length}
use Rattle.ranks.specs.Ranks.{ranks}
use Rattle.writing.specs.Writing.{Put}
use Rattle.tables_text.specs.Text.{lines}
use Rattle.tables_text.proofs.put_lines.Given as goal

abbrev pub invariant-loop-k : goal.invariant-loop-k
invariant-loop-k l = Put l.initial.out l.out (lines (ranks l.letters) (length l.yielded)) l.at l.end
