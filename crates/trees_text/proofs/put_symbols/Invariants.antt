-- The loops of `trees_text::put_symbols`.
use Rattle.writing.specs.Writing.{Put}
use Rattle.trees_text.specs.Text.{symbols_text}
use Rattle.trees_text.proofs.put_symbols.Given as goal

abbrev pub invariant-loop-symbol : goal.invariant-loop-symbol
invariant-loop-symbol l = Put l.initial.out l.out (symbols_text l.symbols l.symbol-index) l.at l.end
