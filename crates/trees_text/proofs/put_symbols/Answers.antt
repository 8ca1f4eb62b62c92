-- `trees_text::put_symbols` meets its contract. The loop's invariant: the symbols so far are put, and end is behind them.
use Rattle.writing.proofs.Writes.{put_none, put_then}
use Rattle.trees_text.specs.Text.{symbols_text}
use Rattle.trees_text.proofs.Lines.{symbols_more}
use Rattle.trees_text.proofs.put_symbols.Goals as goal

pub loop-symbol-init : goal.loop-symbol-init
unfolding symbols_text
loop-symbol-init c = put_none c.args.out.now c.args.at

pub loop-symbol-preserved : goal.loop-symbol-preserved
loop-symbol-preserved c = rw (symbols_more c.args.symbols.now c.loop-symbol.symbol-index) (put_then c.loop-symbol.invariant (put_then c.put_byte-mid.ensures c.put_decimal-end.ensures))
