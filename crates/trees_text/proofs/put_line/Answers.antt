-- `trees_text::put_line` meets its contract.
use Rattle.writing.proofs.Writes.{put_then}
use Rattle.trees_text.specs.Text.{line_of}
use Rattle.trees_text.proofs.put_line.Goals as goal

pub returns : goal.returns
unfolding line_of
returns c = put_then c.put_hexes-a.ensures (put_then c.put_symbols-b.ensures c.put_byte.ensures)
