-- `tables_text::put_line` meets its contract: four puts, one behind the other.
use Rattle.tables_text.specs.Text.{line_text}
use Rattle.writing.proofs.Writes.{put_then}
use Rattle.tables_text.proofs.put_line.Goals as goal

pub returns : goal.returns
unfolding line_text
returns c = put_then c.put_field-a.ensures (put_then c.put_previous-b.ensures (put_then c.put_field-c.ensures c.put_field.ensures))
