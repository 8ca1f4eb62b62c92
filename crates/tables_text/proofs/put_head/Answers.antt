-- `tables_text::put_head` meets its contract: five puts, one behind the other.
use Rattle.tables_text.specs.Text.{head_text}
use Rattle.writing.proofs.Writes.{put_then}
use Rattle.tables_text.proofs.put_head.Goals as goal

pub returns : goal.returns
unfolding head_text
returns c = put_then c.put_figure-a.ensures (put_then c.put_figure-b.ensures (put_then c.put-c.ensures (put_then c.put_tree-d.ensures c.put_byte.ensures)))
