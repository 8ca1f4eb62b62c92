-- `tables_text::put_figure` meets its contract.
use Rattle.tables_text.specs.Text.{figure}
use Rattle.writing.proofs.Writes.{put_then}
use Rattle.tables_text.proofs.put_figure.Goals as goal

pub returns : goal.returns
unfolding figure
returns c = put_then c.put-mid.ensures c.put_field.ensures
