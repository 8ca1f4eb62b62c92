-- `tables_text::put_field` meets its contract.
use Rattle.tables_text.specs.Text.{field}
use Rattle.writing.proofs.Writes.{put_then}
use Rattle.tables_text.proofs.put_field.Goals as goal

pub returns : goal.returns
unfolding field
returns c = put_then c.put_decimal-mid.ensures c.put_byte.ensures
