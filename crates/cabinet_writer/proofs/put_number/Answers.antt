-- `cabinet_writer::put_number` meets its contract.
use mathlib.Core.Path.{ap, ◌∙◌}
use Rattle.std.specs.Int.{w32, to_le_bytes}
use native.Mathlib.Omega.{arith}
use Rattle.cabinet_writer.proofs.Filling.{number_put}
use Rattle.cabinet_writer.proofs.put_number.Goals as goal

pub returns : goal.returns
returns c = number_put c.args.file.now _ c.args.at c.args.number _ c.requires (omega arith) (c.copy_from_slice.ensures.after ∙ c.to_le_bytes.ensures ∙ ap (to_le_bytes w32) (omega arith))
