-- `cabinet_reader::number_at` meets its contract.
use mathlib.Core.Path.{◌∙◌}
use native.Mathlib.Omega.{arith}
use Rattle.cabinet.proofs.LittleEndian.{number_is}
use Rattle.cabinet_reader.proofs.number_at.Goals as goal

pub returns : goal.returns
returns c =
    let chunk = rw c.unwrap.ensures at c.try_into.ensures.1 in c.from_le_bytes.ensures ∙ number_is c.args.file.now c.args.at c.requires chunk.same (omega arith)
