-- `cabinet_writer::put_entry` meets its contract.
use mathlib.Core.Path.{◌≡◌}
use Prim.Native.Nat.{◌+◌}
use native.Mathlib.Omega.{arith}
use Rattle.writing.proofs.Writes.{wrote_then}
use Rattle.cabinet_writer.proofs.put_entry.Goals as goal

pub returns : goal.returns
returns c =
    let at = c.args.at in
    let z : at + 8 ≡ at + 4 + 4 = omega arith in
    rw z (wrote_then c.put_number.ensures c.put_number-2.ensures)
