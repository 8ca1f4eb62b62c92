-- `cabinet_writer::fill` meets its contract.
use Prim.Native.Nat.{ℕ, ◌+◌, ◌-◌, ◌*◌}
use native.Mathlib.Omega.{arith}
use mathlib.Core.Path.{refl, ap}
use mathlib.Core.List.{List, ◌++◌}
use lib.ListN.{length, drop}
use Rattle.writing.proofs.Writes.{wrote_then}
use Rattle.cabinet.specs.File.{marked_file}
use Rattle.cabinet_writer.proofs.Filling.{mark_put, copied, filled}
use Rattle.cabinet_writer.proofs.fill.Goals as goal

pub returns : goal.returns
unfolding marked_file
returns c =
    let file = c.args.file.now in
    let trees = c.args.trees.now in
    let now = c.put_contents.new.file in
    let at = 8 + 8 * length c.args.counts.now in
    let mark = mark_put file _ (ap (λ (l : List ℕ). l ++ drop 4 file) c.copy_from_slice.ensures.after) refl in
    let bodies = copied now trees c.copy_from_slice-2.new.self at (length now - at) (omega arith) (omega arith) c.copy_from_slice-2.ensures.after in
    filled (wrote_then (wrote_then (wrote_then mark c.put_number.ensures) c.put_contents.ensures) bodies) (omega (arith, c.requires.1))
