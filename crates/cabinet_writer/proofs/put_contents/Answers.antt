-- `cabinet_writer::put_contents` meets its contract.
use native.Mathlib.Omega.{arith}
use Rattle.cabinet_writer.proofs.Filling.{entries_more}
use Rattle.cabinet_writer.proofs.put_contents.Goals as goal

pub loop-k-preserved : goal.loop-k-preserved
loop-k-preserved c = entries_more c.args.counts.now c.args.file.now c.loop-k.invariant (omega arith) (omega (arith, c.tree_length-place.ensures)) c.put_entry.ensures
