-- `writing::put_hexes` meets its contract.
use Rattle.writing.specs.Text.{hexes}
use Rattle.writing.proofs.Writes.{put_none, put_then}
use Rattle.writing.proofs.Hexes.{hexes_more}
use Rattle.writing.proofs.put_hexes.Goals as goal

pub loop-b-init : goal.loop-b-init
unfolding hexes
loop-b-init c = put_none c.args.out.now c.args.at

pub loop-b-preserved : goal.loop-b-preserved
loop-b-preserved c = rw (hexes_more c.args.s.now c.loop-b.b-index) (put_then c.loop-b.invariant c.put_hex-end.ensures)
