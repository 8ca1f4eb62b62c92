-- `cabinet_bodies::body_bytes` meets its contract.
use Rattle.std.proofs.Common.{rules}
use mathlib.Core.Path.{◌≡◌, ◌∙◌}
use Rattle.std.specs.List.{sum_by}
use Rattle.suffix.specs.Tree.{tree_length}
use Rattle.cabinet_bodies.proofs.Counts.{bytes_summed}
use Rattle.cabinet_bodies.proofs.body_bytes.Goals as goal

pub returns : goal.returns
returns c =
    let s : c.sum.result ≡ sum_by tree_length c.args.counts.now = search rules in
    s ∙ bytes_summed c.args.counts.now
