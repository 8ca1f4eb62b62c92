-- `cabinet_bodies::flaw_of` meets its contract.
use mathlib.Core.Path.{refl, sym, ◌∙◌}
use native.Mathlib.Omega.{arith}
use lib.ListN.{length}
use Rattle.std.proofs.lemmas.Result.{err_from_is_err_and}
use Rattle.suffix.specs.Search.{sum_below}
use Rattle.refusal.proofs.Numbers.{positive}
use Rattle.cabinet.specs.File.{count_in}
use Rattle.cabinet.proofs.Contents.{bytes_more}
use Rattle.cabinet.proofs.Bodies.{sound_none, sound_more, flaw_here}
use Rattle.cabinet_bodies.proofs.Splitting.{its_flaw, left_then}
use Rattle.cabinet_bodies.proofs.flaw_of.Goals as goal

pub loop-n-init : goal.loop-n-init
unfolding sum_below
loop-n-init c = (sound_none c.args.trees.now 0 (count_in c.args.counts.now), refl)

pub returns-in_err-verdict_on : goal.returns-in_err-verdict_on
returns-in_err-verdict_on c =
    let p = err_from_is_err_and c.from_residual.result c.from_residual.ensures.1 in
    let flaw = its_flaw c.requires c.loop-n.n-index (omega arith) c.loop-n.invariant.1 c.tree_length.ensures c.split_at.ensures.front in
    rw (p.1, p.2)
    (flaw_here c.args.trees.now 0 (count_in c.args.counts.now) c.loop-n.invariant.0 (length c.args.counts.now) (omega arith) (c.in_err-verdict_on.ensures ∙ flaw)
    (λ q. omega (arith, positive c.in_err-verdict_on.field-0.0, q)))

pub loop-n-preserved : goal.loop-n-preserved
loop-n-preserved c =
    let i = c.loop-n.n-index in
    let rest = c.loop-n.invariant.1 in
    let flaw = its_flaw c.requires i (omega arith) rest c.tree_length.ensures c.split_at.ensures.front in (
      sound_more c.args.trees.now 0 (count_in c.args.counts.now) c.loop-n.invariant.0 (bytes_more (count_in c.args.counts.now) i) (sym flaw ∙ sym c.in_ok-verdict_on.ensures),
      left_then c.requires i (omega arith) rest c.tree_length.ensures c.split_at.ensures.back,
    )
