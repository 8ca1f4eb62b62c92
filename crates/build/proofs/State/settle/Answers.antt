-- `build::State::settle` meets its contract: each way out is a clause of steps 1 and 2.
use mathlib.Core.Path.{◌≡◌, refl, sym, ap, ◌∙◌}
use native.Mathlib.Omega.{arith}
use Rattle.ranks.specs.Ranks.{oriented}
use Rattle.entries.specs.Lent.{tables_in}
use Rattle.reuse.specs.Steps.{scanned, scan_from}
use Rattle.reuse.proofs.Settle.{reuse_copy, reuse_scan}
use Rattle.std.specs.Prelude.{map}
use Rattle.build.specs.States.{progress_of, settled_from}
use Rattle.build.proofs.Settling.{scans, by_next, by_previous}
use Rattle.build.proofs.State.settle.Goals as goal
use Rattle.build.proofs.State.settle.Goals.{then-r-m, then-tables-a+else-r-v, else-tables-a+else-r-w, else-r-m}

pub returns-then-r-v-clause-settled : goal.returns-then-r-v-clause-settled
returns-then-r-v-clause-settled g c =
    sym (by_next _ _ _ _ _ _ _ c.if-known.false c.if-r-m.true _ _ refl c.if-tables-a.true refl ∙ reuse_copy _ _ _ _ _ _ (omega arith))

pub returns-then-r-w-clause-settled : goal.returns-then-r-w-clause-settled
returns-then-r-w-clause-settled g c =
    sym (by_previous _ _ _ _ _ _ _ c.if-known.false c.if-r-m.true _ _ refl c.if-tables-a.false refl ∙ reuse_copy _ _ _ _ _ _ (omega arith))

pub returns-clause-settled : goal.returns-clause-settled
unfolding scan_from
returns-clause-settled g c =
    let a = c.args in
    let y = oriented a.reverse (map g.S.Letter.rank a.string.now) in
    let from_is : settled_from a.known y (progress_of a.self) (tables_in a.tables.now) a.l a.r a.m ≡ scan_from y (progress_of a.self) a.l a.r c.if-r-m.from =
    elim c.if-r-m.branch [
      | then-r-m w ↦
          rw w.from-is
          (elim w.if-tables-a.branch [
            | then-tables-a+else-r-v x ↦
                by_next _ _ _ _ _ _ _ c.if-known.false w.if-r-m.true _ _ refl x.if-tables-a.true refl ∙ reuse_scan _ _ _ _ _ _ (omega arith)
            | else-tables-a+else-r-w x ↦
                by_previous _ _ _ _ _ _ _ c.if-known.false w.if-r-m.true _ _ refl x.if-tables-a.false refl ∙ reuse_scan _ _ _ _ _ _ (omega arith)
          ])
      | else-r-m w ↦ rw w.from-is (scans _ _ _ _ _ _ _ c.if-known.false w.if-r-m.false)
    ] in
    c.stop.ensures.stopped ∙ ap (scanned a.l a.r) c.scan-report.ensures.reports ∙ sym from_is
