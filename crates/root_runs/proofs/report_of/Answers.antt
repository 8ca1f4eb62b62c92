-- `root_runs::report_of` meets its contract.
use mathlib.Core.Path.{sym, ap}
use native.Mathlib.Omega.{arith}
use lib.Dec.{eqb}
use lib.ListN.{length-map}
use Rattle.root_runs.proofs.Bounds.{within_told, none_too_long, none_first, second_outside, both_within, none_within}
use Rattle.root_runs.proofs.report_of.Goals as goal
use Rattle.root_runs.proofs.report_of.Goals.{else-n-le1000000-via-then-n-le1000000+then-is_within+else-is_within-2, else-n-le1000000-via-then-n-le1000000+else-is_within, else-n-le1000000-via-else-n-le1000000}

pub judged_report-requires-clause-next : goal.judged_report-requires-clause-next
judged_report-requires-clause-next g c = within_told _ _ _ _ (sym c.if-is_within.ensures)

pub judged_report-requires-clause-reverse_next : goal.judged_report-requires-clause-reverse_next
judged_report-requires-clause-reverse_next g c = within_told _ _ _ _ (sym c.if-is_within-2.ensures)

pub returns-then-is_within-2-clause-run : goal.returns-then-is_within-2-clause-run
returns-then-is_within-2-clause-run g c =
    let long = sym (length-map c.args.string.now g.S.Letter.rank) in
    both_within _ _ _ _ _ _ long (omega arith) (sym c.if-is_within.ensures) (sym c.if-is_within-2.ensures) c.judged_report.ensures.run

pub returns-then-is_within-2-clause-none : goal.returns-then-is_within-2-clause-none
returns-then-is_within-2-clause-none g c =
    let long = sym (length-map c.args.string.now g.S.Letter.rank) in
    none_within _ _ _ _ _ _ long (omega arith) (sym c.if-is_within.ensures) (sym c.if-is_within-2.ensures) c.judged_report.ensures.none

pub returns-else-n-le1000000-clause-run : goal.returns-else-n-le1000000-clause-run
returns-else-n-le1000000-clause-run g c =
    let long = sym (length-map c.args.string.now g.S.Letter.rank) in
    elim c.else-n-le1000000.branch [
      | else-n-le1000000-via-then-n-le1000000+then-is_within+else-is_within-2 w ↦
          second_outside _ _ _ _ _ _ long (omega arith) (sym w.if-is_within.ensures) (sym w.if-is_within-2.ensures)
      | else-n-le1000000-via-then-n-le1000000+else-is_within w ↦ none_first _ _ _ _ _ _ long (omega arith) (sym w.if-is_within.ensures)
      | else-n-le1000000-via-else-n-le1000000 w ↦ none_too_long _ _ _ _ _ _ long (omega arith)
    ]

pub returns-else-n-le1000000-clause-none : goal.returns-else-n-le1000000-clause-none
returns-else-n-le1000000-clause-none g c = ap (λ r. eqb r.period 0) (returns-else-n-le1000000-clause-run g c)
