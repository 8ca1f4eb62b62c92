-- `root_runs::judged_report` meets its contract.
use Rattle.std.proofs.Common.{rules}
use Rattle.root_runs.proofs.Judging.{judged, judged_none}
use Rattle.root_runs.proofs.judged_report.Goals as goal

pub returns-clause-run : goal.returns-clause-run
returns-clause-run g c = judged _ _ _ _ _ _ c.accepted.result c.or_else.result c.accepted.ensures c.or_else.ensures (λ e. search rules)

pub returns-clause-none : goal.returns-clause-none
returns-clause-none g c =
    let next = c.requires.next in
    let reverse_next = c.requires.reverse_next in
    judged_none _ _ _ _ _ _ next.after reverse_next.after c.accepted.result c.or_else.result c.accepted.ensures c.or_else.ensures (λ e. search rules)
