-- `runs::report` meets its contract: each way out is a law of proofs/Refusing.antt.
use Rattle.std.proofs.Common.{sym, ◌∙◌}
use Rattle.std.proofs.lemmas.List.{length-map}
use Rattle.std.proofs.lemmas.Result.{err_from_is_err_and}
use Rattle.runs.specs.Lists.{lists_in}
use Rattle.runs.proofs.Refusing.{refused_first, lists_differ, gathering_refused, tables_end, has_room, reported}
use Rattle.runs.proofs.report.Goals as goal

pub returns-in_err-verdict-clause-reported : goal.returns-in_err-verdict-clause-reported
returns-in_err-verdict-clause-reported g c =
    let n = sym (length-map c.args.string.now g.S.Letter.rank) in
    let p = err_from_is_err_and c.from_residual.result c.from_residual.ensures.1 in
    rw (p.1, p.2) (refused_first _ _ (lists_in c.args.lists.now) n _ c.in_err-verdict.ensures)

pub returns-then-differ-clause-reported : goal.returns-then-differ-clause-reported
returns-then-differ-clause-reported g c =
    let n = sym (length-map c.args.string.now g.S.Letter.rank) in
    lists_differ _ _ (lists_in c.args.lists.now) n c.in_ok-verdict.ensures (sym c.differ.ensures ∙ c.if-differ.true)

pub returns-in_err-count-clause-reported : goal.returns-in_err-count-clause-reported
returns-in_err-count-clause-reported g c =
    let p = err_from_is_err_and c.from_residual-in_err-count.result c.from_residual-in_err-count.ensures.1 in
    rw (p.1, p.2) (gathering_refused _ _ (lists_in c.args.lists.now) c.in_err-count.ensures.gathered)

pub write-written-requires-clause-room : goal.write-written-requires-clause-room
write-written-requires-clause-room g c = has_room _ c.args.work.now c.gather.new.work c.in_ok-count.ensures.gathered

pub clear_first-requires : goal.clear_first-requires
clear_first-requires g c = (tables_end _ c.args.work.now c.gather.new.work c.in_ok-count.ensures.gathered).0

pub clear_first-requires-2 : goal.clear_first-requires-2
clear_first-requires-2 g c = (tables_end _ c.args.work.now c.gather.new.work c.in_ok-count.ensures.gathered).2

pub clear_first-requires-3 : goal.clear_first-requires-3
clear_first-requires-3 g c = (tables_end _ c.args.work.now c.gather.new.work c.in_ok-count.ensures.gathered).1

pub returns-clause-reported : goal.returns-clause-reported
returns-clause-reported g c =
    reported _ c.args.work.now c.gather.new.work c.in_ok-count.ensures.gathered (lists_in c.args.lists.now) (sym c.differ.ensures ∙ c.if-differ.false)
    c.write-written.ensures.written c.clear_first.ensures c.clear_first-3.ensures c.clear_first-2.ensures
