-- `build::build` meets its contract: each way out is a law of outcome/proofs/Answers.antt.
use mathlib.Core.Path.{sym, ap, ◌∙◌}
use native.Mathlib.Omega.{arith}
use lib.ListN.{length, length-map, length-replicate}
use Rattle.std.specs.Prelude.{map}
use Rattle.std.proofs.lemmas.Result.{err_from_is_err_and}
use Rattle.suffix.specs.Tree.{tree_length, tree_bytes}
use Rattle.suffix.proofs.Bytes.{bytes_length}
use Rattle.entries.specs.Lent.{tables_in}
use Rattle.outcome.specs.Built.{Lent}
use Rattle.outcome.proofs.Answers as answers
use Rattle.build.specs.States.{progress_of, build_state}
use Rattle.build.proofs.Parts.{part_whole}
use Rattle.build.proofs.build.Goals as goal

pub returns-in_err-build_verdict-clause-built : goal.returns-in_err-build_verdict-clause-built
returns-in_err-build_verdict-clause-built g c =
    let p = err_from_is_err_and c.from_residual.result c.from_residual.ensures.1 in
    let y = map g.S.Letter.rank c.args.string.now in
    let before : Lent = record { tables = tables_in c.args.tables.now; tree = c.args.tree.now } in
    rw (p.1, p.2) (answers.refused y c.args.rows before _ (c.in_err-build_verdict.ensures ∙ answers.refusal_at y c.args.rows before (sym (length-map c.args.string.now g.S.Letter.rank))))

pub build_rows-state-requires-clause-few : goal.build_rows-state-requires-clause-few
build_rows-state-requires-clause-few g c = let a = answers.accepted _ _ (record { tables = tables_in c.args.tables.now; tree = c.args.tree.now }) (sym c.in_ok-build_verdict.ensures) in (a.few, a.rows)

pub build_rows-state-requires-clause-long : goal.build_rows-state-requires-clause-long
build_rows-state-requires-clause-long g c =
    let a = answers.accepted _ _ (record { tables = tables_in c.args.tables.now; tree = c.args.tree.now }) (sym c.in_ok-build_verdict.ensures) in
    record { previous = a.previous; next = a.next; previous_match = a.previous_match; next_match = a.next_match }

pub build_rows-state-requires-clause-clear : goal.build_rows-state-requires-clause-clear
build_rows-state-requires-clause-clear g c =
    let a = answers.accepted _ _ (record { tables = tables_in c.args.tables.now; tree = c.args.tree.now }) (sym c.in_ok-build_verdict.ensures) in
    let long = ap length c.clear_bytes.ensures ∙ length-replicate _ _ in
    (omega (arith, long, a.tree), rw long c.clear_bytes.ensures)

pub overflow_cast-n : goal.overflow_cast-n
overflow_cast-n g c = let a = answers.accepted _ _ (record { tables = tables_in c.args.tables.now; tree = c.args.tree.now }) (sym c.in_ok-build_verdict.ensures) in omega (arith, a.few)

pub returns-clause-built : goal.returns-clause-built
returns-clause-built g c =
    let before : Lent = record { tables = tables_in c.args.tables.now; tree = c.args.tree.now } in
    let y = map g.S.Letter.rank c.args.string.now in
    let same = sym (length-map c.args.string.now g.S.Letter.rank) in
    let none_refused = sym c.in_ok-build_verdict.ensures in
    let taken = sym (answers.refusal_at y c.args.rows before same) ∙ none_refused in
    let a = answers.accepted _ _ before none_refused in
    let state = c.build_rows-state.result in
    let after : Lent = record { tables = tables_in c.clear_from.new.self; tree = c.build_rows-state.new.tree } in
    let exact = ap (build_state state) c.clear_from.ensures.cleared ∙ c.build_rows-state.ensures.steps in
    let tree_long = ap length c.clear_bytes.ensures ∙ length-replicate _ _ ∙ a.tree ∙ ap tree_length same ∙ sym (bytes_length y c.args.rows) in
    let tree_is = part_whole _ (tree_bytes y c.args.rows) c.build_rows-state.ensures.bits tree_long in
    answers.built y c.args.rows before taken (progress_of state) after exact tree_is same c.build_rows-state.ensures.rows_done (rw c.report.ensures at c.answer.ensures)
