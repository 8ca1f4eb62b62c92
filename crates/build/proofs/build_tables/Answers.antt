-- `build::build_tables` meets its contract: each way out is a law of outcome/proofs/Alone.antt.
use mathlib.Core.Path.{sym, ap, ◌∙◌}
use native.Mathlib.Omega.{arith}
use Rattle.std.specs.Prelude.{map}
use Rattle.ranks.specs.Ranks.{oriented}
use Rattle.refusal.specs.Numbers.{number_of}
use Rattle.entries.specs.Lent.{tables_in}
use Rattle.build.specs.States.{progress_of, build_state}
use Rattle.build.proofs.Strings.{string_length}
use Rattle.build.proofs.Clearing.{none_left}
use Rattle.std.proofs.lemmas.Result.{err_from_is_err_and}
use Rattle.refusal.proofs.Tables as verdict
use Rattle.outcome.proofs.Alone as alone
use Rattle.build.proofs.build_tables.Goals as goal

pub returns-in_err-tables_verdict-clause-built : goal.returns-in_err-tables_verdict-clause-built
returns-in_err-tables_verdict-clause-built g c =
    let p = err_from_is_err_and c.from_residual.result c.from_residual.ensures.1 in
    let y = oriented c.args.reverse (map g.S.Letter.rank c.args.string.now) in
    let same = sym (string_length g.S.Letter.rank c.args.reverse c.args.string.now) in
    rw p.1 (alone.refused y (tables_in c.args.tables.now) _ (ap number_of p.2 ∙ c.in_err-tables_verdict.ensures ∙ alone.refusal_at y (tables_in c.args.tables.now) same))

pub build_rows-requires-clause-few : goal.build_rows-requires-clause-few
build_rows-requires-clause-few g c = let a = verdict.taken _ _ _ _ _ (sym c.in_ok-tables_verdict.ensures) in (a.few, omega arith)

pub build_rows-requires-clause-long : goal.build_rows-requires-clause-long
build_rows-requires-clause-long g c =
    let a = verdict.taken _ _ _ _ _ (sym c.in_ok-tables_verdict.ensures) in
    record { previous = a.previous; next = a.next; previous_match = a.previous_match; next_match = a.next_match }

pub returns-clause-built : goal.returns-clause-built
returns-clause-built g c =
    let y = oriented c.args.reverse (map g.S.Letter.rank c.args.string.now) in
    let long = string_length g.S.Letter.rank c.args.reverse c.args.string.now in
    let before = tables_in c.args.tables.now in
    let after = tables_in c.build_rows.new.tables in
    let L = c.build_rows.ensures.still_long in
    let whole = none_left _ after L.previous L.next L.previous_match L.next_match in
    alone.built y before _ long (sym (alone.refusal_at y before (sym long)) ∙ sym c.in_ok-tables_verdict.ensures) (progress_of c.build_rows.result) after
    (ap (build_state c.build_rows.result) (sym whole) ∙ c.build_rows.ensures.steps)
