-- `roots::gather` meets its contract: no build refuses what the verdict does not.
use Rattle.std.proofs.Common.{rules, sym, ap, ◌∙◌}
use Rattle.std.proofs.lemmas.List.{length-map}
use Rattle.std.proofs.lemmas.Result.{err_from_is_err_and}
use Rattle.std.specs.Prelude.{true, false}
use Rattle.refusal.specs.Numbers.{number_of}
use Rattle.entries.specs.Lent.{tables_in}
use Rattle.roots.proofs.Gathering.{tabled, tabled_as, not_refused}
use Rattle.roots.proofs.Refusing.{for_build, for_reverse, has_room, refused, gathered}
use Rattle.roots.proofs.gather.Goals as goal

pub returns-in_err-verdict-clause-gathered : goal.returns-in_err-verdict-clause-gathered
returns-in_err-verdict-clause-gathered g c =
    let n = sym (length-map c.args.string.now g.S.Letter.rank) in
    let p = err_from_is_err_and c.from_residual.result c.from_residual.ensures.1 in
    rw p.1 (refused _ _ _ (ap number_of p.2 ∙ c.in_err-verdict.ensures) n)

pub returns-in_err-build_tables-clause-gathered : goal.returns-in_err-build_tables-clause-gathered
returns-in_err-build_tables-clause-gathered g c =
    let n = sym (length-map c.args.string.now g.S.Letter.rank) in
    absurd (not_refused _ false (for_build _ c.args.work.now n c.in_ok-verdict.ensures) c.in_err-build_tables.ensures.built)

pub returns-in_err-build_tables-2-clause-gathered : goal.returns-in_err-build_tables-2-clause-gathered
returns-in_err-build_tables-2-clause-gathered g c =
    let n = sym (length-map c.args.string.now g.S.Letter.rank) in
    absurd (not_refused _ true (for_reverse _ c.args.work.now n c.in_ok-verdict.ensures _ c.in_ok-build_tables.ensures.built (search rules) (search rules)) c.in_err-build_tables-2.ensures.built)

pub collect-requires-clause-room : goal.collect-requires-clause-room
collect-requires-clause-room g c =
    let n = sym (length-map c.args.string.now g.S.Letter.rank) in
    has_room _ c.args.work.now n c.in_ok-verdict.ensures (for_reverse _ c.args.work.now n c.in_ok-verdict.ensures _ c.in_ok-build_tables.ensures.built (search rules) (search rules))
    (tables_in c.build_tables-2.new.tables) c.in_ok-build_tables-2.ensures.built (search rules) (search rules)

pub collect-requires-clause-tabled : goal.collect-requires-clause-tabled
collect-requires-clause-tabled g c =
    let n = sym (length-map c.args.string.now g.S.Letter.rank) in
    tabled_as (tabled _ false (for_build _ c.args.work.now n c.in_ok-verdict.ensures) c.in_ok-build_tables.ensures.built) (search rules) (search rules)

pub collect-requires-clause-reverse_tabled : goal.collect-requires-clause-reverse_tabled
collect-requires-clause-reverse_tabled g c =
    let n = sym (length-map c.args.string.now g.S.Letter.rank) in
    tabled_as (tabled _ true (for_reverse _ c.args.work.now n c.in_ok-verdict.ensures _ c.in_ok-build_tables.ensures.built (search rules) (search rules)) c.in_ok-build_tables-2.ensures.built) (search rules) (search rules)

pub returns-clause-gathered : goal.returns-clause-gathered
returns-clause-gathered g c = gathered _ _ (sym (length-map c.args.string.now g.S.Letter.rank)) c.in_ok-verdict.ensures c.collect.ensures.number c.collect.ensures.leaves
