-- `checker::check` meets its contract, by the build's and the laws of proofs/Laws.antt.
use Rattle.std.proofs.Common.{arith, Ok, Err, refl, ◌∙◌}
use Rattle.std.proofs.lemmas.List.{length-map}
use Rattle.std.proofs.lemmas.Result.{err_from_is_err_and}
use Rattle.refusal.proofs.Numbers.{positive}
use Rattle.checker.proofs.Laws.{wrong_length, build_refused, lengths, checked}
use Rattle.checker.proofs.check.Goals as goal

pub returns-then-claimed-n-clause-checked : goal.returns-then-claimed-n-clause-checked
returns-then-claimed-n-clause-checked g c =
    let n = length-map c.args.string.now g.S.Letter.rank in
    wrong_length _ _ _ (omega (arith, n)) (λ e. c.if-claimed-n.true (e ∙ n))

pub returns-in_err-build_tables-clause-checked : goal.returns-in_err-build_tables-clause-checked
returns-in_err-build_tables-clause-checked g c =
    let n = length-map c.args.string.now g.S.Letter.rank in
    let p = err_from_is_err_and c.from_residual.result c.from_residual.ensures.1 in
    rw (p.1, p.2) (build_refused _ _ {verdict = Err c.in_err-build_tables.field-0.0} c.in_err-build_tables.ensures.built (λ h. grind (arith, n)) (positive _))

pub first_difference-requires : goal.first_difference-requires
first_difference-requires g c =
    let n = length-map c.args.string.now g.S.Letter.rank in
    (lengths _ _ {verdict = Ok tt} c.in_ok-build_tables.ensures.built (λ h. grind (arith, n)) refl).1

pub returns-clause-checked : goal.returns-clause-checked
returns-clause-checked g c =
    let n = length-map c.args.string.now g.S.Letter.rank in
    checked _ _ {verdict = Ok tt} c.in_ok-build_tables.ensures.built (λ h. grind (arith, n)) refl c.first_difference.ensures
