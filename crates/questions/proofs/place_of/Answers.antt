-- `questions::place_of` meets its contract.
use mathlib.Core.Path.{sym}
use native.Mathlib.Omega.{arith}
use Rattle.std.proofs.lemmas.Result.{err_from_is_err_and}
use Rattle.questions.specs.Answers.{place_answer}
use Rattle.refusal.proofs.Answers.{answered_refused}
use Rattle.questions.proofs.Questions.{Allowed, allowed, enough, place_answered}
use Rattle.questions.proofs.place_of.Goals as goal

pub returns-in_err-question : goal.returns-in_err-question
unfolding place_answer
returns-in_err-question c =
    let p = err_from_is_err_and c.from_residual.result c.from_residual.ensures.1 in
    rw (p.1, p.2) (answered_refused _ _ c.in_err-question.field-0.0 c.in_err-question.ensures)

pub select-requires : goal.select-requires
select-requires c =
    let a : Allowed c.args.n c.args.tree.now c.args.position = allowed _ _ _ (sym c.in_ok-question.ensures) in
    (omega (arith, a.small, a.bytes), enough _ _ _ a.bytes a.whole a.inside)

pub returns : goal.returns
returns c = place_answered (allowed _ _ _ (sym c.in_ok-question.ensures)) c.select.ensures.1 c.select.ensures.2
