-- `questions::previous_of` meets its contract.
use native.Mathlib.Omega.{arith}
use Rattle.std.proofs.lemmas.Result.{err_from_is_err_and}
use Rattle.questions.proofs.Questions.{placed, previous_refused, previous_answered, root_answered}
use Rattle.questions.proofs.previous_of.Goals as goal

pub returns-in_err-place : goal.returns-in_err-place
returns-in_err-place c =
    let p = err_from_is_err_and c.from_residual.result c.from_residual.ensures.1 in
    rw (p.1, p.2) (previous_refused _ _ _ c.in_err-place.field-0.0 c.in_err-place.ensures)

pub overflow_sub-result : goal.overflow_sub-result
overflow_sub-result c = (previous_answered (placed _ _ _ _ c.in_ok-place.ensures) c.backward-start.ensures c.if-start.true).0

pub overflow_add-result : goal.overflow_add-result
overflow_add-result c = let P = placed _ _ _ _ c.in_ok-place.ensures in omega (arith, P.low, P.asked.small)

pub overflow_sub-result-then-start : goal.overflow_sub-result-then-start
overflow_sub-result-then-start c = (previous_answered (placed _ _ _ _ c.in_ok-place.ensures) c.backward-start.ensures c.if-start.true).1

pub returns-then-start : goal.returns-then-start
returns-then-start c = (previous_answered (placed _ _ _ _ c.in_ok-place.ensures) c.backward-start.ensures c.if-start.true).2

pub returns-else-start : goal.returns-else-start
returns-else-start c = root_answered (placed _ _ _ _ c.in_ok-place.ensures) c.backward-start.ensures c.if-start.false
