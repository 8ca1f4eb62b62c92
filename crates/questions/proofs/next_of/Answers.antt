-- `questions::next_of` meets its contract.
use native.Mathlib.Omega.{arith}
use Rattle.std.proofs.lemmas.Result.{err_from_is_err_and}
use Rattle.questions.proofs.Questions.{placed, next_refused, next_answered}
use Rattle.questions.proofs.next_of.Goals as goal

pub returns-in_err-place : goal.returns-in_err-place
returns-in_err-place c =
    let p = err_from_is_err_and c.from_residual.result c.from_residual.ensures.1 in
    rw (p.1, p.2) (next_refused _ _ _ c.in_err-place.field-0.0 c.in_err-place.ensures)

pub overflow_add-place : goal.overflow_add-place
overflow_add-place c = let P = placed _ _ _ _ c.in_ok-place.ensures in omega (arith, P.low, P.asked.small)

pub overflow_mul-n : goal.overflow_mul-n
overflow_mul-n c = let P = placed _ _ _ _ c.in_ok-place.ensures in omega (arith, P.asked.small)

pub overflow_sub-result : goal.overflow_sub-result
overflow_sub-result c = (next_answered (placed _ _ _ _ c.in_ok-place.ensures) c.forward-end.ensures).0

pub overflow_add-result : goal.overflow_add-result
overflow_add-result c =
    let P = placed _ _ _ _ c.in_ok-place.ensures in
    omega (arith, (next_answered P c.forward-end.ensures).1, P.asked.small, P.asked.inside)

pub returns : goal.returns
returns c = (next_answered (placed _ _ _ _ c.in_ok-place.ensures) c.forward-end.ensures).2
