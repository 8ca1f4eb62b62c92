-- `small_trees::next` meets its contract.
use mathlib.Core.Path.{sym}
use Rattle.std.proofs.lemmas.Result.{err_from_is_err_and}
use Rattle.small_trees.proofs.Answering.{next_outside, next_bad, next_given}
use Rattle.small_trees.proofs.next.Goals as goal

pub returns-then-is_outside : goal.returns-then-is_outside
returns-then-is_outside c = next_outside _ _ (sym c.if-is_outside.ensures)

pub returns-in_err-verdict_on : goal.returns-in_err-verdict_on
returns-in_err-verdict_on c =
    let p = err_from_is_err_and c.from_residual.result c.from_residual.ensures.1 in
    rw (p.1, p.2) (next_bad _ _ (sym c.if-is_outside.ensures) c.in_err-verdict_on.field-0.0 c.in_err-verdict_on.ensures)

pub returns : goal.returns
returns c = next_given _ _ (sym c.if-is_outside.ensures) c.in_ok-verdict_on.ensures c.go_on.ensures
