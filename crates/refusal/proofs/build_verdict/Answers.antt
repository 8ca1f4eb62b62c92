-- `refusal::build_verdict` meets its contract: the conditions on the tables come first.
use mathlib.Core.Path.{sym}
use native.Mathlib.Omega.{arith}
use Rattle.std.proofs.lemmas.Result.{err_from_is_err_and}
use Rattle.refusal.proofs.Tables.{refused_first, says_three, says_four, says_taken}
use Rattle.refusal.proofs.build_verdict.Goals as goal

pub returns-in_err-tables_verdict : goal.returns-in_err-tables_verdict
returns-in_err-tables_verdict c =
    let p = err_from_is_err_and c.from_residual.result c.from_residual.ensures.1 in
    rw (p.1, p.2) (refused_first _ _ _ _ _ _ _ c.in_err-tables_verdict.field-0.0 c.in_err-tables_verdict.ensures)

pub returns-then-tree-tree_length : goal.returns-then-tree-tree_length
returns-then-tree-tree_length c = says_three _ _ _ _ _ _ _ (sym c.in_ok-tables_verdict.ensures) (omega arith) (omega arith)

pub returns-then-rows-n : goal.returns-then-rows-n
returns-then-rows-n c = says_four _ _ _ _ _ _ _ (sym c.in_ok-tables_verdict.ensures) (omega arith) (omega arith) (omega arith)

pub returns : goal.returns
returns c = says_taken _ _ _ _ _ _ _ (sym c.in_ok-tables_verdict.ensures) (omega arith) (omega arith) (omega arith)
