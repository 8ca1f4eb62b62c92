-- `brackets::read` meets its contract.
use native.Mathlib.Omega.{arith}
use Rattle.std.proofs.lemmas.Result.{err_from_is_err_and}
use Rattle.brackets.proofs.Answering.{refused_1, refused_2, refused_3, refused_flaw, read_back}
use Rattle.brackets.proofs.read.Goals as goal

pub returns-then-n-gt1000000 : goal.returns-then-n-gt1000000
returns-then-n-gt1000000 c = refused_1 _ _ _ _ c.if-n-gt1000000.true

pub returns-then-previous-n : goal.returns-then-previous-n
returns-then-previous-n c = refused_2 _ _ _ _ c.if-n-gt1000000.false c.then-previous-n.either

pub returns-then-tree-tree_length : goal.returns-then-tree-tree_length
returns-then-tree-tree_length c = refused_3 _ _ _ _ c.if-n-gt1000000.false c.if-previous-n.false c.if-next-n.false (omega arith)

pub returns-in_err-flaw : goal.returns-in_err-flaw
returns-in_err-flaw c =
    let p = err_from_is_err_and c.from_residual.result c.from_residual.ensures.1 in
    rw (p.1, p.2) (refused_flaw _ _ _ _ c.if-n-gt1000000.false c.if-previous-n.false c.if-next-n.false (omega arith) c.in_err-flaw.field-0.0 c.in_err-flaw.ensures)

pub returns : goal.returns
returns c = read_back _ _ _ _ c.if-n-gt1000000.false c.if-previous-n.false c.if-next-n.false (omega arith) c.in_ok-flaw.ensures c.fill_tables.ensures.0 c.fill_tables.ensures.1
