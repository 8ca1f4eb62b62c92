-- `tree_string::write` meets its contract.
use mathlib.Core.Path.{sym}
use Rattle.std.proofs.lemmas.Result.{err_from_is_err_and}
use Rattle.tree_string.proofs.Answering.{refused_1, refused_2, refused_tree, written}
use Rattle.tree_string.proofs.write.Goals as goal

pub returns-then-n-gt1000000 : goal.returns-then-n-gt1000000
returns-then-n-gt1000000 c = refused_1 _ _ _ c.if-n-gt1000000.true

pub returns-then-symbols-n : goal.returns-then-symbols-n
returns-then-symbols-n c = refused_2 _ _ _ c.if-n-gt1000000.false c.if-symbols-n.true

pub returns-in_err-verdict_on : goal.returns-in_err-verdict_on
returns-in_err-verdict_on c =
    let p = err_from_is_err_and c.from_residual.result c.from_residual.ensures.1 in
    rw (p.1, p.2) (refused_tree _ _ _ c.if-n-gt1000000.false c.if-symbols-n.false c.in_err-verdict_on.field-0.0 c.in_err-verdict_on.ensures)

pub fill-requires : goal.fill-requires
fill-requires c = (sym c.in_ok-verdict_on.ensures, c.if-symbols-n.false)

pub returns : goal.returns
returns c = written _ _ _ c.if-n-gt1000000.false c.if-symbols-n.false c.in_ok-verdict_on.ensures c.fill.ensures
