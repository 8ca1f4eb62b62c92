-- `tables_text::put_previous` meets its contract.
use native.Mathlib.Omega.{arith}
use Rattle.tables_text.proofs.Sizes.{dash, no_dash}
use Rattle.tables_text.proofs.put_previous.Goals as goal

pub returns-then-p-n : goal.returns-then-p-n
returns-then-p-n c =
    let a = c.args in
    rw (dash a.n a.p (omega arith)) c.put.ensures

pub returns : goal.returns
returns c =
    let a = c.args in
    rw (no_dash a.n a.p (omega arith)) c.put_field.ensures
