-- `writing::put_decimal` meets its contract, by what `io::decimal` ensures.
use mathlib.Core.Path.{◌≡◌, ◌∙◌}
use native.Mathlib.Omega.{arith}
use lib.ListN.{take}
use Rattle.writing.specs.Text.{decimal}
use Rattle.writing.proofs.Places.{decimal_is}
use Rattle.writing.proofs.put_decimal.Goals as goal

pub returns : goal.returns
returns c =
    let w = c.decimal-k in
    let n = c.args.n in
    let e : take w.result w.new.out ≡ decimal n = w.ensures.digits ∙ decimal_is n _ w.result w.ensures.len (omega arith) (omega arith) in
    rw e at c.put.ensures
