-- `writing::put_hex` meets its contract, by what `io::hex` ensures.
use mathlib.Core.Path.{◌≡◌, ap, ◌∙◌}
use native.Mathlib.Omega.{arith}
use lib.ListN.{take}
use Rattle.io.specs.Digits.{last_digits}
use Rattle.writing.proofs.Places.{two}
use Rattle.writing.proofs.put_hex.Goals as goal

pub returns : goal.returns
returns c =
    let w = c.hex-k in
    let b = c.args.b in
    let e : take w.result w.new.out ≡ last_digits 16 2 b = w.ensures.digits ∙ ap (λ k. last_digits 16 k b) (two b w.result (omega arith) w.ensures.len) in
    rw e at c.put.ensures
