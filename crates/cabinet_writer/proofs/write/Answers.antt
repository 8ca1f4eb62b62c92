-- `cabinet_writer::write` meets its contract: a refusal leaves the buffer as it was, else it is what `fill` leaves.
use mathlib.Core.Path.{sym}
use native.Mathlib.Omega.{arith}
use Rattle.std.proofs.lemmas.Result.{err_from_is_err_and}
use Rattle.refusal.proofs.Numbers.{unless_refused_lem, positive}
use Rattle.cabinet_writer.proofs.write.Goals as goal

pub returns-in_err-verdict_on : goal.returns-in_err-verdict_on
returns-in_err-verdict_on c =
    let p = err_from_is_err_and c.from_residual.result c.from_residual.ensures.1 in
    let e = c.in_err-verdict_on.ensures in
    rw (p.1, p.2) (record { answers = e; leaves = sym (unless_refused_lem _ _ _ (λ z. omega (arith, positive c.in_err-verdict_on.field-0.0, e, z))) })
