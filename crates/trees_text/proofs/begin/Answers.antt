-- `trees_text::begin` meets its contract.
use mathlib.Core.Path.{refl}
use native.Mathlib.Omega.{arith}
use Rattle.refusal.proofs.Numbers.{positive}
use Rattle.trees_text.proofs.Beginning.{begun_none, begun_first, first_taken}
use Rattle.trees_text.proofs.begin.Goals as goal

pub make_line-requires : goal.make_line-requires
make_line-requires c = first_taken c.in-Ok.ensures refl

pub returns-in-Ok : goal.returns-in-Ok
returns-in-Ok c = begun_first c.in-Ok.ensures refl refl c.make_line.ensures

pub returns-in-Err : goal.returns-in-Err
returns-in-Err c = begun_none c.in-Err.ensures (λ z. omega (arith, positive c.in-Err.field-0)) c.put-length.ensures
