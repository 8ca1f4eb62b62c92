-- `cabinet_reader::read` meets its contract.
use Rattle.std.proofs.Common.{rules}
use mathlib.Core.Path.{refl, sym}
use native.Mathlib.Omega.{arith}
use Rattle.refusal.specs.declared.Refusal.TheVariants.{NotMarked}
use Rattle.cabinet_reader.proofs.Entries.{told, refused, unmarked}
use Rattle.cabinet_reader.proofs.read.Goals as goal

pub returns-in_default : goal.returns-in_default
returns-in_default c = refused c.args.file c.args.entry NotMarked (unmarked c.args.file c.args.entry c.in_default.ensures) (search rules) refl (omega arith)

pub returns-in-Err : goal.returns-in-Err
returns-in-Err c = refused c.args.file c.args.entry c.in-Err.refusal c.in-Err.ensures (search rules) refl (omega arith)

pub returns : goal.returns
returns c =
    told c.args.file c.args.entry (sym c.in_default-verdict_on.ensures) c.in-Some.ensures c.number_at-letters.ensures c.number_at-place.ensures refl (omega (arith, c.tree_length.ensures)) refl
