-- `cabinet_reader::mark_of` meets its contract.
use mathlib.Core.Path.{refl, sym}
use native.Mathlib.Omega.{arith}
use Rattle.cabinet.specs.declared.Mark.TheVariants.{LYN1, LYN2}
use Rattle.cabinet.proofs.Marks.{mark_met, mark_short, mark_neither}
use Rattle.cabinet_reader.proofs.Reading.{is_met, not_met}
use Rattle.cabinet_reader.proofs.mark_of.Goals as goal

pub returns-then-file-lt8 : goal.returns-then-file-lt8
returns-then-file-lt8 c = sym (mark_short c.args.file.now (omega arith))

pub returns-then-starts_with : goal.returns-then-starts_with
returns-then-starts_with c =
    let first = is_met c.args.file.now LYN1 c.starts_with.ensures.value refl c.if-starts_with.true in sym (mark_met c.args.file.now (record { long = omega arith; mark = LYN1; first = first }))

pub returns-then-starts_with-2 : goal.returns-then-starts_with-2
returns-then-starts_with-2 c =
    let first = is_met c.args.file.now LYN2 c.starts_with-2.ensures.value refl c.if-starts_with-2.true in sym (mark_met c.args.file.now (record { long = omega arith; mark = LYN2; first = first }))

pub returns : goal.returns
returns c =
    let file = c.args.file.now in
    sym (mark_neither file (not_met file LYN1 c.starts_with.ensures.value refl c.if-starts_with.false) (not_met file LYN2 c.starts_with-2.ensures.value refl c.if-starts_with-2.false))
