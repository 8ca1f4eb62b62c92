-- `cabinet_reader::contents_verdict` meets its contract.
use mathlib.Core.Path.{◌≡◌, refl, sym, ◌∙◌}
use mathlib.Core.Bool.{false}
use Prim.Native.Nat.{◌≤◌}
use native.Mathlib.Omega.{arith}
use Rattle.refusal.specs.declared.Refusal.TheVariants.{WrongContents}
use Rattle.refusal.proofs.Numbers.{nothing_found}
use Rattle.cabinet.specs.File.{count_of}
use Rattle.cabinet.specs.Refusals.{wrong_contents}
use Rattle.cabinet.proofs.Conditions.{right, read_flaw}
use Rattle.cabinet_reader.proofs.Reading.{read_apart}
use Rattle.cabinet_reader.proofs.contents_verdict.Goals as goal

pub returns : goal.returns
returns c =
    let file = c.args.file.now in
    let few : count_of file ≤ 64 = omega (arith, c.requires.1, c.requires.2) in
    let not_wrong : wrong_contents file ≡ false = nothing_found (wrong_contents file) WrongContents (sym c.in_ok-read_counts.ensures.verdict) in
    c.verdict_on.ensures
    ∙ read_apart file few (right file not_wrong) c.in_ok-read_counts.ensures.read (omega (arith, c.requires.1)) refl
    ∙ sym (read_flaw file c.args.entry c.requires.0 few not_wrong (omega (arith, c.requires.1)))
