-- `search::sums::half_on` meets its contract.
use mathlib.Core.Path.{refl, sym, ap, ◌∙◌}
use Prim.Native.Nat.{◌%◌}
use native.Mathlib.Omega.{arith}
use Rattle.search.proofs.On.{half_going}
use Rattle.search.proofs.sums.half_on.Goals as goal

pub returns : goal.returns
returns c = half_going c.requires.0 c.requires.1 refl (omega arith) (ap (λ b. b % 16) c.from-half.ensures) (sym c.falls_in.ensures ∙ c.if-falls_in.false) c.at_end.ensures
