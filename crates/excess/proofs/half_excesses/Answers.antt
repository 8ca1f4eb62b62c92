-- `excess::half_excesses` meets its contract: antt computes the 16 entries.
use mathlib.Core.Path.{refl}
use Rattle.refusal.specs.Conditions.{byte_bit}
use Rattle.excess.specs.Excess.{half_excess}
use Rattle.excess.proofs.half_excesses.Goals as goal

pub returns : goal.returns
unfolding half_excess byte_bit
returns c = refl
