-- `search::sums::search_back` meets its contract: three legs.
use mathlib.Core.Path.{refl, sym, ◌∙◌}
use Prim.Native.Nat.{◌/◌}
use native.Mathlib.Omega.{arith}
use Rattle.search.proofs.Back.{back_then, leg_going, leg_passed, back_found}
use Rattle.search.proofs.sums.search_back.Goals as goal

pub returns : goal.returns
returns c =
    let stands = sym c.fell.ensures ∙ c.if-fell.false in
    let ends = c.bits_back-near.ensures.ends stands in
    let near = leg_going {f = 0} c.bits_back-near.ensures stands (omega arith) c.requires.0 in
    let far = leg_passed near (c.bits_back-near.result.at / 8) (omega (arith, ends)) refl c.pass_back-far.ensures in
    let W = c.bits_back.ensures in
    let p = c.requires in
    (back_found (back_then far W), omega (arith, W.small, W.within, p))
