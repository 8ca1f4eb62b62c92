-- `search::sums::search_on` meets its contract: three legs.
use mathlib.Core.Path.{refl, sym, ◌∙◌}
use Prim.Native.Nat.{◌/◌}
use native.Mathlib.Omega.{arith}
use Rattle.search.proofs.On.{on_then, on_on, leg_going, leg_ended, leg_passed, on_found}
use Rattle.search.proofs.sums.search_on.Goals as goal

pub returns-then-near-end : goal.returns-then-near-end
returns-then-near-end c =
    let W = c.bits_on-near.ensures in
    (on_found (leg_ended W (omega arith) (omega arith)), omega (arith, W.small, W.within))

pub returns : goal.returns
returns c =
    let stands = sym c.fell.ensures ∙ c.if-fell.false in
    let ends = c.bits_on-near.ensures.ends stands in
    let near = leg_going {f = c.args.end} c.bits_on-near.ensures stands (omega arith) c.requires.1 c.requires.0 in
    let far = leg_passed near (c.bits_on-near.result.at / 8) (omega (arith, ends)) refl c.bytes_on-far.ensures.1 in
    let W = c.bits_on.ensures in
    let p = c.requires in
    (on_found (on_then (on_on far (omega arith) c.half_on.ensures) W), omega (arith, W.small, W.within, p))
