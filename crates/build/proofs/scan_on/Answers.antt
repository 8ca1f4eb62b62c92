-- `build::scan_on` meets its contract.
use mathlib.Core.Path.{◌≡◌, sym, ◌∙◌}
use Prim.Native.Nat.{◌-◌}
use native.Mathlib.Omega.{arith}
use lib.ListN.{length}
use borrow.Author.Tests.{eqb-true, eqb-false}
use Rattle.ranks.proofs.Ranks.{rank_here}
use Rattle.build.proofs.Strings.{string_length, same_entry}
use Rattle.build.proofs.Settling.{scan_starts, scan_ends, scan_goes, stopped}
use Rattle.build.proofs.scan_on.Goals as goal

pub loop-m-init : goal.loop-m-init
loop-m-init g c = scan_starts _ _ _ _ _ _ (omega (arith, string_length g.S.Letter.rank c.args.reverse c.args.string.now))

pub loop-m-preserved : goal.loop-m-preserved
loop-m-preserved g c =
    let rank = g.S.Letter.rank in
    let string = c.args.string.now in
    let long = string_length rank c.args.reverse string in
    let left = rank_here rank string _ c.index-string-l.is (omega arith) in
    let right = rank_here rank string _ c.index-string-r.is (omega arith) in
    let same = sym left ∙ eqb-true _ _ (sym c.if-not-is_same.ensures) ∙ right in
    scan_goes _ _ _ _ _ _ c.loop-m.invariant (omega (arith, long)) (same_entry rank c.args.reverse string _ _ (omega arith) (omega arith) same)

pub returns-then-not-is_same : goal.returns-then-not-is_same
returns-then-not-is_same g c =
    let rank = g.S.Letter.rank in
    let string = c.args.string.now in
    let left = rank_here rank string _ c.index-string-l.is (omega arith) in
    let right = rank_here rank string _ c.index-string-r.is (omega arith) in
    let other = eqb-false _ _ (sym c.if-not-is_same.ensures) in
    stopped rank c.args.reverse string c.differs.ensures (omega (arith, c.rank.ensures, left)) (omega (arith, c.rank-then-not-is_same.ensures, right)) (omega arith) (omega arith)
    (omega arith) (omega arith) (λ e. other (omega (arith, e, c.rank.ensures, c.rank-then-not-is_same.ensures))) c.loop-m.invariant (omega arith)

pub returns : goal.returns
returns g c =
    let long = string_length g.S.Letter.rank c.args.reverse c.args.string.now in
    let S = c.loop-m.invariant in
    let at_end : c.loop-m.m ≡ length c.args.string.now - c.args.r = omega (arith, long, S.inside) in
    rw (c.ends.ensures, ← at_end) (scan_ends _ _ _ _ _ _ S (omega (arith, long)))
