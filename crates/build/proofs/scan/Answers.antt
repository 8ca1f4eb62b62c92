-- `build::scan` meets its contract.
use mathlib.Core.Path.{sym, ◌∙◌}
use native.Mathlib.Omega.{arith}
use borrow.Author.Tests.{eqb-true, eqb-false}
use Rattle.ranks.proofs.Ranks.{rank_here}
use Rattle.build.proofs.Strings.{string_length, string_entry, same_entry, other_entry}
use Rattle.build.proofs.Settling.{first_end, first_equal, first_unequal}
use Rattle.build.proofs.scan.Goals as goal

pub returns-then-r-from : goal.returns-then-r-from
returns-then-r-from g c =
    let long = string_length g.S.Letter.rank c.args.reverse c.args.string.now in
    rw c.ends.ensures (first_end _ _ _ _ _ _ (omega (arith, long)))

pub returns-then-is_same : goal.returns-then-is_same
returns-then-is_same g c =
    let rank = g.S.Letter.rank in
    let string = c.args.string.now in
    let long = string_length rank c.args.reverse string in
    let left = rank_here rank string _ c.index-string-l.is (omega arith) in
    let right = rank_here rank string _ c.index-string-r.is (omega arith) in
    let same = sym left ∙ eqb-true _ _ (sym c.if-is_same.ensures) ∙ right in
    first_equal _ _ _ _ _ _ (omega (arith, long)) (same_entry rank c.args.reverse string _ _ (omega arith) (omega arith) same) c.scan_on.ensures

pub returns : goal.returns
returns g c =
    let rank = g.S.Letter.rank in
    let string = c.args.string.now in
    let long = string_length rank c.args.reverse string in
    let left = c.rank.ensures ∙ rank_here rank string _ c.index-string-l.is (omega arith) in
    let right = c.rank-2.ensures ∙ rank_here rank string _ c.index-string-r.is (omega arith) in
    rw (c.differs.ensures, string_entry rank c.args.reverse string _ (omega arith) left, string_entry rank c.args.reverse string _ (omega arith) right)
    (first_unequal _ _ _ _ _ _ (omega (arith, long))
    (other_entry rank c.args.reverse string _ _ left right (omega arith) (omega arith) (omega arith) (omega arith)
    (λ e. eqb-false _ _ (sym c.if-is_same.ensures) (sym c.rank.ensures ∙ left ∙ e ∙ sym right ∙ c.rank-2.ensures))))
