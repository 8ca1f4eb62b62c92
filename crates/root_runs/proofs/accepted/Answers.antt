-- `root_runs::accepted` meets its contract.
use mathlib.Core.Path.{sym, ◌∙◌}
use mathlib.Core.Bool.{true≢false}
use Prim.Native.Nat.{suc, ◌-◌}
use native.Mathlib.Omega.{arith}
use Rattle.std.proofs.Common.{rules}
use lib.ListN.{length-map}
use Rattle.std.specs.Prelude.{map}
use Rattle.repeats.proofs.Accepting.{left_most}
use Rattle.root_runs.proofs.Judging.{accepted_no, accepted_yes}
use Rattle.root_runs.proofs.accepted.Goals as goal
use Rattle.root_runs.proofs.accepted.Goals.{else-reverse-via-then-reverse+else-j-m, else-reverse-via-else-reverse}

pub returns-then-x-eq0 : goal.returns-then-x-eq0
returns-then-x-eq0 g c = let x = c.left_of-x.ensures in accepted_no _ _ _ _ _ (λ A. omega (arith, A.one, x))

pub returns-then-x-j : goal.returns-then-x-j
returns-then-x-j g c = let x = c.left_of-x.ensures in accepted_no _ _ _ _ _ (λ A. omega (arith, A.uncut, x))

pub returns-then-x-m : goal.returns-then-x-m
returns-then-x-m g c = let x = c.left_of-x.ensures in accepted_no _ _ _ _ _ (λ A. omega (arith, A.twice, x))

pub returns-then-j-m : goal.returns-then-j-m
returns-then-j-m g c = accepted_no _ _ _ _ _ (λ A. omega (arith, A.ends c.if-reverse.true, length-map c.args.string.now g.S.Letter.rank))

pub overflow_sub-result : goal.overflow_sub-result
overflow_sub-result g c = omega (arith, left_most (map g.S.Letter.rank c.args.string.now) (suc (c.args.next.position - c.args.i)) c.args.i c.args.next.position, c.left_of-x.ensures)

pub returns : goal.returns
returns g c =
    let long = length-map c.args.string.now g.S.Letter.rank in
    accepted_yes _ _ _ _ _ _ c.left_of-x.ensures (omega arith) (omega arith) (omega arith)
    (λ e.
    elim c.else-reverse.branch [
      | else-reverse-via-then-reverse+else-j-m w ↦ omega (arith, long, c.requires.0.fits)
      | else-reverse-via-else-reverse w ↦ absurd (true≢false (sym e ∙ w.if-reverse.false))
    ])
    (search (rules, arith))
