-- `trees_text::print_lines` meets its contract.
use mathlib.Core.Path.{◌≡◌, refl, sym, ◌∙◌}
use Prim.Native.Nat.{◌≤◌}
use native.Mathlib.Omega.{arith}
use lib.ListN.{length}
use lib.Seq.{length-take-le}
use Rattle.trees_text.proofs.Running.{running_most, running_fits, running_up, running_ends, running_taken, running_again, running_start}
use Rattle.trees_text.proofs.print_lines.Goals as goal

pub loop-line-init : goal.loop-line-init
loop-line-init g c = (refl, refl, running_start c.requires.0 c.requires.1 c.begin-line.ensures)

pub slice_bounds-write_line-end : goal.slice_bounds-write_line-end
slice_bounds-write_line-end g c =
    let text_long : length c.loop-line.text ≡ length c.args.text.now = c.loop-line.invariant.1 ∙ c.begin-line.auto.out in
    omega (arith, running_most c.loop-line.invariant.2, text_long, c.requires.1)

pub slice_bounds-write_line-end-in-loop-line : goal.slice_bounds-write_line-end-in-loop-line
slice_bounds-write_line-end-in-loop-line g c =
    let text_long : length c.loop-line.text ≡ length c.args.text.now = c.loop-line.invariant.1 ∙ c.begin-line.auto.out in
    let fits : c.loop-line.line.length ≤ length c.loop-line.text = omega (arith, running_most c.loop-line.invariant.2, text_long, c.requires.1) in
    sym (length-take-le c.loop-line.line.length c.loop-line.text fits)

pub overflow_add-bytes : goal.overflow_add-bytes
overflow_add-bytes g c = omega (arith, running_fits c.loop-line.invariant.2)

pub returns-then-line : goal.returns-then-line
returns-then-line g c = running_ends c.loop-line.invariant.2 c.if-line.true

pub make_line-line-requires : goal.make_line-line-requires
make_line-line-requires g c = running_taken c.loop-line.invariant.2 c.if-line.false

pub loop-line-smaller : goal.loop-line-smaller
loop-line-smaller g c = omega (arith, running_up c.loop-line.invariant.2)

pub loop-line-preserved : goal.loop-line-preserved
loop-line-preserved g c =
    let text_long : length c.loop-line.text ≡ length c.args.text.now = c.loop-line.invariant.1 ∙ c.begin-line.auto.out in (
      c.make_line-line.auto.tree ∙ c.loop-line.invariant.0,
      c.make_line-line.auto.out ∙ c.loop-line.invariant.1,
      running_again c.loop-line.invariant.2 c.if-line.false (omega (arith, text_long, c.requires.1)) c.make_line-line.ensures,
    )
