-- `trees_text::print` meets its contract: a size of two digits has a tree of at most 25 bytes.
use mathlib.Core.Path.{sym, ◌∙◌}
use Prim.Native.Nat.{◌≤◌}
use native.Mathlib.Omega.{arith}
use lib.Seq.{length-take-le}
use Rattle.trees_text.specs.Text.{program_text}
use Rattle.tree_size.proofs.Input.{size_most}
use Rattle.trees_text.proofs.print.Goals as goal

pub slice_bounds-tree-end : goal.slice_bounds-tree-end
slice_bounds-tree-end g c = omega (arith, c.tree_length-bytes.ensures, c.size_in-size.ensures, size_most c.args.input.now)

pub slice_bounds-print_lines-end : goal.slice_bounds-print_lines-end
slice_bounds-print_lines-end g c =
    let room : c.tree_length-bytes.result ≤ 25 = omega (arith, c.tree_length-bytes.ensures, c.size_in-size.ensures, size_most c.args.input.now) in
    sym (length-take-le c.tree_length-bytes.result _ room)

pub print_lines-requires : goal.print_lines-requires
print_lines-requires g c =
    let room : c.tree_length-bytes.result ≤ 25 = omega (arith, c.tree_length-bytes.ensures, c.size_in-size.ensures, size_most c.args.input.now) in
    (length-take-le c.tree_length-bytes.result _ room ∙ c.tree_length-bytes.ensures, omega arith)

pub returns : goal.returns
unfolding program_text
returns g c = rw c.size_in-size.ensures at c.print_lines.ensures
