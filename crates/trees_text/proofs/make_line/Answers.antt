-- `trees_text::make_line` meets its contract.
use mathlib.Core.Path.{sym, ap, ◌∙◌}
use native.Mathlib.Omega.{arith}
use lib.ListN.{replicate}
use lib.Seq.{length-take-le}
use Rattle.small_trees.proofs.Answering.{inside, next_inside, next_answered, next_written}
use Rattle.all_trees.specs.Trees.{is_last}
use Rattle.trees_text.specs.Lines.{stops}
use Rattle.trees_text.proofs.Lines.{stops_last}
use Rattle.trees_text.proofs.make_line.Goals as goal

pub slice_bounds-symbols-end : goal.slice_bounds-symbols-end
slice_bounds-symbols-end c = omega (arith, inside c.args.size (next_inside c.args.size c.args.tree.now c.requires))

pub slice_bounds-put_tree-end : goal.slice_bounds-put_tree-end
slice_bounds-put_tree-end c =
    let small = inside c.args.size (next_inside c.args.size c.args.tree.now c.requires) in
    sym (length-take-le c.args.size (replicate 12 0) (omega (arith, small)))

pub put_tree-length-requires : goal.put_tree-length-requires
put_tree-length-requires c =
    let small = inside c.args.size (next_inside c.args.size c.args.tree.now c.requires) in
    (c.requires, length-take-le c.args.size (replicate 12 0) (omega (arith, small)))

pub returns : goal.returns
returns c =
    let n = c.args.size in
    let t = c.args.tree.now in
    record {
      text = c.put_tree-length.ensures;
      stop = c.stops-last.ensures ∙ ap stops (c.next.ensures.answers ∙ next_answered n t c.requires) ∙ stops_last (is_last n t);
      leaves = c.next.ensures.leaves ∙ next_written n t c.requires;
    }
