-- `trees_text::put_tree` meets its contract: the string is not refused.
use mathlib.Core.Path.{sym, ◌∙◌}
use native.Mathlib.Omega.{arith}
use lib.ListN.{length}
use Rattle.tree_string.proofs.Answering.{string_tree, buffer_written}
use Rattle.small_trees.proofs.Answering.{inside, next_inside, next_tree_lem}
use Rattle.trees_text.specs.Text.{line_text}
use Rattle.trees_text.proofs.put_tree.Goals as goal

pub returns : goal.returns
unfolding line_text
returns c =
    let n = c.args.size in
    let t = c.args.tree.now in
    let b = c.args.symbols.now in
    let i = next_inside n t c.requires.0 in
    let e = string_tree n t (length b) (omega (arith, inside n i)) c.requires.1 ∙ sym (next_tree_lem n t i) ∙ c.requires.0 in
    rw (c.write.ensures.leaves ∙ sym (buffer_written n t b e)) at c.put_line.ensures
