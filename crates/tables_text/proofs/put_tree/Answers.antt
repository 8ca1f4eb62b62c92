-- `tables_text::put_tree` meets its contract.
use Rattle.std.proofs.Common.{rules}
use borrow.Author.Tests.{tests}
use Rattle.tables_text.proofs.Sizes.{tree_none, tree_some}
use Rattle.tables_text.proofs.put_tree.Goals as goal

pub returns-then-is_empty : goal.returns-then-is_empty
returns-then-is_empty c = rw (tree_none c.args.tree.now (search (rules, tests))) c.put_byte.ensures

pub returns : goal.returns
returns c = rw (tree_some c.args.tree.now (search (rules, tests))) c.put_hexes.ensures
