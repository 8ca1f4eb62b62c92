-- `small_trees::first` meets its contract.
use mathlib.Core.Path.{sym}
use native.Mathlib.Omega.{arith}
use Rattle.small_trees.proofs.Answering.{first_outside, first_short, first_given}
use Rattle.small_trees.proofs.first.Goals as goal

pub returns-then-is_outside : goal.returns-then-is_outside
returns-then-is_outside c = first_outside _ _ (sym c.if-is_outside.ensures)

pub returns-then-tree-tree_length : goal.returns-then-tree-tree_length
returns-then-tree-tree_length c = first_short _ _ (sym c.if-is_outside.ensures) (omega arith)

pub returns : goal.returns
returns c = first_given _ _ (sym c.if-is_outside.ensures) (omega arith) c.change.ensures
