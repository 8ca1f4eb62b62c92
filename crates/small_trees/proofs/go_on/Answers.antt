-- `small_trees::go_on` meets its contract.
use native.Mathlib.Omega.{arith}
use Rattle.small_trees.proofs.Turning.{search_start, search_closing, search_opening, search_found, search_none}
use Rattle.small_trees.proofs.go_on.Goals as goal

pub loop-k-init : goal.loop-k-init
loop-k-init c = search_start _ _ c.requires.0 c.requires.1 (λ j. omega (arith, c.type_inv.tree j))

pub returns-then-k-openings : goal.returns-then-k-openings
returns-then-k-openings c = search_found c.loop-k.invariant c.loop-k-test.true c.is_open.ensures c.if-is_open.true c.if-k-openings.true c.change.ensures

pub loop-k-preserved-else-k-openings : goal.loop-k-preserved-else-k-openings
loop-k-preserved-else-k-openings c = search_opening c.loop-k.invariant c.loop-k-test.true c.is_open.ensures c.if-is_open.true c.if-k-openings.false

pub loop-k-preserved : goal.loop-k-preserved
loop-k-preserved c = search_closing c.loop-k.invariant c.loop-k-test.true c.is_open.ensures c.if-is_open.false

pub returns : goal.returns
returns c = search_none c.loop-k.invariant c.loop-k-test.false
