-- `run_list::RunList::place` meets its contract.
use native.Mathlib.Omega.{arith}
use Rattle.run_list.proofs.Inserting.{placing_more, placing_done, placing_first}
use Rattle.run_list.proofs.RunList.place.Goals as goal

pub returns-then-not-comes_before-clause-tables : goal.returns-then-not-comes_before-clause-tables
returns-then-not-comes_before-clause-tables c = placing_done c.loop-j.invariant (omega arith) c.entry-passed.ensures c.comes_before.ensures c.if-not-comes_before.true c.store.ensures.tables (omega arith)

pub loop-j-preserved : goal.loop-j-preserved
loop-j-preserved c =
    let s = c.store-in-loop-j.ensures in
    placing_more c.loop-j.invariant (omega arith) c.entry-passed.ensures c.comes_before.ensures c.if-not-comes_before.false s.same s.count s.tables (omega arith)

pub returns-clause-tables : goal.returns-clause-tables
returns-clause-tables c = placing_first c.loop-j.invariant c.store-2.ensures.tables (omega arith) (omega arith)
