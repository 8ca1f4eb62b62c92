-- `runs::Lists::write` meets its contract.
use Rattle.std.proofs.Common.{arith}
use Rattle.runs.specs.Lists.{lists_in}
use Rattle.runs.proofs.Writing.{left, written, in_lists}
use Rattle.runs.proofs.Lists.write.Goals as goal

pub returns-then-self-count-clause-written : goal.returns-then-self-count-clause-written
returns-then-self-count-clause-written c = left _ _ _ (omega arith)

pub copy-requires-2 : goal.copy-requires-2
copy-requires-2 c = (omega (arith, c.requires.room), omega (arith, in_lists (lists_in c.args.self.now) c.requires.even))

pub copy-requires-3 : goal.copy-requires-3
copy-requires-3 c = (omega (arith, c.requires.room), omega (arith, in_lists (lists_in c.args.self.now) c.requires.even))

pub returns-clause-written : goal.returns-clause-written
returns-clause-written c = written _ _ _ (omega arith) c.requires.even c.copy.ensures c.copy-2.ensures c.copy-3.ensures
