-- `run_list::RunList::insert` meets its contract.
use mathlib.Core.Path.{sym, ◌∙◌}
use Rattle.run_list.proofs.Inserting.{not_taken}
use Rattle.run_list.proofs.RunList.insert.Goals as goal

pub returns-else-takes-clause-inserted : goal.returns-else-takes-clause-inserted
returns-else-takes-clause-inserted c = not_taken _ _ _ (sym c.takes.ensures ∙ c.if-takes.false)
