-- The loop of `run_list::RunList::place`.
use Rattle.run_list.specs.Entries.{run_of}
use Rattle.run_list.proofs.Inserting.{Placing}
use Rattle.run_list.proofs.RunList.place.Given as goal

abbrev pub invariant-loop-j : goal.invariant-loop-j
invariant-loop-j l = Placing l.j (run_of l.run) l.initial.self l.self
