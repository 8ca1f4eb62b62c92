-- The loops of `cabinet_writer::put_contents`.
use Rattle.cabinet_writer.proofs.Filling.{EntriesTo}
use Rattle.cabinet_writer.proofs.put_contents.Given as goal

abbrev pub invariant-loop-k : goal.invariant-loop-k
invariant-loop-k l = EntriesTo l.counts l.initial.file l.file l.k l.place
