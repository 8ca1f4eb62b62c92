-- `runs::copy` meets its contract.
use Rattle.std.proofs.Common.{rules}
use Rattle.std.proofs.lemmas.Slice.{overwrites}
use Rattle.std.proofs.lemmas.List.{places}
use Rattle.runs.proofs.Writing.{cut_is}
use Rattle.runs.proofs.copy.Goals as goal

pub returns : goal.returns
returns c = cut_is c.args.count c.args.table.now (search (rules, overwrites)) (λ k h. search (rules, places)) (λ k h w. search (rules, places))
