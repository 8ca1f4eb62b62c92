-- `cabinet_bodies::any_too_long` meets its contract.
use Rattle.std.proofs.Common.{rules}
use borrow.Author.Tests.{tests}
use mathlib.Core.Path.{◌∙◌}
use lib.Dec.{ltb}
use Rattle.std.proofs.lemmas.Iterator.{YieldsList-from_slice}
use Rattle.std.proofs.lemmas.Iterator.Search.{any_from_yields_List}
use Rattle.cabinet_bodies.proofs.Counts.{any_listed}
use Rattle.cabinet_bodies.proofs.any_too_long.Goals as goal

pub returns : goal.returns
returns c =
    any_from_yields_List (ltb 1000000) _ _ _ c.any.ensures.ran (YieldsList-from_slice c.args.counts.now cc) (λ x b q k. search (rules, tests))
    ∙ any_listed c.args.counts.now
