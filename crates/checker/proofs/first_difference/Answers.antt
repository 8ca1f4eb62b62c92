-- `checker::first_difference` meets its contract, by the library's lemma on `position`.
use Rattle.std.proofs.Common.{rules}
use Rattle.std.proofs.lemmas.Iterator.{YieldsList-from_slice, YieldsList-from_zip}
use Rattle.std.proofs.lemmas.Iterator.Search.{position_from_yields_List}
use Rattle.suffix.proofs.Tests.{tests}
use Rattle.checker.proofs.Comparing.{differ, told}
use Rattle.checker.proofs.first_difference.Goals as goal

pub returns : goal.returns
returns c =
    told _ _ c.requires
    (position_from_yields_List differ c.position.new.self _ c.position.result c.position.ensures.ran
    (YieldsList-from_zip (YieldsList-from_slice c.args.claimed.now cc) (YieldsList-from_slice c.args.table.now cc)) (λ x b q k. search (rules, tests)))
