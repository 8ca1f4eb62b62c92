-- `roots::any_off` meets its contract.
use mathlib.Core.Path.{refl, ◌∙◌}
use mathlib.Core.Bool.{◌||◌}
use Rattle.std.proofs.Common.{rules, tests}
use Rattle.std.specs.List.{list_any}
use Rattle.std.proofs.lemmas.List.Recursion.{same_from_clauses}
use Rattle.std.proofs.lemmas.Iterator.{YieldsList-from_slice}
use Rattle.std.proofs.lemmas.Iterator.Search.{any_from_yields_List}
use Rattle.repeats.specs.Refusals.{work_length_off}
use Rattle.refusal.specs.Conditions.{table_length_off}
use Rattle.roots.proofs.any_off.Goals as goal

pub returns : goal.returns
returns c =
    let n = c.args.n in
    any_from_yields_List (table_length_off n) _ _ _ c.any.ensures.ran (YieldsList-from_slice c.args.lengths cc) (λ x b q k. search (rules, tests))
    ∙ same_from_clauses (list_any (table_length_off n)) (work_length_off n) (λ x b. table_length_off n x || b) refl (λ _ _. refl) (λ _ _. refl) c.args.lengths
