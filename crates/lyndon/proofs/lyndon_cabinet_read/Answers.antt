-- `lyndon::lyndon_cabinet_read` meets its contract.
use Rattle.std.proofs.Common.{rules}
use mathlib.Core.Path.{◌∙◌}
use Rattle.lyndon.proofs.Replying.{entry_replied}
use Rattle.lyndon.proofs.lyndon_cabinet_read.Goals as goal

pub returns : goal.returns
returns c = c.into.ensures ∙ entry_replied c.args.file c.args.entry c.read.result c.read.ensures _ _ c.map_err.ensures.cases (λ e k p. search rules)
