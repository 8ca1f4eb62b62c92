-- `lyndon::lyndon_word` meets its contract.
use Rattle.std.proofs.Common.{rules}
use mathlib.Core.Path.{◌∙◌}
use Rattle.ranks.specs.Ranks.{ranks}
use Rattle.ranks.proofs.Ranks.{ranks_length}
use Rattle.lyndon.proofs.Replying.{word_replied}
use Rattle.lyndon.proofs.lyndon_word.Goals as goal

pub returns : goal.returns
returns c = c.of.ensures ∙ word_replied (ranks c.args.letters.now) c.args.position (ranks_length c.args.letters.now) c.word.result c.word.ensures _ _ c.map_err-word.ensures.cases (λ e k p. search rules)
