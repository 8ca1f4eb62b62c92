-- `lyndon::symbols::lyndon_word32` meets its contract.
use Rattle.std.proofs.Common.{rules}
use mathlib.Core.Path.{refl, ◌∙◌}
use Rattle.std.proofs.lemmas.List.{map-id}
use Rattle.lyndon.proofs.Replying.{word_replied}
use Rattle.lyndon.proofs.symbols.lyndon_word32.Goals as goal

pub returns : goal.returns
returns c = c.of.ensures ∙ word_replied c.args.symbols.now c.args.position refl c.word.result (rw (map-id c.args.symbols.now) at c.word.ensures) _ _ c.map_err-word.ensures.cases (λ e k p. search rules)
