-- `word::word` meets its contract, by the search on the suffix.
use Rattle.std.proofs.Common.{rules, arith, refl}
use Rattle.word.proofs.Laws.{refused_long, refused_outside, within, taken}
use Rattle.word.proofs.word.Goals as goal

pub returns-then-n-gt1000000 : goal.returns-then-n-gt1000000
returns-then-n-gt1000000 g c = refused_long _ _ _ (search rules) refl (omega arith) (omega arith)

pub returns-then-n-position : goal.returns-then-n-position
returns-then-n-position g c = refused_outside _ _ _ (search rules) refl (omega arith) (omega arith) (omega arith)

pub slice_bounds-result-end : goal.slice_bounds-result-end
slice_bounds-result-end g c = within _ c.args.string c.args.position (omega arith) (omega arith) c.longest_lyndon_prefix-length.ensures

pub returns : goal.returns
returns g c = taken _ c.args.string c.args.position (omega arith) (omega arith) c.longest_lyndon_prefix-length.ensures refl refl
