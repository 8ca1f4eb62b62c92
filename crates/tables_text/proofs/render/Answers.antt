-- `tables_text::render` meets its contract: the buffer has room for the whole text.
use native.Mathlib.Omega.{arith}
use Rattle.tables_text.proofs.Builds.{rendered_long, rendered_tables}
use Rattle.tables_text.proofs.render.Goals as goal

pub returns-then-letters-gt2048 : goal.returns-then-letters-gt2048
returns-then-letters-gt2048 c = rendered_long c.args.letters.now (omega arith) (omega arith) c.put.ensures

pub returns : goal.returns
returns c = rendered_tables c.args.letters.now (omega arith) (omega arith) c.put_tables_of.ensures
