-- `tables_text::put_tables` meets its contract: the first line, and the lines of the positions.
use Rattle.tables_text.proofs.Builds.{tables_put}
use Rattle.tables_text.proofs.put_tables.Goals as goal

pub returns : goal.returns
returns c = tables_put c.args.letters.now c.build_all-comparisons.ensures.built c.put_head-at.ensures c.put_lines.ensures
