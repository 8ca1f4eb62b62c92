-- `tables_text::build_all` meets its contract: the build is not refused, and its counts are small.
use Rattle.tables_text.proofs.Builds.{few_compared, whole_build}
use Rattle.tables_text.proofs.build_all.Goals as goal

pub count-requires : goal.count-requires
count-requires c = few_compared c.args.letters.now c.requires c.build.ensures.built

pub returns-clause-built : goal.returns-clause-built
returns-clause-built c = whole_build c.args.letters.now c.requires c.build.ensures.built c.count.ensures
