-- All tables have the levels of their dimensions.
use Rattle.std.proofs.Common.{rules}
use Rattle.play_cases.proofs.LevelFacts.{levels_step}
use Rattle.play_cases.proofs.opened.tables.Goals as goal

pub loop-dimension-preserved : goal.loop-dimension-preserved
loop-dimension-preserved c = levels_step c.args.schema.now.dimensions c.loop-dimension.tables c.push.new.self c.loop-dimension.dimension c.in-Ok.table c.loop-dimension.invariant (search rules) c.in-Ok.ensures.levels
