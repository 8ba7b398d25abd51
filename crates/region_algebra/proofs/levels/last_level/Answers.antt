-- That a level's place is a small number.
use Rattle.std.proofs.Common.{arith}
use Rattle.region_algebra.proofs.LevelFacts.{path_few}
use Rattle.region_algebra.proofs.levels.last_level.Goals as goal

pub overflow_cast-result : goal.overflow_cast-result
overflow_cast-result c = omega (arith, path_few c.args.catalog.now c.args.h c.args.path.now c.layout_holds.ensures.levels c.layout_holds.ensures.rising c.requires.own, c.column_count-columns.ensures.limit)
