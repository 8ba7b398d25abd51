-- That `finish` may call `worth`.
use Rattle.std.proofs.Common.{arith}
use Rattle.measure_folds.proofs.RowFacts.{numbers_fit}
use Rattle.measure_folds.proofs.tally.Tally.finish.Goals as goal

pub worth-requires : goal.worth-requires
worth-requires c = omega (arith, numbers_fit _ _ _ c.self.invariant, c.self.invariant.room)
