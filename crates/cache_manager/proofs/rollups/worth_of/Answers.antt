-- One tally more is told.
use Rattle.std.proofs.Common.{add-one, refl}
use Rattle.cache_manager.specs.Rollups.{IsToldBy}
use Rattle.cache_manager.proofs.Finding.{zip_more}
use Rattle.cache_manager.proofs.rollups.worth_of.Goals as goal

pub loop-tally-preserved : goal.loop-tally-preserved
loop-tally-preserved c =
    rw (add-one, c.in_ok-push.ensures.items)
    (zip_more (IsToldBy c.args.version) c.args.tallies.now c.loop-tally.answered.items c.loop-tally.tally-index c.tally-item.result _ c.loop-tally-test.true c.tally-item.is c.loop-tally.invariant
    (record { value = c.finish.ensures.value; version_is = refl }))
