-- One rollup more is rolled up.
use Rattle.std.proofs.Common.{add-one}
use Rattle.std.specs.List.{AllZip}
use Rattle.cache_manager.specs.Rollups.{IsWorth}
use Rattle.cache_manager.proofs.Finding.{zip_more}
use Rattle.cache_manager.proofs.rollups.roll_up.Goals as goal

pub loop-rollup-preserved : goal.loop-rollup-preserved
loop-rollup-preserved c =
    rw (add-one, c.in_ok-push.ensures.items)
    (zip_more (λ rollup each. AllZip (IsWorth c.args.history.now.setting.catalog c.args.history.now.entries rollup.loads.items) rollup.cells.items each) c.args.rollups.now c.loop-rollup.rolled.items c.loop-rollup.rollup-index c.rollup-item.result _ c.loop-rollup-test.true c.rollup-item.is c.loop-rollup.invariant
    c.in_ok-roll.ensures)
