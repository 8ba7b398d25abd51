-- The rollups so far are rolled up.
use Rattle.std.proofs.Common.{take}
use Rattle.cache_manager.specs.Rollups.{AreRolledUp}
use Rattle.cache_manager.proofs.rollups.roll_up.Given as goal

abbrev pub invariant-loop-rollup : goal.invariant-loop-rollup
invariant-loop-rollup l = AreRolledUp l.history.setting.catalog l.history.entries (take l.rollup-index l.rollups) l.rolled.items
