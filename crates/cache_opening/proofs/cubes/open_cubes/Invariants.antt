-- What holds at each turn of `open_cubes`.
use Rattle.std.proofs.Common.{◌≡◌}
use Rattle.cache_opening.proofs.BatchSteps.{AreAppended}
use Rattle.cache_opening.proofs.cubes.open_cubes.Given as goal

abbrev pub invariant-loop-cube : goal.invariant-loop-cube
invariant-loop-cube g l = record {
  same : g.D.Depot.files l.depot ≡ g.D.Depot.files l.initial.depot;
  setting : l.manager.setting ≡ l.initial.manager.setting;
  are : AreAppended (g.D.Depot.files l.initial.depot) (g.D.Depot.answers l.initial.depot) (g.D.Depot.answers l.depot) l.initial.manager.setting.catalog l.cube l.manager.entries;
}
