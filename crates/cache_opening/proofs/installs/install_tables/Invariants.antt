-- What holds at each turn of `install_tables`.
use Rattle.std.proofs.Common.{◌≡◌, ◌≤◌, ◌+◌, drop, length}
use Rattle.olap_meaning.specs.declared.schema.TheConstants.{CUBE_LIMIT}
use Rattle.cache_opening.specs.Opening.{rows_checked, rows_from}
use Rattle.cache_opening.specs.Steps.{base_in, batches_in}
use Rattle.cache_opening.proofs.CheckSteps.{AreChecked}
use Rattle.cache_opening.proofs.installs.install_tables.Given as goal

abbrev pub invariant-loop-table : goal.invariant-loop-table
invariant-loop-table g l = record {
  same : g.D.Depot.files l.depot ≡ g.D.Depot.files l.initial.depot;
  setting : l.manager.setting ≡ l.initial.manager.setting;
  are : AreChecked (g.D.Depot.files l.initial.depot) (g.D.Depot.answers l.initial.depot) (g.D.Depot.answers l.depot) (base_in l.initial.manager) l.table l.manager.entries l.initial.steps l.steps;
  short : length l.manager.entries ≤ CUBE_LIMIT + l.table;
  at_least : l.initial.steps ≤ l.steps;
  cost :
      l.steps + rows_from l.initial.manager.setting.catalog (batches_in l.initial.manager.entries) l.table (drop l.table l.initial.manager.setting.catalog.schema.aggregates)
      ≡ l.initial.steps + rows_checked l.initial.manager.setting.catalog (batches_in l.initial.manager.entries);
}
