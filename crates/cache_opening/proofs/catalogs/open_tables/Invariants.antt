-- What holds at each turn of `open_tables`.
use Rattle.std.proofs.Common.{◌≡◌}
use Rattle.cache_opening.proofs.TableSteps.{AreTables}
use Rattle.cache_opening.proofs.catalogs.open_tables.Given as goal

abbrev pub invariant-loop-dimension : goal.invariant-loop-dimension
invariant-loop-dimension g l = record {
  same : g.D.Depot.files l.depot ≡ g.D.Depot.files l.initial.depot;
  are : AreTables (g.D.Depot.files l.initial.depot) (g.D.Depot.answers l.initial.depot) (g.D.Depot.answers l.depot) l.schema.dimensions l.dimension l.tables;
}
