-- What holds at each turn of `level_column`.
use Rattle.std.proofs.Common.{◌≡◌, drop, find}
use Rattle.agg_tables.specs.Declarations.{is_hierarchy}
use Rattle.agg_tables.proofs.find.level_column.Given as goal

-- the hierarchies so far are others
abbrev pub invariant-loop-h : goal.invariant-loop-h
invariant-loop-h l = find (is_hierarchy l.catalog l.cube l.level.hierarchy) (drop l.h l.catalog.hierarchies) ≡ find (is_hierarchy l.catalog l.cube l.level.hierarchy) l.catalog.hierarchies
