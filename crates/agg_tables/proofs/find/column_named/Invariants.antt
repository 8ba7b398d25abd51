-- What holds at each turn of `column_named`.
use Rattle.std.proofs.Common.{◌≡◌, drop, find}
use Rattle.agg_tables.specs.Declarations.{is_named}
use Rattle.agg_tables.proofs.find.column_named.Given as goal

-- the columns so far have another name
abbrev pub invariant-loop-column : goal.invariant-loop-column
invariant-loop-column l = find (is_named l.catalog l.name) (drop l.column-index l.hierarchy.levels) ≡ find (is_named l.catalog l.name) l.hierarchy.levels
