-- What holds at each turn of `place_columns`.
use Rattle.std.proofs.Common.{◌≡◌, drop, map, take}
use Rattle.olap_meaning.specs.Records.{missing_column}
use Rattle.agg_tables.specs.Places.{AreNumbersPlaced}
use Rattle.agg_tables.proofs.file.place_columns.Given as goal

abbrev pub invariant-loop-column : goal.invariant-loop-column
invariant-loop-column l = record {
  placed : AreNumbersPlaced l.header (take l.column-index l.columns) l.places.items;
  rest_missing : missing_column (map (λ column. column.name) (drop l.column-index l.columns)) l.header ≡ missing_column (map (λ column. column.name) l.columns) l.header;
}
