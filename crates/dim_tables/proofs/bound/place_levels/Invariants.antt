-- What holds at each turn of `place_levels`.
use Rattle.std.proofs.Common.{◌≡◌, ◌++◌, Some, map, drop}
use Rattle.olap_meaning.specs.Records.{column_place, missing_column}
use Rattle.dim_tables.proofs.bound.place_levels.Given as goal

abbrev pub invariant-loop-level : goal.invariant-loop-level
invariant-loop-level l = record {
  placed : map (λ place. Some place) l.places.items ++ map (λ level. column_place level.column l.header) (drop l.level-index l.levels) ≡ map (λ place. Some place) l.initial.places.items ++ map (λ level. column_place level.column l.header) l.levels;
  rest_missing : missing_column (map (λ level. level.column) (drop l.level-index l.levels)) l.header ≡ missing_column (map (λ level. level.column) l.levels) l.header;
}
