-- What holds at each turn of `place_fields`.
use Rattle.std.proofs.Common.{◌≡◌, ◌++◌, Some, map, drop}
use Rattle.std.specs.List.{flat_map}
use Rattle.olap_meaning.specs.Records.{column_place, missing_column}
use Rattle.dim_tables.proofs.bound.place_fields.Given as goal

abbrev pub invariant-loop-hierarchy : goal.invariant-loop-hierarchy
invariant-loop-hierarchy l = record {
  placed : map (λ place. Some place) l.places.items ++ map (λ level. column_place level.column l.header) (flat_map (λ hierarchy. hierarchy.levels) (drop l.hierarchy-index l.hierarchies)) ≡ map (λ level. column_place level.column l.header) (flat_map (λ hierarchy. hierarchy.levels) l.hierarchies);
  rest_missing : missing_column (map (λ level. level.column) (flat_map (λ hierarchy. hierarchy.levels) (drop l.hierarchy-index l.hierarchies))) l.header ≡ missing_column (map (λ level. level.column) (flat_map (λ hierarchy. hierarchy.levels) l.hierarchies)) l.header;
}
