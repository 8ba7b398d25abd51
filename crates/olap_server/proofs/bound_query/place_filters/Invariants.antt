-- What holds at each turn of `place_filters`.
use Rattle.std.proofs.Common.{◌≡◌, Some, map, take, drop}
use Rattle.olap_meaning.specs.Records.{column_place, missing_column}
use Rattle.olap_server.proofs.bound_query.place_filters.Given as goal

abbrev pub invariant-loop-pair : goal.invariant-loop-pair
invariant-loop-pair l = record {
  placed : map (λ place. Some place) l.places.items ≡ map (λ pair. column_place pair.0 l.header) (take l.pair-index l.pairs);
  rest_missing : missing_column (map (λ pair. pair.0) (drop l.pair-index l.pairs)) l.header ≡ missing_column (map (λ pair. pair.0) l.pairs) l.header;
}
