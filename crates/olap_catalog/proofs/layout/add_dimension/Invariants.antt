-- What holds at each turn of `add_dimension`.
use Rattle.std.proofs.Common.{◌≡◌, ◌+◌, ◌++◌, drop, length, flat_map}
use Rattle.olap_meaning.specs.Schema.{columns_from}
use Rattle.olap_catalog.proofs.layout.add_dimension.Given as goal

abbrev pub invariant-loop-hierarchy : goal.invariant-loop-hierarchy
invariant-loop-hierarchy l = record {
  rest : l.columns ++ columns_from l.dimension l.field (flat_map (λ h. h.levels) (drop l.hierarchy-index l.hierarchies))
      ≡ l.fn.columns ++ columns_from l.dimension 0 (flat_map (λ h. h.levels) l.hierarchies);
  room : l.field + length (flat_map (λ h. h.levels) (drop l.hierarchy-index l.hierarchies)) ≡ length (flat_map (λ h. h.levels) l.hierarchies);
}
