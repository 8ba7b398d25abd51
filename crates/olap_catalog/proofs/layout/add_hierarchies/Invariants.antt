-- What holds at each turn of `add_hierarchies`.
use Rattle.std.proofs.Common.{◌≡◌, ◌+◌, ◌++◌, drop, length, flat_map}
use Rattle.olap_meaning.specs.Schema.{hierarchies_from}
use Rattle.olap_catalog.proofs.layout.add_hierarchies.Given as goal

abbrev pub invariant-loop-hierarchy : goal.invariant-loop-hierarchy
invariant-loop-hierarchy l = record {
  rest : l.built ++ hierarchies_from l.dimension l.column (drop l.hierarchy-index l.hierarchies) ≡ l.fn.built ++ hierarchies_from l.dimension l.first l.hierarchies;
  room : l.column + length (flat_map (λ h. h.levels) (drop l.hierarchy-index l.hierarchies)) ≡ l.first + length (flat_map (λ h. h.levels) l.hierarchies);
}
