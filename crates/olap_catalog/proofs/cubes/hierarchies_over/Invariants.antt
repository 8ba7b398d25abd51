-- What holds at each turn of `hierarchies_over`.
use Rattle.std.proofs.Common.{◌≡◌, ◌++◌, drop, flat_map}
use Rattle.olap_catalog.specs.Roots.{hierarchies_among}
use Rattle.olap_catalog.proofs.cubes.hierarchies_over.Given as goal

abbrev pub invariant-loop-dimension : goal.invariant-loop-dimension
invariant-loop-dimension l = l.found ++ flat_map (hierarchies_among l.hierarchies) (drop l.dimension-index l.dimensions) ≡ flat_map (hierarchies_among l.hierarchies) l.dimensions
