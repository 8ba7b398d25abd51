-- What holds at each turn of `roots_of`.
use Rattle.std.proofs.Common.{◌≡◌, take, map, flat_map}
use Rattle.olap_catalog.specs.Roots.{hierarchies_among}
use Rattle.olap_catalog.proofs.cubes.roots_of.Given as goal

abbrev pub invariant-loop-cube : goal.invariant-loop-cube
invariant-loop-cube l = l.roots ≡ map (λ cube. flat_map (hierarchies_among l.hierarchies) cube.dimensions) (take l.cube-index l.cubes)
