-- What holds at each turn of `cube_names_of`.
use Rattle.std.proofs.Common.{◌≡◌, take, map}
use Rattle.olap_catalog.proofs.cubes.cube_names_of.Given as goal

abbrev pub invariant-loop-cube : goal.invariant-loop-cube
invariant-loop-cube l = l.names ≡ map (λ cube. cube.name) (take l.cube-index l.cubes)
