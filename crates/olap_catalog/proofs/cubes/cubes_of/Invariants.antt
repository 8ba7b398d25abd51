-- What holds at each turn of `cubes_of`.
use Rattle.std.proofs.Common.{◌≡◌, take, map}
use Rattle.olap_meaning.specs.Schema.{cube_over}
use Rattle.olap_catalog.proofs.cubes.cubes_of.Given as goal

abbrev pub invariant-loop-cube : goal.invariant-loop-cube
invariant-loop-cube l = l.built ≡ map (cube_over l.dimensions) (take l.cube-index l.cubes)
