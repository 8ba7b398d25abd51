-- What holds at each turn of `measure_names_of`.
use Rattle.std.proofs.Common.{◌≡◌, take, map}
use Rattle.olap_catalog.specs.Roots.{measure_names}
use Rattle.olap_catalog.proofs.cubes.measure_names_of.Given as goal

abbrev pub invariant-loop-cube : goal.invariant-loop-cube
invariant-loop-cube l = l.names ≡ map measure_names (take l.cube-index l.cubes)
