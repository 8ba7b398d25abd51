-- What holds at each turn of `names_of_measures`.
use Rattle.std.proofs.Common.{◌≡◌, take, map}
use Rattle.olap_catalog.proofs.cubes.names_of_measures.Given as goal

abbrev pub invariant-loop-measure : goal.invariant-loop-measure
invariant-loop-measure l = l.names ≡ map (λ measure. measure.name) (take l.measure-index l.measures)
