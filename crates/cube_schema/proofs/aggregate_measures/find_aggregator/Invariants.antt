-- The measures that are left give what all of them give.
use Rattle.std.proofs.Common.{◌≡◌, drop, find, bytes_eq}
use Rattle.olap_meaning.specs.Whole.{measure_named}
use Rattle.cube_schema.proofs.aggregate_measures.find_aggregator.Given as goal

abbrev pub invariant-loop-measure : goal.invariant-loop-measure
invariant-loop-measure l = find (λ measure. bytes_eq l.name measure.name) (drop l.measure-index l.cube.measures) ≡ measure_named l.cube l.name
