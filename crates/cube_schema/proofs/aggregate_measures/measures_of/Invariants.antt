-- The items that are left, read after those that were, give what all of them give.
use Rattle.std.proofs.Common.{◌≡◌, [], map, drop}
use Rattle.serde_json.specs.View.{view}
use Rattle.cube_schema.specs.Aggregates.{aggregate_measure_of}
use Rattle.cube_schema.specs.Lists.{items_from}
use Rattle.cube_schema.proofs.aggregate_measures.measures_of.Given as goal

abbrev pub invariant-loop-item : goal.invariant-loop-item
invariant-loop-item l = items_from (aggregate_measure_of l.cube l.table) l.measures (map view (drop l.item-index l.items)) ≡ items_from (aggregate_measure_of l.cube l.table) [] (map view l.items)
