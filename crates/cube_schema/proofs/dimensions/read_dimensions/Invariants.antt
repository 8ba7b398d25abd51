-- The dimensions that are left, read after those that were, give what all of them give.
use Rattle.std.proofs.Common.{◌≡◌, [], map, drop}
use Rattle.serde_json.specs.View.{view}
use Rattle.cube_schema.specs.Dimensions.{dimension_of}
use Rattle.cube_schema.specs.Lists.{items_from}
use Rattle.cube_schema.specs.Taken.{IsTakenBy}
use Rattle.cube_schema.proofs.dimensions.read_dimensions.Given as goal

abbrev pub invariant-loop-item : goal.invariant-loop-item
invariant-loop-item l =
    record {
      rest : items_from dimension_of l.dimensions (map view (drop l.item-index l.items)) ≡ items_from dimension_of [] (map view l.items);
      taken : IsTakenBy l.dimensions l.taken;
    }
