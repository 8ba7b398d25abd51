-- The hierarchies that are left, read after those that were, give what all of them give.
use Rattle.std.proofs.Common.{◌≡◌, [], map, drop}
use Rattle.serde_json.specs.View.{view}
use Rattle.cube_schema.specs.Dimensions.{hierarchy_of}
use Rattle.cube_schema.specs.Lists.{items_from}
use Rattle.cube_schema.specs.Taken.{IsTakenWith}
use Rattle.cube_schema.proofs.hierarchies.hierarchies_of.Given as goal

abbrev pub invariant-loop-item : goal.invariant-loop-item
invariant-loop-item l =
    record {
      rest : items_from (hierarchy_of l.dimensions l.dimension_name) l.hierarchies (map view (drop l.item-index l.items))
          ≡ items_from (hierarchy_of l.dimensions l.dimension_name) [] (map view l.items);
      taken : IsTakenWith l.dimensions l.dimension_name l.hierarchies l.taken;
    }
