-- The levels that are left, read after those that were, give what all of them give.
use Rattle.std.proofs.Common.{◌≡◌, [], length, map, drop}
use Rattle.serde_json.specs.View.{view}
use Rattle.cube_schema.specs.Dimensions.{level_of}
use Rattle.cube_schema.specs.Lists.{items_from}
use Rattle.cube_schema.proofs.hierarchies.levels_of.Given as goal

abbrev pub invariant-loop-item : goal.invariant-loop-item
invariant-loop-item l =
    record {
      rest : items_from (level_of l.dimension l.hierarchy) l.levels (map view (drop l.item-index l.items)) ≡ items_from (level_of l.dimension l.hierarchy) [] (map view l.items);
      count : length l.levels ≡ l.item-index;
    }
