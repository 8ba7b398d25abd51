-- The items that are left, read after those that were, give what all of them give.
use Rattle.std.proofs.Common.{◌≡◌, [], map, drop}
use Rattle.serde_json.specs.View.{view}
use Rattle.cube_schema.specs.Cubes.{use_of}
use Rattle.cube_schema.specs.Lists.{items_from}
use Rattle.cube_schema.proofs.cubes.uses_of.Given as goal

abbrev pub invariant-loop-item : goal.invariant-loop-item
invariant-loop-item l = items_from (use_of l.dimensions l.cube) l.uses (map view (drop l.item-index l.items)) ≡ items_from (use_of l.dimensions l.cube) [] (map view l.items)
