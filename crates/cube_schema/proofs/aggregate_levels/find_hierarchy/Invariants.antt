-- The dimensions that are left give what all of them give.
use Rattle.std.proofs.Common.{◌≡◌, drop}
use Rattle.olap_meaning.specs.Whole.{hierarchy_named}
use Rattle.cube_schema.proofs.aggregate_levels.find_hierarchy.Given as goal

abbrev pub invariant-loop-dimension : goal.invariant-loop-dimension
invariant-loop-dimension l = hierarchy_named (drop l.dimension-index l.dimensions) l.cube l.name ≡ hierarchy_named l.dimensions l.cube l.name
