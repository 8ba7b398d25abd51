-- The hierarchies that are left give what all of them give.
use Rattle.std.proofs.Common.{◌≡◌, drop, find, bytes_eq}
use Rattle.olap_meaning.specs.FullNames.{joined_name}
use Rattle.olap_meaning.specs.Whole.{hierarchy_in}
use Rattle.cube_schema.proofs.aggregate_levels.find_in.Given as goal

abbrev pub invariant-loop-hierarchy : goal.invariant-loop-hierarchy
invariant-loop-hierarchy l =
    find (λ hierarchy. bytes_eq l.name (joined_name l.dimension.name hierarchy.name)) (drop l.hierarchy-index l.dimension.hierarchies) ≡ hierarchy_in l.dimension l.name
