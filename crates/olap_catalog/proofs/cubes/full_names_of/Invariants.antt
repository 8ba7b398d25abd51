-- What holds at each turn of `full_names_of`.
use Rattle.std.proofs.Common.{◌≡◌, take, map}
use Rattle.olap_catalog.specs.Roots.{full_name_in}
use Rattle.olap_catalog.proofs.cubes.full_names_of.Given as goal

abbrev pub invariant-loop-hierarchy : goal.invariant-loop-hierarchy
invariant-loop-hierarchy l = l.names ≡ map (full_name_in l.dimensions) (take l.hierarchy-index l.hierarchies)
