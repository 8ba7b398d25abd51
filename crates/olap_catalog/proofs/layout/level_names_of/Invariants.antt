-- What holds at each turn of `level_names_of`.
use Rattle.std.proofs.Common.{◌≡◌, take, map}
use Rattle.olap_catalog.specs.Roots.{level_names_in}
use Rattle.olap_catalog.proofs.layout.level_names_of.Given as goal

abbrev pub invariant-loop-hierarchy : goal.invariant-loop-hierarchy
invariant-loop-hierarchy l = l.names ≡ map (level_names_in l.columns) (take l.hierarchy-index l.hierarchies)
