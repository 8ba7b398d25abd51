-- What holds at each turn of `trees_of`.
use Rattle.std.proofs.Common.{◌≡◌, take, map}
use Rattle.olap_catalog.specs.Parts.{tree_of}
use Rattle.olap_catalog.specs.Tables.{over}
use Rattle.olap_catalog.proofs.trees.trees_of.Given as goal

abbrev pub invariant-loop-hierarchy : goal.invariant-loop-hierarchy
invariant-loop-hierarchy l = l.trees ≡ map (tree_of (over l.schema l.tables l.columns)) (take l.hierarchy-index l.hierarchies)
