-- What holds at each turn of `tree_of`.
use Rattle.std.proofs.Common.{◌≡◌, map, length}
use Rattle.std.specs.List.{range_with_len}
use Rattle.olap_meaning.specs.Catalog.{path_of}
use Rattle.olap_catalog.specs.Tables.{over}
use Rattle.olap_catalog.proofs.trees.tree_of.Given as goal

abbrev pub invariant-loop-leaf : goal.invariant-loop-leaf
invariant-loop-leaf l = l.builder ≡ record {
  levels = length l.hierarchy.levels;
  leaves = map (path_of (over l.schema l.tables l.columns) l.hierarchy) (range_with_len 0 l.leaf);
}
