-- What holds at each turn of `leaf_path`.
use Rattle.std.proofs.Common.{◌≡◌, ◌++◌, drop, filter_map, length}
use Rattle.olap_meaning.specs.Catalog.{leaf_value}
use Rattle.olap_catalog.specs.Tables.{over}
use Rattle.olap_catalog.proofs.trees.leaf_path.Given as goal

abbrev pub invariant-loop-column : goal.invariant-loop-column
invariant-loop-column l = record {
  rest : l.path.items ++ filter_map (λ column. leaf_value (over l.schema l.tables l.columns) column l.leaf) (drop l.column-index l.levels)
      ≡ filter_map (λ column. leaf_value (over l.schema l.tables l.columns) column l.leaf) l.levels;
  long : length l.path.items ≡ l.column-index;
}
