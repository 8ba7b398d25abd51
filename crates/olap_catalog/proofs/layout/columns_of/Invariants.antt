-- What holds at each turn of `columns_of`.
use Rattle.std.proofs.Common.{◌≡◌, ◌≤◌, ◌++◌, drop, length, flat_map}
use Rattle.olap_meaning.specs.Schema.{all_columns, levels_of}
use Rattle.olap_catalog.proofs.layout.columns_of.Given as goal

abbrev pub invariant-loop-place : goal.invariant-loop-place
invariant-loop-place l = record {
  rest : l.columns ++ all_columns l.place (drop l.place l.dimensions) ≡ all_columns 0 l.dimensions;
  room : length (flat_map levels_of (drop l.place l.dimensions)) ≤ length (flat_map levels_of l.dimensions);
}
