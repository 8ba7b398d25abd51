-- What holds at each turn of `hierarchies_of`.
use Rattle.std.proofs.Common.{◌≡◌, ◌+◌, ◌++◌, drop, length, flat_map}
use Rattle.olap_meaning.specs.Schema.{all_hierarchies, levels_of}
use Rattle.olap_catalog.proofs.layout.hierarchies_of.Given as goal

abbrev pub invariant-loop-place : goal.invariant-loop-place
invariant-loop-place l = record {
  rest : l.hierarchies ++ all_hierarchies l.place l.column (drop l.place l.dimensions) ≡ all_hierarchies 0 0 l.dimensions;
  room : l.column + length (flat_map levels_of (drop l.place l.dimensions)) ≡ length (flat_map levels_of l.dimensions);
}
