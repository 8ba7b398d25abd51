-- What holds at each turn of `add_levels`.
use Rattle.std.proofs.Common.{◌≡◌, ◌+◌, ◌++◌, drop}
use Rattle.olap_meaning.specs.Schema.{columns_from}
use Rattle.olap_catalog.proofs.layout.add_levels.Given as goal

abbrev pub invariant-loop-level : goal.invariant-loop-level
invariant-loop-level l = record {
  rest : l.columns ++ columns_from l.dimension l.field (drop l.level-index l.levels) ≡ l.fn.columns ++ columns_from l.dimension l.first l.levels;
  place : l.field ≡ l.first + l.level-index;
}
