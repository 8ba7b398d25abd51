-- What holds at each turn of `numbers`.
use Rattle.std.proofs.Common.{◌≡◌, ◌+◌, ◌++◌, drop}
use Rattle.olap_meaning.specs.Schema.{numbers_from}
use Rattle.olap_catalog.proofs.layout.numbers.Given as goal

abbrev pub invariant-loop-level : goal.invariant-loop-level
invariant-loop-level l = record {
  rest : l.columns ++ numbers_from l.column (drop l._level-index l.levels) ≡ numbers_from l.first l.levels;
  place : l.column ≡ l.first + l._level-index;
}
