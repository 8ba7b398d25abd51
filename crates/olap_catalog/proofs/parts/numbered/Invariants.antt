-- What holds at each turn of `numbered`.
use Rattle.std.proofs.Common.{◌≡◌, true}
use Rattle.std.specs.List.{list_all}
use Rattle.catalog_tables.specs.Tables.{have_fields, are_filled}
use Rattle.olap_catalog.proofs.parts.numbered.Given as goal

abbrev pub invariant-loop-table : goal.invariant-loop-table
invariant-loop-table l = record {
  same : l.numbered ≡ l.yielded;
  even : list_all (λ t. have_fields t.levels t.records) l.yielded ≡ true;
  filled : list_all (λ t. are_filled t.records) l.yielded ≡ true;
}
