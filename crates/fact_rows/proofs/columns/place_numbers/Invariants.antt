-- What holds at each turn of `place_numbers`.
use Rattle.std.proofs.Common.{◌≡◌, drop, map, take}
use Rattle.olap_meaning.specs.Catalog.{first_appearances}
use Rattle.olap_meaning.specs.Records.{missing_column}
use Rattle.fact_rows.specs.Bound.{AreNumbersPlaced}
use Rattle.fact_rows.proofs.columns.place_numbers.Given as goal

abbrev pub invariant-loop-measure : goal.invariant-loop-measure
invariant-loop-measure l = record {
  named : map (λ column. column.name) l.numbers.items ≡ first_appearances (map (λ measure. measure.column) (take l.measure-index l.measures));
  placed : AreNumbersPlaced l.header l.numbers.items;
  rest_missing : missing_column (map (λ measure. measure.column) (drop l.measure-index l.measures)) l.header ≡ missing_column (map (λ measure. measure.column) l.measures) l.header;
}
