-- What holds at each turn of `read_rows`, and what falls at each of them.
use Rattle.std.proofs.Common.{◌≡◌, [], length, true}
use Rattle.std.specs.List.{list_all}
use Rattle.olap_meaning.specs.Legal.{is_row}
use Rattle.fact_rows.specs.BatchFiles.{dimensions_of, number_columns, rows_with}
use Rattle.fact_rows.proofs.reader.read_rows.Given as goal

abbrev pub invariant-loop-numbers : goal.invariant-loop-numbers
invariant-loop-numbers l = record {
  rest : rows_with l.bound.catalog l.bound.cube l.bound.header l.batch.rows l.rows ≡ rows_with l.bound.catalog l.bound.cube l.bound.header [] l.initial.rows;
  dimensions : l.batch.dimensions ≡ length (dimensions_of l.bound.catalog l.bound.cube);
  columns : l.batch.columns ≡ length (number_columns l.bound.catalog l.bound.cube);
  fit : list_all (is_row l.bound.catalog l.bound.cube) l.batch.rows ≡ true;
}

abbrev pub decreases-loop-numbers : goal.decreases-loop-numbers
decreases-loop-numbers l = length l.rows
