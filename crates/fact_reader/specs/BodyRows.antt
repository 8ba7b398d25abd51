-- What a body takes of fact rows.
use Rattle.std.specs.Prelude.{ℕ, ℤ, List, All, Bool, true, ◌==◌, ◌≡◌, ◌&&◌, ◌++◌, Option, Some, length, map, filter, filter_map, flat_map, nat_lt, option_and_then, option_map, slice_get}
use Rattle.std.specs.List.{list_all}
use Rattle.std.specs.List.Sorted.{IsPermutation}
use Rattle.olap_meaning.specs.declared.CellValue.{CellValue}
use Rattle.olap_meaning.specs.declared.cells.Cell.{Cell}
use Rattle.olap_meaning.specs.declared.cells.Header.{Header}
use Rattle.olap_meaning.specs.declared.tables.Catalog.{Catalog}
use Rattle.olap_meaning.specs.declared.tables.Measure.{Measure}
use Rattle.olap_meaning.specs.declared.tables.Row.{Row}
use Rattle.olap_meaning.specs.Catalog.{fact_columns}
use Rattle.olap_meaning.specs.History.{is_some_and}
use Rattle.olap_meaning.specs.Legal.{is_column_of, is_row}
use Rattle.olap_meaning.specs.Rolled.{value_count}
use Rattle.olap_meaning.specs.Values.{aggregate}
use Rattle.olap_meaning.specs.Worth.{fact, row_value}
use Rattle.fact_versions.specs.FactRows.{FactRows}
use Rattle.segment_body.specs.BodyOf.{BodyOf, body_row_in}
use Rattle.olap_meaning.specs.Budget.{row_values}

-- the measure of a header, in its cube
abbrev pub header_measure : Catalog → Header → Option Measure
header_measure catalog header =
    option_and_then
    (λ cube. slice_get cube.measures header.measure) (slice_get catalog.cubes header.cube)

-- the number of a row, or NULL, in the fact column of a header's measure
abbrev pub row_number : Catalog → Header → Row → Option ℤ
row_number catalog header row =
    option_and_then
    (λ measure. fact catalog header.cube measure.column row) (header_measure catalog header)

-- a row as the body of a header has it: its values and its number, none where the header does not allow its values
abbrev pub body_row : Catalog → Header → Row → Option (List ℕ × Option ℤ)
body_row catalog header row =
    option_map (λ values. (values, row_number catalog header row)) (row_values catalog header row)

-- the rows of some that a header allows, as its bodies have them, in their order
abbrev pub body_rows : Catalog → Header → List Row → List (List ℕ × Option ℤ)
body_rows catalog header rows = filter_map (body_row catalog header) rows

-- the body that takes these rows in their order; a load's body may have them in another (`HoldsRows`)
abbrev pub body_of : Catalog → Header → List Row → Option BodyOf
body_of catalog header rows =
    option_map
    (λ measure. record {
      header = header;
      aggregator = measure.aggregator;
      rows = body_rows catalog header rows;
    }) (header_measure catalog header)

-- a body holds rows: header and aggregator are those, and its rows are the rows that the header allows, in some order
pub record HoldsRows (catalog : Catalog) (header : Header) (rows : List Row) (body : BodyOf)
    : Type 0 where
  pub own_header : body.header ≡ header
  pub own_aggregator :
      option_map (λ measure. measure.aggregator) (header_measure catalog header)
      ≡ Some body.aggregator
  pub own_rows : IsPermutation (body_rows catalog header rows) body.rows

-- the rows of some batches, in order
abbrev pub rows_in : List FactRows → List Row
rows_in batches = flat_map (λ batch. batch.rows) batches

-- a header can be loaded: cube and measure are the catalog's, and each column is one of the cube's dimensions
abbrev pub is_loadable : Catalog → Header → Bool
is_loadable catalog header =
    is_some_and (λ measure. true) (header_measure catalog header)
    && is_some_and
    (λ cube. list_all (λ column. is_column_of catalog cube.dimensions column.0) header.columns)
    (slice_get catalog.cubes header.cube)

-- a batch is one of a cube: it has as many leaves and numbers to a row as the cube asks, and each row is one of the
-- cube
abbrev pub is_batch : Catalog → ℕ → FactRows → Bool
is_batch catalog cube batch =
    is_some_and
    (λ c. (batch.dimensions == length c.dimensions)
    && (batch.columns == length (fact_columns c))) (slice_get catalog.cubes cube)
    && list_all (is_row catalog cube) batch.rows

-- batches are a cube's: each is
abbrev pub are_batches : Catalog → ℕ → List FactRows → Bool
are_batches catalog cube batches = list_all (is_batch catalog cube) batches

-- a row of a cube has in a column one of the values of the column
abbrev pub is_valued : Catalog → ℕ → Row → ℕ → Bool
is_valued catalog cube row column =
    is_some_and
    (λ value. nat_lt value (value_count catalog column)) (row_value catalog cube row column)

-- what a body says of a cell
abbrev pub body_value : BodyOf → Cell → CellValue
body_value body cell =
    aggregate body.aggregator (map (λ row. row.1) (filter (body_row_in body.header cell) body.rows))

-- a body with those of some fact rows after its own that its header allows
abbrev pub with_rows : Catalog → List Row → BodyOf → BodyOf
with_rows catalog rows body =
    record body { rows = body.rows ++ body_rows catalog body.header rows }

-- the values of the rows of a body
abbrev pub values_in : BodyOf → List (List ℕ)
values_in body = map (λ row. row.0) body.rows

-- what bodies have in common with one: the cube, the columns, and the values of their rows in their order. Measures, aggregators
-- and numbers may differ.
pub record AreAlike (bodies : List BodyOf) (first : BodyOf) : Type 0 where
  pub cubes : All (λ body. body.header.cube ≡ first.header.cube) bodies
  pub columns : All (λ body. body.header.columns ≡ first.header.columns) bodies
  pub values : All (λ body. values_in body ≡ values_in first) bodies
