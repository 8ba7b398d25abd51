-- Rows in cells, and what a cell is worth.
use Rattle.std.specs.Prelude.{ℕ, ℤ, List, Bool, ◌==◌, Option, None, length, map, filter, position, option_and_then, option_map, slice_get, bytes_eq, unwrap_or}
use Rattle.std.specs.Option.{option_map_or}
use Rattle.std.specs.List.{list_all}
use Rattle.olap_meaning.specs.declared.CellValue.{CellValue}
use Rattle.olap_meaning.specs.declared.CellValue.TheVariants.{Empty}
use Rattle.olap_meaning.specs.declared.tables.Catalog.{Catalog}
use Rattle.olap_meaning.specs.declared.tables.Measure.{Measure}
use Rattle.olap_meaning.specs.declared.cells.Cell.{Cell}
use Rattle.olap_meaning.specs.declared.cells.CellSource.{CellSource}
use Rattle.olap_meaning.specs.declared.tables.Row.{Row}
use Rattle.olap_meaning.specs.Values.{aggregate}
use Rattle.olap_meaning.specs.Catalog.{fact_columns, leaf_value}
use Rattle.olap_meaning.specs.History.{Entry, Load, rows_of, load_version, is_some_and}

-- the measure of a cell, in its cube
abbrev pub measure_of : Catalog → Cell → Option Measure
measure_of catalog cell =
    option_and_then
    (λ cube. slice_get cube.measures cell.measure) (slice_get catalog.cubes cell.cube)

-- the leaf of a row in a dimension: the row has one for each dimension of its cube, in the cube's order
abbrev pub leaf_in : Catalog → ℕ → Row → ℕ → Option ℕ
leaf_in catalog cube row dimension =
    option_and_then
    (λ c. option_and_then (slice_get row.leaves) (position (λ d. d == dimension) c.dimensions))
    (slice_get catalog.cubes cube)

-- the value of a row in a column: that of its leaf in the column's dimension
abbrev pub row_value : Catalog → ℕ → Row → ℕ → Option ℕ
row_value catalog cube row column =
    option_and_then
    (λ c. option_and_then (leaf_value catalog column) (leaf_in catalog cube row c.dimension))
    (slice_get catalog.columns column)

-- a row is in a cell: in each column of the cell it has the cell's value
abbrev pub row_in : Catalog → Cell → Row → Bool
row_in catalog cell row =
    list_all
    (λ pair. is_some_and
    (λ value. value == pair.1) (row_value catalog cell.cube row pair.0)) cell.at

-- the number of a row in a fact column of a cube: the row has one, or NULL, for each fact column, in their order
abbrev pub fact : Catalog → ℕ → List ℕ → Row → Option ℤ
fact catalog cube column row =
    unwrap_or
    (option_and_then
    (λ c. option_and_then (slice_get row.values) (position (bytes_eq column) (fact_columns c)))
    (slice_get catalog.cubes cube)) None

-- the value of a cell over some rows: the aggregate of its measure over those of them that are in the cell
abbrev pub value_over : Catalog → Cell → List Row → CellValue
value_over catalog cell rows =
    option_map_or
    (λ measure. aggregate measure.aggregator
    (map (fact catalog cell.cube measure.column) (filter (row_in catalog cell) rows)))
    (measure_of catalog cell) Empty

-- the value of a cell in a version: over the rows of the version
abbrev pub value : Catalog → List Entry → Cell → ℕ → CellValue
value catalog history cell v = value_over catalog cell (rows_of history cell.cube v)

-- the version of an answered cell: that of the loads of its source
abbrev pub answered_version : List Entry → CellSource → Option ℕ
answered_version history answered =
    option_and_then (load_version history) (slice_get answered.loads 0)

-- what an answered cell is worth: its value in its version
abbrev pub worth : Catalog → List Entry → CellSource → Option CellValue
worth catalog history answered =
    option_map (value catalog history answered.cell) (answered_version history answered)

-- how many rows the version of a load has
abbrev pub load_rows : List Entry → Load → ℕ
load_rows history load = length (rows_of history load.header.cube load.version)
