-- The grids of answers.
use Rattle.std.specs.Prelude.{ℕ, ◌+◌, ◌*◌, Bool, true, false, ◌||◌, not, List, [], ◌∷◌, filter, map, length, slice_index_or}
use Rattle.std.specs.List.{list_any, range_with_len}
use Rattle.std.specs.Option.{option_map_or}
use Rattle.olap_meaning.specs.declared.CellValue.{CellValue}
use Rattle.olap_meaning.specs.declared.CellValue.TheVariants.{Empty, Whole, Hundredths}
use Rattle.olap_meaning.specs.declared.tables.Catalog.{Catalog}
use Rattle.olap_meaning.specs.declared.cells.Member.{Member}
use Rattle.query_meaning.specs.declared.axes.Axes.{Axes}
use Rattle.query_meaning.specs.declared.grids.Grid.{Grid}
use Rattle.query_meaning.specs.declared.grids.GridRow.{GridRow}
use Rattle.query_meaning.specs.Titles.{tuple_title}

-- the tuples of the rows; without a rows axis there is one row, of the tuple without members
abbrev pub row_tuples : Axes → List (List Member)
row_tuples axes = option_map_or (λ rows. rows.tuples) axes.rows ([] ∷ [])

-- the value of the cell in a row and a column. Cells are in order row by row, this many columns in each
abbrev pub value_at : ℕ → List CellValue → ℕ → ℕ → CellValue
value_at columns values row column = slice_index_or values (row * columns + column) Empty

-- a value is not empty
abbrev pub is_filled : CellValue → Bool
is_filled Empty = false
is_filled (Whole n) = true
is_filled (Hundredths n) = true

-- a column has a cell in some row that is not empty
abbrev pub is_column_filled : Axes → List CellValue → ℕ → Bool
is_column_filled axes values column =
    list_any
    (λ row. is_filled (value_at (length axes.columns.tuples) values row column))
    (range_with_len 0 (length (row_tuples axes)))

-- a row has a cell in some column that is not empty
abbrev pub is_row_filled : Axes → List CellValue → ℕ → Bool
is_row_filled axes values row =
    list_any
    (λ column. is_filled (value_at (length axes.columns.tuples) values row column))
    (range_with_len 0 (length axes.columns.tuples))

-- the places of the columns that are shown: all, or under NON EMPTY those that are not wholly empty
abbrev pub shown_columns : Axes → List CellValue → List ℕ
shown_columns axes values =
    filter
    (λ column. not axes.columns.non_empty || is_column_filled axes values column)
    (range_with_len 0 (length axes.columns.tuples))

-- a rows axis is NON EMPTY. The one row without a rows axis is no position, and always stays
abbrev pub are_rows_non_empty : Axes → Bool
are_rows_non_empty axes = option_map_or (λ rows. rows.non_empty) axes.rows false

-- the places of the rows that are shown: all, or under NON EMPTY those that are not wholly empty
abbrev pub shown_rows : Axes → List CellValue → List ℕ
shown_rows axes values =
    filter
    (λ row. not (are_rows_non_empty axes) || is_row_filled axes values row)
    (range_with_len 0 (length (row_tuples axes)))

-- the title of the tuple at a place
abbrev pub title_at : Catalog → ℕ → List (List Member) → ℕ → List ℕ
title_at catalog cube tuples place = tuple_title catalog cube (slice_index_or tuples place [])

-- the row of a grid at a place, with the values in some columns
abbrev pub grid_row : Catalog → Axes → List CellValue → List ℕ → ℕ → GridRow
grid_row catalog axes values columns row =
    record {
      title = title_at catalog axes.cube (row_tuples axes) row;
      values = map (value_at (length axes.columns.tuples) values row) columns;
    }

-- the grid of an answer's position and its values over the axes of a query: what is shown of them
abbrev pub grid_of : Catalog → Axes → ℕ → List CellValue → Grid
grid_of catalog axes position values =
    let columns = shown_columns axes values in
    record {
      position = position;
      columns = map (title_at catalog axes.cube axes.columns.tuples) columns;
      rows = map (grid_row catalog axes values columns) (shown_rows axes values);
    }
