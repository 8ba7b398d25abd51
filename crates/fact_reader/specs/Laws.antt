-- What a catalog says of rows.
use Rattle.std.specs.Prelude.{ℕ, ◌≡◌, Some, IsTrue, slice_get}
use Rattle.olap_meaning.specs.declared.tables.Catalog.{Catalog}
use Rattle.olap_meaning.specs.declared.tables.Cube.{Cube}
use Rattle.olap_meaning.specs.declared.tables.Row.{Row}
use Rattle.olap_meaning.specs.Legal.{is_column_of, is_row}
use Rattle.fact_reader.specs.BodyRows.{is_valued}

-- in a catalog, each row of a cube has one of a column's values in each column of the cube's dimensions
abbrev pub RowsAreValued : Catalog → Type 0
RowsAreValued catalog =
    (cube : ℕ) (own : Cube) (row : Row) (column : ℕ) → slice_get catalog.cubes cube ≡ Some own
    → IsTrue (is_row catalog cube row) → IsTrue (is_column_of catalog own.dimensions column)
    → IsTrue (is_valued catalog cube row column)
