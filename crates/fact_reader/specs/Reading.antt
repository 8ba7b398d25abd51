-- How rows are read for a header.
use Rattle.std.specs.Prelude.{ℕ, ◌≡◌, List, [], IsTrue, Option, Some, map, option_and_then, position, bytes_eq, ◌==◌, slice_get, slice_index_or}
use Rattle.olap_meaning.specs.declared.cells.Header.{Header}
use Rattle.olap_meaning.specs.declared.tables.Catalog.{Catalog}
use Rattle.olap_meaning.specs.declared.tables.Row.{Row}
use Rattle.olap_meaning.specs.Catalog.{fact_columns}
use Rattle.fact_versions.specs.FactRows.{FactRows}
use Rattle.olap_catalog.specs.Columns.{column_texts}
use Rattle.segment_header.specs.Headers.{is_header}
use Rattle.segment_body.specs.BodyOf.{BodyOf}
use Rattle.fact_reader.specs.BodyRows.{is_loadable, header_measure}

-- the row of a batch at a place
abbrev pub row_at : FactRows → ℕ → Row
row_at batch i = slice_index_or batch.rows i (record { leaves = []; values = [] })

-- the place of a column's dimension among those of a cube
abbrev pub place_of : Catalog → ℕ → ℕ → Option ℕ
place_of catalog cube column =
    option_and_then
    (λ own. option_and_then
    (λ c. position (λ d. d == own.dimension) c.dimensions) (slice_get catalog.cubes cube))
    (slice_get catalog.columns column)

-- the place of a header's measure among the fact columns of its cube
abbrev pub fact_place : Catalog → Header → Option ℕ
fact_place catalog header =
    option_and_then
    (λ measure. option_and_then
    (λ c. position (bytes_eq measure.column) (fact_columns c))
    (slice_get catalog.cubes header.cube)) (header_measure catalog header)

-- what reads rows for a header
pub record ReaderOf : Type 0 where
  pub catalog : Catalog
  pub header : Header

-- a header that can be loaded, the place and the texts of each of its columns, and the place of its measure
pub record IsReader (catalog : Catalog) (header : Header) (places : List ℕ)
    (texts : List (List (List ℕ))) (place : ℕ) : Type 0 where
  pub header_holds : IsTrue (is_header header)
  pub loadable : IsTrue (is_loadable catalog header)
  pub placed : map Some places
      ≡ map (λ column. place_of catalog header.cube column.0) header.columns
  pub told : texts ≡ map (λ column. column_texts catalog column.0) header.columns
  pub numbered : fact_place catalog header ≡ Some place

-- what reads rows for a body
abbrev pub reader_of : Catalog → BodyOf → ReaderOf
reader_of catalog body = record { catalog = catalog; header = body.header }
