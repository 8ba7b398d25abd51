-- What the trees of a catalog's members are built from: the tables of its dimensions and their columns.
use Rattle.std.specs.Prelude.{◌≡◌, true, List, [], length}
use Rattle.std.specs.List.{list_all}
use Rattle.olap_meaning.specs.declared.schema.Schema.{Schema}
use Rattle.olap_meaning.specs.declared.tables.Column.{Column}
use Rattle.olap_meaning.specs.declared.tables.Catalog.{Catalog}
use Rattle.catalog_tables.specs.Tables.{TableOf, have_fields}
use Rattle.olap_catalog.specs.Parts.{plain, is_column}

-- the catalog of some tables and columns, with no hierarchy and no cube
abbrev pub over : Schema → List TableOf → List Column → Catalog
over schema tables columns = plain schema tables columns [] []

-- there is a table for each dimension of a schema, each record has its table's fields, and the columns are such fields
pub record AreTables (schema : Schema) (tables : List TableOf) (columns : List Column)
    : Type 0 where
  pub paired : length tables ≡ length schema.dimensions
  pub even : list_all (λ t. have_fields t.levels t.records) tables ≡ true
  pub columned : list_all (is_column tables) columns ≡ true
