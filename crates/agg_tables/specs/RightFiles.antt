-- What a right file of an aggregate table says, in whatever order its records stand. (Aggregate Tables)
use Rattle.std.specs.Prelude.{ℕ, ◌≡◌, pos, List, All, IsTrue, None, is_some, length, map}
use Rattle.std.specs.List.Sorted.{IsPermutation}
use Rattle.csv_records.specs.Files.{file_records}
use Rattle.olap_meaning.specs.declared.CellValue.TheVariants.{Whole}
use Rattle.olap_meaning.specs.declared.tables.Catalog.{Catalog}
use Rattle.olap_meaning.specs.declared.tables.Row.{Row}
use Rattle.olap_meaning.specs.Records.{field_in, header_of, is_csv, records_of}
use Rattle.agg_tables.specs.declared.declared.Declared.{Declared}
use Rattle.agg_tables.specs.Files.{computed, file_columns, file_fault, group_rows, header_fault, level_value, record_values, says}
use Rattle.agg_tables.specs.Tables.{groups_over}

-- the fact rows of a record's group: those with its values
abbrev pub record_rows : Catalog → Declared → List (List ℕ) → List Row → List (List ℕ) → List Row
record_rows catalog declared header rows row =
    group_rows catalog declared rows (record_values catalog declared header row)

-- a record says of its group what the fact rows give: each level has a value, the fact count is the number of the rows, and
-- each column of numbers has their aggregate
pub record IsGroupRecord (catalog : Catalog) (declared : Declared) (header : List (List ℕ))
    (rows : List Row) (row : List (List ℕ)) : Type 0 where
  pub csv : IsTrue (is_csv header row)
  pub known : All
      (λ level. IsTrue (is_some (level_value catalog header row level))) declared.levels
  pub count : IsTrue
      (says (Whole (pos (length (record_rows catalog declared header rows row))))
      (field_in header declared.fact_count row))
  pub numbers : All
      (λ column. IsTrue
      (says (computed catalog declared (record_rows catalog declared header rows row) column)
      (field_in header column.name row)))
      (file_columns declared.measures)

-- a file is that of a table over some fact rows: it has the columns, each group of the rows has one record, and each record
-- is one of a group
pub record IsRightFile (catalog : Catalog) (declared : Declared) (bytes : List ℕ)
    (rows : List Row) : Type 0 where
  pub header : header_fault declared (header_of (file_records bytes)) ≡ None
  pub groups : IsPermutation (groups_over catalog declared rows)
      (map (record_values catalog declared (header_of (file_records bytes)))
      (records_of (file_records bytes)))
  pub records : All (IsGroupRecord catalog declared (header_of (file_records bytes)) rows)
      (records_of (file_records bytes))

-- a file has no fault exactly where it is right
pub record RightFilesHaveNoFault : Type 0 where
  pub right : (catalog : Catalog) (declared : Declared) (bytes : List ℕ) (rows : List Row)
      → file_fault catalog bytes rows declared ≡ None
      → IsRightFile catalog declared bytes rows
  pub faultless : (catalog : Catalog) (declared : Declared) (bytes : List ℕ) (rows : List Row)
      → IsRightFile catalog declared bytes rows
      → file_fault catalog bytes rows declared ≡ None
