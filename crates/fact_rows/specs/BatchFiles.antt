-- What the file of a batch says: fact rows of one cube, or its first fault. (Schema Guide)
use Rattle.std.specs.Prelude.{◌≡◌, ◌||◌, ℕ, suc, ℤ, List, [], ◌∷◌, ◌++◌, not, Option, Some, None, Result, Ok, Err, length, map, filter_map, is_some, option_map, slice_get, if◌then◌else◌}
use Rattle.std.specs.List.{zip}
use Rattle.std.specs.Option.{option_or, option_map_or}
use Rattle.csv_records.specs.Files.{file_records}
use Rattle.fact_versions.specs.FactRows.{FactRows}
use Rattle.olap_meaning.specs.Results.{unless}
use Rattle.olap_meaning.specs.declared.schema.SchemaUse.{SchemaUse}
use Rattle.olap_meaning.specs.declared.tables.Catalog.{Catalog}
use Rattle.olap_meaning.specs.declared.tables.Row.{Row}
use Rattle.olap_meaning.specs.Catalog.{fact_columns, find_leaf}
use Rattle.olap_meaning.specs.Records.{header_of, records_of, missing_column, is_csv, field_in, number, is_null}
use Rattle.fact_rows.specs.declared.fault.BatchFault.{BatchFault}
use Rattle.fact_rows.specs.declared.fault.BatchFault.TheVariants.{NotCsv, NoColumn, UnknownKey, NotNumber}

-- the uses of a cube, as the schema has them
abbrev pub uses_of : Catalog → ℕ → List SchemaUse
uses_of catalog cube = option_map_or (λ c. c.dimensions) (slice_get catalog.schema.cubes cube) []

-- the dimensions of a cube, which its uses name
abbrev pub dimensions_of : Catalog → ℕ → List ℕ
dimensions_of catalog cube = option_map_or (λ c. c.dimensions) (slice_get catalog.cubes cube) []

-- each use of a cube has its dimension
abbrev pub HasDimensions : Catalog → ℕ → Type 0
HasDimensions catalog cube = length (uses_of catalog cube) ≡ length (dimensions_of catalog cube)

-- the foreign keys of a cube: each a column of its batches, and the dimension whose keys it holds
abbrev pub foreign_keys : Catalog → ℕ → List (List ℕ × ℕ)
foreign_keys catalog cube =
    zip (map (λ used. used.foreign_key) (uses_of catalog cube)) (dimensions_of catalog cube)

-- the columns of a cube's measures, in order
abbrev pub measure_columns : Catalog → ℕ → List (List ℕ)
measure_columns catalog cube =
    option_map_or
    (λ c. map (λ measure. measure.column) c.measures) (slice_get catalog.cubes cube) []

-- the fact columns of a cube
abbrev pub number_columns : Catalog → ℕ → List (List ℕ)
number_columns catalog cube = option_map_or fact_columns (slice_get catalog.cubes cube) []

-- the columns that a batch needs, in the order in which they are looked for
abbrev pub needed_columns : Catalog → ℕ → List (List ℕ)
needed_columns catalog cube =
    map (λ used. used.foreign_key) (uses_of catalog cube) ++ measure_columns catalog cube

-- what is wrong with a header
abbrev pub header_fault : Catalog → ℕ → List (List ℕ) → Option BatchFault
header_fault catalog cube header =
    if is_csv header header
    then option_map NoColumn (missing_column (needed_columns catalog cube) header)
    else Some (NotCsv 0)

-- the first of some foreign keys whose field in the record of this number is no key of its dimension's table
abbrev pub key_fault : Catalog → List (List ℕ) → ℕ → List (List ℕ) → List (List ℕ × ℕ)
    → Option BatchFault
key_fault catalog header n row [] = None
key_fault catalog header n row (key ∷ keys) =
    if is_some (find_leaf catalog key.1 (field_in header key.0 row))
    then key_fault catalog header n row keys else Some (UnknownKey n key.0)

-- the first of some columns whose field in the record of this number is neither empty nor a number
abbrev pub number_fault : List (List ℕ) → ℕ → List (List ℕ) → List (List ℕ) → Option BatchFault
number_fault header n row [] = None
number_fault header n row (column ∷ columns) =
    if is_null (field_in header column row) || is_some (number (field_in header column row))
    then number_fault header n row columns else Some (NotNumber n column)

-- what is wrong with a record of this number. Records are numbered from 1; the header has the number 0
abbrev pub row_fault : Catalog → ℕ → List (List ℕ) → ℕ → List (List ℕ) → Option BatchFault
row_fault catalog cube header n row =
    if not (is_csv header row) then Some (NotCsv n)
    else option_or (key_fault catalog header n row (foreign_keys catalog cube))
    (number_fault header n row (number_columns catalog cube))

-- the leaves that a record's foreign keys mean
abbrev pub leaves_in : Catalog → List (List ℕ) → List (List ℕ) → List (List ℕ × ℕ) → List ℕ
leaves_in catalog header row keys =
    filter_map (λ key. find_leaf catalog key.1 (field_in header key.0 row)) keys

-- the numbers of a record in some columns: NULL where the field is empty
abbrev pub numbers_in : List (List ℕ) → List (List ℕ) → List (List ℕ) → List (Option ℤ)
numbers_in header row columns = map (λ column. number (field_in header column row)) columns

-- the fact row of a record
abbrev pub row_of : Catalog → ℕ → List (List ℕ) → List (List ℕ) → Row
row_of catalog cube header row =
    record {
      leaves = leaves_in catalog header row (foreign_keys catalog cube);
      values = numbers_in header row (number_columns catalog cube);
    }

-- some fact rows with those of the records that follow them, or the first fault of these records
abbrev pub rows_with : Catalog → ℕ → List (List ℕ) → List Row → List (List (List ℕ))
    → Result (List Row) BatchFault
rows_with catalog cube header before [] = Ok before
rows_with catalog cube header before (row ∷ rows) =
    unless (row_fault catalog cube header (suc (length before)) row)
    (rows_with catalog cube header (before ++ row_of catalog cube header row ∷ []) rows)

-- fact rows of a cube: a leaf for each of its dimensions, and a number or NULL for each of its fact columns
abbrev pub of_cube : Catalog → ℕ → Result (List Row) BatchFault → Result FactRows BatchFault
of_cube catalog cube (Ok rows) =
    Ok (record {
      dimensions = length (dimensions_of catalog cube);
      columns = length (number_columns catalog cube);
      rows = rows;
    })
of_cube catalog cube (Err fault) = Err fault

-- the fact rows of a batch, or the file's first fault, from the header down
abbrev pub batch_of : Catalog → ℕ → List ℕ → Result FactRows BatchFault
batch_of catalog cube bytes =
    let file = file_records bytes in
    unless (header_fault catalog cube (header_of file))
    (of_cube catalog cube (rows_with catalog cube (header_of file) [] (records_of file)))
