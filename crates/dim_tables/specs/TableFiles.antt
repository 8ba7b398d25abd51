-- What the file of a dimension's table says: its records, or its first fault. (Schema Guide)
use Rattle.std.specs.Prelude.{ℕ, suc, List, [], ◌∷◌, ◌++◌, not, Bool, Option, Some, None, Result, Ok, Err, length, map, nat_lt, option_map, if◌then◌else◌}
use Rattle.std.specs.List.{list_any, list_all}
use Rattle.csv_records.specs.Files.{file_records}
use Rattle.olap_meaning.specs.Limits.{record_limit}
use Rattle.olap_meaning.specs.Results.{unless}
use Rattle.olap_meaning.specs.declared.schema.SchemaDimension.{SchemaDimension}
use Rattle.olap_meaning.specs.declared.tables.Record.{Record}
use Rattle.olap_meaning.specs.Records.{header_of, records_of, missing_column, is_csv, field_in, is_null}
use Rattle.olap_meaning.specs.Schema.{levels_of}
use Rattle.catalog_tables.specs.Tables.{has_key}
use Rattle.dim_tables.specs.declared.fault.TableFault.{TableFault}
use Rattle.dim_tables.specs.declared.fault.TableFault.TheVariants.{NotCsv, NoColumn, KeyTwice, EmptyName, TooManyRows, NoMember}

-- the columns of the levels of a dimension, hierarchy by hierarchy
abbrev pub level_columns : SchemaDimension → List (List ℕ)
level_columns dimension = map (λ level. level.column) (levels_of dimension)

-- the columns that a dimension's table needs, in the order in which they are looked for
abbrev pub needed_columns : SchemaDimension → List (List ℕ)
needed_columns dimension = dimension.primary_key ∷ level_columns dimension

-- what is wrong with a header
abbrev pub header_fault : SchemaDimension → List (List ℕ) → Option TableFault
header_fault dimension header =
    if is_csv header header
    then option_map NoColumn (missing_column (needed_columns dimension) header) else Some (NotCsv 0)

-- the fields of a row in some columns
abbrev pub fields_in : List (List ℕ) → List (List ℕ) → List (List ℕ) → List (List ℕ)
fields_in header columns row = map (λ column. field_in header column row) columns

-- the record of the dimension that a row of the file is: its key, and a field for each level
abbrev pub record_of : SchemaDimension → List (List ℕ) → List (List ℕ) → Record
record_of dimension header row =
    record {
      key = field_in header dimension.primary_key row;
      fields = fields_in header (level_columns dimension) row;
    }

-- what is wrong with the row that follows some records. Rows are numbered from 1; the header has the number 0
abbrev pub row_fault : SchemaDimension → List (List ℕ) → List Record → List (List ℕ)
    → Option TableFault
row_fault dimension header before row =
    if not (is_csv header row) then Some (NotCsv (suc (length before)))
    else if nat_lt record_limit (suc (length before)) then Some (TooManyRows record_limit)
    else if has_key before (record_of dimension header row).key
    then Some (KeyTwice (suc (length before)))
    else if list_any is_null (record_of dimension header row).fields
    then Some (EmptyName (suc (length before)))
    else None

-- some records with those of the rows that follow them, or the first fault of these rows
abbrev pub records_with : SchemaDimension → List (List ℕ) → List Record → List (List (List ℕ))
    → Result (List Record) TableFault
records_with dimension header before [] = Ok before
records_with dimension header before (row ∷ rows) =
    unless (row_fault dimension header before row)
    (records_with dimension header (before ++ record_of dimension header row ∷ []) rows)

-- each hierarchy of a dimension has an all member
abbrev pub have_all : SchemaDimension → Bool
have_all dimension = list_all (λ hierarchy. hierarchy.has_all) dimension.hierarchies

-- without records, a hierarchy without an all member has no member
abbrev pub with_members : SchemaDimension → Result (List Record) TableFault
    → Result (List Record) TableFault
with_members dimension (Ok []) = if have_all dimension then Ok [] else Err NoMember
with_members dimension (Ok (first ∷ others)) = Ok (first ∷ others)
with_members dimension (Err fault) = Err fault

-- the records of a dimension's table, or the file's first fault, from the header down
abbrev pub table_of : SchemaDimension → List ℕ → Result (List Record) TableFault
table_of dimension bytes =
    let file = file_records bytes in
    unless (header_fault dimension (header_of file))
    (with_members dimension (records_with dimension (header_of file) [] (records_of file)))
