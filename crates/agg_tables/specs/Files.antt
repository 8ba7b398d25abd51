-- What the file of an aggregate table has to say: the groups of its fact rows, or its first fault. (Aggregate Tables)
use Rattle.std.specs.Prelude.{ℕ, suc, ◌+◌, ◌^◌, ℤ, pos, neg_ℤ, List, [], ◌∷◌, ◌++◌, Bool, false, ◌==◌, ◌&&◌, not, nat_lt, Option, Some, None, option_and_then, option_map, is_some, find, length, map, filter, filter_map, flat_map, bytes_eq, if◌then◌else◌}
use Rattle.std.specs.List.{list_any}
use Rattle.std.specs.Option.{option_or, option_map_or}
use Rattle.std.specs.Ordering.{int_eq}
use Rattle.csv_records.specs.Files.{file_records}
use Rattle.olap_meaning.specs.declared.Aggregator.{Aggregator}
use Rattle.olap_meaning.specs.declared.Aggregator.TheVariants as by
use Rattle.olap_meaning.specs.declared.CellValue.{CellValue}
use Rattle.olap_meaning.specs.declared.CellValue.TheVariants.{Empty, Whole, Hundredths}
use Rattle.olap_meaning.specs.declared.tables.Catalog.{Catalog}
use Rattle.olap_meaning.specs.declared.tables.Row.{Row}
use Rattle.olap_meaning.specs.Catalog.{value_number}
use Rattle.olap_meaning.specs.History.{is_some_and}
use Rattle.olap_meaning.specs.Records.{digits_below, field_in, header_of, is_csv, is_null, missing_column, records_of}
use Rattle.olap_meaning.specs.Texts.{plain_text}
use Rattle.olap_meaning.specs.Values.{aggregate}
use Rattle.olap_meaning.specs.Whole.{is_average}
use Rattle.fact_reader.specs.BodyRows.{row_number}
use Rattle.agg_tables.specs.declared.declared.Declared.{Declared}
use Rattle.agg_tables.specs.declared.declared.FileColumn.{FileColumn}
use Rattle.agg_tables.specs.declared.declared.TableLevel.{TableLevel}
use Rattle.agg_tables.specs.declared.declared.TableMeasure.{TableMeasure}
use Rattle.agg_tables.specs.declared.fault.AggFault.{AggFault}
use Rattle.agg_tables.specs.declared.fault.AggFault.TheVariants.{NotCsv, NoColumn, UnknownValue, GroupTwice, Differs, GroupMissing}
use Rattle.agg_tables.specs.Declarations.{columns_below, declared_table}
use Rattle.agg_tables.specs.Tables.{groups_over, table_header, table_values}

-- a column of numbers: its name, and what is summed up in it
abbrev pub file_column : List ℕ → ℕ → Aggregator → FileColumn
file_column name measure aggregator =
    record { name = name; fold = record { measure = measure; aggregator = aggregator } }

-- the columns of a measure: an average has one with the sum and one with the number of values that are not NULL; any
-- other has one with what it is summed up to
abbrev pub columns_of : TableMeasure → List FileColumn
columns_of own =
    if is_average own.aggregator
    then file_column own.column own.measure by.Sum
    ∷ option_map_or
    (λ name. file_column name own.measure by.Count ∷ []) own.count_column []
    else file_column own.column own.measure own.aggregator ∷ []

-- the columns of all measures, in order
abbrev pub file_columns : List TableMeasure → List FileColumn
file_columns measures = flat_map columns_of measures

-- the columns that a file needs, in the order in which they are looked for
abbrev pub needed_columns : Declared → List (List ℕ)
needed_columns declared =
    map (λ level. level.name) declared.levels
    ++ declared.fact_count ∷ map (λ column. column.name) (file_columns declared.measures)

-- what is wrong with a header
abbrev pub header_fault : Declared → List (List ℕ) → Option AggFault
header_fault declared header =
    if is_csv header header
    then option_map NoColumn (missing_column (needed_columns declared) header)
    else Some (NotCsv 0)

-- the value that a record has in a level, by exact text
abbrev pub level_value : Catalog → List (List ℕ) → List (List ℕ) → TableLevel → Option ℕ
level_value catalog header row level =
    value_number catalog level.column (field_in header level.name row)

-- the first of some levels whose field in the record of this number is no value of its column
abbrev pub level_fault : Catalog → List (List ℕ) → ℕ → List (List ℕ) → List TableLevel
    → Option AggFault
level_fault catalog header n row [] = None
level_fault catalog header n row (level ∷ levels) =
    if is_some (level_value catalog header row level)
    then level_fault catalog header n row levels else Some (UnknownValue n level.name)

-- the value of a record in a column of the catalog: that in the level of this column
abbrev pub column_value : Catalog → Declared → List (List ℕ) → List (List ℕ) → ℕ → Option ℕ
column_value catalog declared header row column =
    option_and_then (level_value catalog header row)
    (find (λ level. level.column == column) declared.levels)

-- the values of a record on a table's columns
abbrev pub record_values : Catalog → Declared → List (List ℕ) → List (List ℕ) → List ℕ
record_values catalog declared header row =
    filter_map (column_value catalog declared header row)
    (columns_below declared.levels (length catalog.columns))

-- the fact rows of a group: those with its values
abbrev pub group_rows : Catalog → Declared → List Row → List ℕ → List Row
group_rows catalog declared rows values =
    filter (λ row. is_some_and (bytes_eq values) (table_values catalog declared row)) rows

-- what a column of numbers has to hold for a group: the aggregate of its measure over the fact rows of the group
abbrev pub computed : Catalog → Declared → List Row → FileColumn → CellValue
computed catalog declared group column =
    aggregate column.fold.aggregator
    (map (row_number catalog (table_header catalog declared column.fold.measure)) group)

-- the number of a field: a minus sign or none, and one or more ASCII digits, within 128 bits
abbrev pub wide_number : List ℕ → Option ℤ
wide_number [] = None
wide_number (c ∷ cs) =
    if c == 45 then option_map (λ n. neg_ℤ (pos n)) (digits_below (2 ^ 127 + 1) cs)
    else option_map pos (digits_below (2 ^ 127) (c ∷ cs))

-- a field says a value: it is empty where the value is, and else it is a number, and the value's
abbrev pub says : CellValue → List ℕ → Bool
says Empty field = is_null field
says (Whole n) field = is_some_and (int_eq n) (wide_number field)
says (Hundredths n) field = false

-- what differs in the record of this number in one column, where its field does not say the value
abbrev pub differs : List (List ℕ) → ℕ → List (List ℕ) → List ℕ → CellValue → AggFault
differs header n row name value =
    Differs n name (field_in header name row) (plain_text value)

-- the fault of the fact count: it differs where it is not the number of the group's rows, and where there is no such row,
-- whatever is stored
abbrev pub count_fault : Declared → List (List ℕ) → ℕ → List (List ℕ) → ℕ → Option AggFault
count_fault declared header n row count =
    if nat_lt 0 count && says (Whole (pos count)) (field_in header declared.fact_count row)
    then None else Some (differs header n row declared.fact_count (Whole (pos count)))

-- the first of some columns of numbers whose field does not say what the group's rows give
abbrev pub number_fault : Catalog → Declared → List (List ℕ) → ℕ → List (List ℕ) → List Row
    → List FileColumn → Option AggFault
number_fault catalog declared header n row group [] = None
number_fault catalog declared header n row group (column ∷ columns) =
    if says (computed catalog declared group column) (field_in header column.name row)
    then number_fault catalog declared header n row group columns
    else Some (differs header n row column.name (computed catalog declared group column))

-- what differs in a record from what the rows of its group give
abbrev pub group_fault : Catalog → Declared → List (List ℕ) → ℕ → List (List ℕ) → List Row
    → Option AggFault
group_fault catalog declared header n row group =
    option_or (count_fault declared header n row (length group))
    (number_fault catalog declared header n row group (file_columns declared.measures))

-- the fault of a record whose values an earlier record has
abbrev pub twice_fault : ℕ → List (List ℕ) → List ℕ → Option AggFault
twice_fault n seen values =
    if list_any (bytes_eq values) seen then Some (GroupTwice n) else None

-- what is wrong with a record of this number, after records with these values. Records are numbered from 1; the header
-- has the number 0
abbrev pub row_fault : Catalog → Declared → List (List ℕ) → List Row → ℕ → List (List ℕ)
    → List (List ℕ) → Option AggFault
row_fault catalog declared header rows n seen row =
    let values = record_values catalog declared header row in
    if not (is_csv header row) then Some (NotCsv n)
    else option_or (level_fault catalog header n row declared.levels)
    (option_or (twice_fault n seen values)
    (group_fault catalog declared header n row (group_rows catalog declared rows values)))

-- what is missing after the last record: there are fewer than the rows have groups
abbrev pub missing_fault : ℕ → ℕ → Option AggFault
missing_fault stored groups =
    if nat_lt stored groups then Some (GroupMissing stored groups) else None

-- the first fault of some records, after records with these values
abbrev pub records_fault : Catalog → Declared → List (List ℕ) → List Row → List (List ℕ)
    → List (List (List ℕ)) → Option AggFault
records_fault catalog declared header rows seen [] =
    missing_fault (length seen) (length (groups_over catalog declared rows))
records_fault catalog declared header rows seen (row ∷ records) =
    option_or (row_fault catalog declared header rows (suc (length seen)) seen row)
    (records_fault catalog declared header rows
    (seen ++ record_values catalog declared header row ∷ []) records)

-- the first fault of the header and the records of a table's file over some fact rows, from the header down
abbrev pub fault_among : Catalog → List (List (List ℕ)) → List Row → Declared → Option AggFault
fault_among catalog file rows declared =
    option_or (header_fault declared (header_of file))
    (records_fault catalog declared (header_of file) rows [] (records_of file))

-- the first fault of a table's file
abbrev pub file_fault : Catalog → List ℕ → List Row → Declared → Option AggFault
file_fault catalog bytes rows declared = fault_among catalog (file_records bytes) rows declared

-- the same of the table at a place of the schema
abbrev pub check_fault : Catalog → ℕ → List ℕ → List Row → Option AggFault
check_fault catalog table bytes rows =
    option_and_then (file_fault catalog bytes rows) (declared_table catalog table)
