-- The one query that a file of facts is asked by itself: a column's aggregate over some of its records.
use Rattle.std.specs.Prelude.{ℕ, ◌+◌, ◌||◌, List, [], ◌∷◌, not, Bool, Option, Some, None, ℤ, Result, Ok, Err, nat_lt, map, filter, bytes_eq, is_some, option_map, if◌then◌else◌}
use Rattle.std.specs.List.{list_all}
use Rattle.std.specs.Option.{option_or}
use Rattle.olap_meaning.specs.declared.Aggregator.{Aggregator}
use Rattle.olap_meaning.specs.declared.CellValue.{CellValue}
use Rattle.olap_meaning.specs.Limits.{row_limit}
use Rattle.olap_meaning.specs.Records.{header_of, records_of, missing_column, is_csv, field_in, number, is_null}
use Rattle.olap_meaning.specs.Values.{aggregate}

-- the aggregate of a column over the records whose fields equal the pairs, each a column and a field
pub record FileQuery : Type 0 where
  pub column : List ℕ
  pub aggregator : Aggregator
  pub pairs : List (List ℕ × List ℕ)

-- what is wrong with a file. Records are numbered from 1; the header has the number 0.
pub data FileFault : Type 0 where
  not_csv : ℕ → FileFault
  no_column : List ℕ → FileFault
  not_number : ℕ → List ℕ → FileFault
  too_many_rows : ℕ → ℕ → FileFault

-- the columns that a query needs, in the order in which they are looked for
abbrev pub needed_columns : FileQuery → List (List ℕ)
needed_columns query = query.column ∷ map (λ pair. pair.0) query.pairs

-- what is wrong with a header
abbrev pub header_fault : FileQuery → List (List ℕ) → Option FileFault
header_fault query header =
    if is_csv header header then option_map no_column (missing_column (needed_columns query) header)
    else Some (not_csv 0)

-- what is wrong with a record of this number: also where the pairs leave it out, its field in the column is a number
-- or NULL
abbrev pub record_fault : FileQuery → List (List ℕ) → ℕ → List (List ℕ) → Option FileFault
record_fault query header n row =
    if not (is_csv header row) then Some (not_csv n)
    else if nat_lt row_limit n then Some (too_many_rows n row_limit)
    else if is_null (field_in header query.column row)
    || is_some (number (field_in header query.column row)) then None
    else Some (not_number n query.column)

-- the first fault of the records from this number on
abbrev pub first_fault : FileQuery → List (List ℕ) → ℕ → List (List (List ℕ)) → Option FileFault
first_fault query header n [] = None
first_fault query header n (row ∷ rows) =
    option_or (record_fault query header n row) (first_fault query header (n + 1) rows)

-- a record is asked for where its fields equal the pairs
abbrev pub is_asked : FileQuery → List (List ℕ) → List (List ℕ) → Bool
is_asked query header row =
    list_all (λ pair. bytes_eq pair.1 (field_in header pair.0 row)) query.pairs

-- the values of the column in the records that are asked for, in order: NULL where the field is empty
abbrev pub asked_values : FileQuery → List (List ℕ) → List (List (List ℕ)) → List (Option ℤ)
asked_values query header rows =
    map (λ row. number (field_in header query.column row)) (filter (is_asked query header) rows)

-- the value, where there is no fault
abbrev pub unless : Option FileFault → CellValue → Result CellValue FileFault
unless None value = Ok value
unless (Some fault) value = Err fault

-- the answer to a query: the aggregate, or the file's first fault from the header down
abbrev pub answer_of : FileQuery → List (List (List ℕ)) → Result CellValue FileFault
answer_of query file =
    let header = header_of file in
    unless (option_or (header_fault query header) (first_fault query header 1 (records_of file)))
    (aggregate query.aggregator (asked_values query header (records_of file)))
