-- The faults of a record by what a checker has.
use Rattle.std.specs.Prelude.{ℕ, List, Option, Some, None, if◌then◌else◌}
use Rattle.olap_meaning.specs.Records.{field_in}
use Rattle.agg_tables.specs.declared.declared.FileColumn.{FileColumn}
use Rattle.agg_tables.specs.declared.fault.AggFault.{AggFault}
use Rattle.agg_tables.specs.Files.{computed, differs, group_fault, group_rows, number_fault, says}
use Rattle.agg_tables.specs.Places.{CheckerOf}

-- the fault of one column of numbers
abbrev pub number_fault_at : CheckerOf → List (List ℕ) → ℕ → List ℕ → FileColumn → Option AggFault
number_fault_at of row n values column =
    let group = group_rows of.file.catalog of.file.declared of.rows values in
    let value = computed of.file.catalog of.file.declared group column in
    if says value (field_in of.file.header column.name row)
    then None else Some (differs of.file.header n row column.name value)

-- the first fault of some columns
abbrev pub numbers_fault : CheckerOf → List (List ℕ) → ℕ → List ℕ → List FileColumn
    → Option AggFault
numbers_fault of row n values columns =
    number_fault of.file.catalog of.file.declared of.file.header n row
    (group_rows of.file.catalog of.file.declared of.rows values) columns

-- the fault of a record by its values
abbrev pub values_fault : CheckerOf → List (List ℕ) → ℕ → List ℕ → Option AggFault
values_fault of row n values =
    group_fault of.file.catalog of.file.declared of.file.header n row
    (group_rows of.file.catalog of.file.declared of.rows values)
