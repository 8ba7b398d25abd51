-- The lines that tell what is wrong with the files of a schema. Numbers are in decimal.
use Rattle.std.specs.Prelude.{ℕ, List, ◌++◌, codes}
use Rattle.std.specs.Fmt.{decimal}
use Rattle.olap_meaning.specs.Texts.{line, name_text}
use Rattle.agg_tables.specs.declared.fault.AggFault.{AggFault}
use Rattle.agg_tables.specs.declared.fault.AggFault.TheVariants as aggregate
use Rattle.cube_schema.specs.Places.{place_text}
use Rattle.cube_schema.specs.declared.fault.SchemaFault.{SchemaFault}
use Rattle.cube_schema.specs.declared.fault.SchemaFault.TheVariants as schema
use Rattle.cube_schema.specs.declared.place.SchemaPlace.{SchemaPlace}
use Rattle.dim_tables.specs.declared.fault.TableFault.{TableFault}
use Rattle.dim_tables.specs.declared.fault.TableFault.TheVariants as table
use Rattle.fact_rows.specs.declared.fault.BatchFault.{BatchFault}
use Rattle.fact_rows.specs.declared.fault.BatchFault.TheVariants as batch
use Rattle.fact_versions.specs.declared.faults.AppendFault.{AppendFault}
use Rattle.fact_versions.specs.declared.faults.AppendFault.TheVariants as append

-- a record is none of its header's
abbrev pub not_csv_text : ℕ → List ℕ
not_csv_text row = codes "NOT CSV " ++ decimal row

-- a header has no column of this name
abbrev pub no_column_text : List ℕ → List ℕ
no_column_text name = codes "NO COLUMN " ++ name_text name

-- a record's field in a column is no key
abbrev pub unknown_key_text : ℕ → List ℕ → List ℕ
unknown_key_text row column = codes "UNKNOWN KEY " ++ decimal row ++ codes " " ++ name_text column

-- a record's field in a column is neither empty nor a number
abbrev pub not_number_text : ℕ → List ℕ → List ℕ
not_number_text row column = codes "NOT NUMBER " ++ decimal row ++ codes " " ++ name_text column

-- there are this many rows, where the limit are the most
abbrev pub too_many_rows_text : ℕ → ℕ → List ℕ
too_many_rows_text total limit =
    codes "TOO MANY ROWS " ++ (decimal total ++ (codes " " ++ decimal limit))

-- a label and a place of a schema
abbrev pub placed_text : List ℕ → SchemaPlace → List ℕ
placed_text label place = label ++ codes " " ++ place_text place

-- a list of a schema is too long
abbrev pub too_many_text : SchemaPlace → ℕ → ℕ → List ℕ
too_many_text place count limit =
    placed_text (codes "TOO MANY") place ++ codes " " ++ decimal count ++ codes " " ++ decimal limit

-- what is told of a fault of a schema
abbrev pub schema_text : SchemaFault → List ℕ
schema_text schema.NotJson = codes "NOT JSON"
schema_text (schema.Missing place) = placed_text (codes "MISSING") place
schema_text (schema.WrongKind place) = placed_text (codes "KIND") place
schema_text (schema.TooMany place count limit) = too_many_text place count limit
schema_text (schema.TwiceNamed place) = placed_text (codes "TWICE") place
schema_text (schema.UnknownAggregator place) = placed_text (codes "AGGREGATOR") place
schema_text (schema.UnknownDimension place) = placed_text (codes "DIMENSION") place
schema_text (schema.UnknownLevel place) = placed_text (codes "LEVEL") place
schema_text (schema.UnknownMeasure place) = placed_text (codes "MEASURE") place
schema_text schema.OutOfMemory = codes "MEMORY"

-- the line of a schema's fault
abbrev pub schema_line : SchemaFault → List ℕ
schema_line fault = line (codes "SCHEMA " ++ schema_text fault)

-- what is told of a fault of a dimension's table
abbrev pub table_text : TableFault → List ℕ
table_text (table.NotCsv row) = not_csv_text row
table_text (table.NoColumn name) = no_column_text name
table_text (table.KeyTwice row) = codes "KEY TWICE " ++ decimal row
table_text (table.EmptyName row) = codes "EMPTY NAME " ++ decimal row
table_text (table.TooManyRows limit) = codes "TOO MANY ROWS " ++ decimal limit
table_text table.NoMember = codes "NO MEMBER"
table_text table.OutOfMemory = codes "MEMORY"

-- the line of a fault of a table's file
abbrev pub table_line : List ℕ → TableFault → List ℕ
table_line file fault = line (codes "TABLE " ++ name_text file ++ codes " " ++ table_text fault)

-- the line of a file of facts and what is told of it
abbrev pub fact_line : List ℕ → List ℕ → List ℕ
fact_line file told = line (codes "FACT " ++ name_text file ++ codes " " ++ told)

-- what is told of a fault of a batch
abbrev pub batch_text : BatchFault → List ℕ
batch_text (batch.NotCsv row) = not_csv_text row
batch_text (batch.NoColumn name) = no_column_text name
batch_text (batch.UnknownKey row column) = unknown_key_text row column
batch_text (batch.NotNumber row column) = not_number_text row column
batch_text batch.OutOfMemory = codes "MEMORY"

-- the line of a fault of a batch's file
abbrev pub batch_line : List ℕ → BatchFault → List ℕ
batch_line file fault = fact_line file (batch_text fault)

-- the line of a batch's file with more rows than fit
abbrev pub rows_line : List ℕ → ℕ → ℕ → List ℕ
rows_line file total limit = fact_line file (too_many_rows_text total limit)

-- a record's field in a level's column is no value of the level
abbrev pub unknown_value_text : ℕ → List ℕ → List ℕ
unknown_value_text row column =
    codes "UNKNOWN VALUE " ++ decimal row ++ codes " " ++ name_text column

-- a record's field in a column is this, where the fact rows give that
abbrev pub differs_text : ℕ → List ℕ → List ℕ → List ℕ → List ℕ
differs_text row column stored computed =
    codes "DIFFERS " ++ decimal row ++ codes " " ++ name_text column
    ++ codes " " ++ name_text stored ++ codes " " ++ name_text computed

-- a number, written as a name is
abbrev pub number_text : ℕ → List ℕ
number_text number = name_text (decimal number)

-- what is told of a fault of an aggregate table's file
abbrev pub aggregate_text : AggFault → List ℕ
aggregate_text (aggregate.NotCsv row) = not_csv_text row
aggregate_text (aggregate.NoColumn name) = no_column_text name
aggregate_text (aggregate.UnknownValue row column) = unknown_value_text row column
aggregate_text (aggregate.GroupTwice row) = codes "GROUP TWICE " ++ decimal row
aggregate_text (aggregate.Differs row column stored computed) =
    differs_text row column stored computed
aggregate_text (aggregate.GroupMissing stored computed) =
    codes "GROUP MISSING " ++ number_text stored ++ codes " " ++ number_text computed
aggregate_text aggregate.OutOfMemory = codes "MEMORY"

-- the line of a fault of an aggregate table's file
abbrev pub aggregate_line : List ℕ → AggFault → List ℕ
aggregate_line file fault =
    line (codes "AGGREGATE " ++ name_text file ++ codes " " ++ aggregate_text fault)

-- what a reply tells of a batch whose file has a fault
abbrev pub refused_batch_text : BatchFault → List ℕ
refused_batch_text (batch.NotCsv row) = not_csv_text row
refused_batch_text (batch.NoColumn name) = no_column_text name
refused_batch_text (batch.UnknownKey row column) =
    codes "KEY " ++ decimal row ++ codes " " ++ name_text column
refused_batch_text (batch.NotNumber row column) =
    codes "NUMBER " ++ decimal row ++ codes " " ++ name_text column
refused_batch_text batch.OutOfMemory = codes "MEMORY"

-- what a reply tells of a batch that does not fit after those before it
abbrev pub refused_append_text : AppendFault → List ℕ
refused_append_text (append.TooManyRows total limit) =
    codes "ROWS " ++ (decimal total ++ (codes " " ++ decimal limit))
refused_append_text (append.TooManyVersions limit) = codes "VERSIONS " ++ decimal limit
refused_append_text append.OutOfMemory = codes "MEMORY"
