-- What the cache is that a schema's file opens, and which files it takes for that, or the first fault. (Schema Guide;
-- Aggregate Tables)
use Rattle.std.specs.Prelude.{ℕ, zero, suc, ◌+◌, ◌≤◌, ◌≡◌, ◌⊎◌, List, [], ◌∷◌, ◌++◌, length, Option, Some, None, Result, Ok, Err, is_some, nat_lt, slice_index_or, if◌then◌else◌}
use Rattle.std.specs.Option.{option_map_or}
use Rattle.olap_meaning.specs.declared.schema.Schema.{Schema}
use Rattle.olap_meaning.specs.declared.schema.SchemaAggregate.{SchemaAggregate}
use Rattle.olap_meaning.specs.declared.schema.SchemaCube.{SchemaCube}
use Rattle.olap_meaning.specs.declared.schema.SchemaDimension.{SchemaDimension}
use Rattle.olap_meaning.specs.declared.tables.Catalog.{Catalog}
use Rattle.olap_meaning.specs.declared.tables.Record.{Record}
use Rattle.olap_meaning.specs.declared.tables.Row.{Row}
use Rattle.olap_meaning.specs.Catalog.{table_cube}
use Rattle.olap_meaning.specs.History.{Entry, Append, Agg}
use Rattle.olap_meaning.specs.Limits.{row_limit}
use Rattle.olap_meaning.specs.Schema.{catalog_of}
use Rattle.outside.specs.Fetched.{Fetched}
use Rattle.outside.specs.Told.{Files, file_named}
use Rattle.cube_schema.specs.Schemas.{schema_of}
use Rattle.dim_tables.specs.TableFiles.{table_of}
use Rattle.fact_versions.specs.FactRows.{FactRows}
use Rattle.fact_rows.specs.BatchFiles.{batch_of}
use Rattle.agg_tables.specs.declared.fault.AggFault.{AggFault}
use Rattle.agg_tables.specs.Files.{check_fault}
use Rattle.history_core.specs.History.{setting_of}
use Rattle.history_core.specs.Cache.{CacheOf}
use Rattle.cache_opening.specs.declared.fault.OpenFault.{OpenFault}
use Rattle.cache_opening.specs.declared.fault.OpenFault.TheVariants as fault
use Rattle.cache_opening.specs.Asking.{Asking, made, refused, ask, ◌>>=◌, Leads, bytes_of, read_by}

-- the schema of a file
unfoldable pub schema_from : List ℕ → Asking Schema
schema_from file = do
  bytes ← bytes_of file
  read_by fault.Schema (schema_of bytes)

-- the records of a dimension's table
unfoldable pub table_from : SchemaDimension → Asking (List Record)
table_from dimension = do
  bytes ← bytes_of dimension.table
  read_by (fault.Table dimension.table) (table_of dimension bytes)

-- the records of the tables of some dimensions, in order
unfoldable pub tables_from : List SchemaDimension → Asking (List (List Record))
tables_from [] = made []
tables_from (dimension ∷ dimensions) = do
  table ← table_from dimension
  tables ← tables_from dimensions
  made (table ∷ tables)

-- the catalog of a schema's file, with the tables that the schema names
unfoldable pub catalog_from : List ℕ → Asking Catalog
catalog_from file = do
  schema ← schema_from file
  tables ← tables_from schema.dimensions
  made (catalog_of schema tables)

-- the rows of this file must fit beside this many others
abbrev pub fitting : List ℕ → ℕ → List Row → Asking (List Row)
fitting file held rows =
    if nat_lt row_limit (held + length rows)
    then refused (fault.TooManyRows file (held + length rows) row_limit) else made rows

-- the base batch of the cube of this number
unfoldable pub facts_from : Catalog → ℕ → SchemaCube → Asking FactRows
facts_from catalog cube c = do
  bytes ← bytes_of c.fact
  read_by (fault.Batch c.fact) (batch_of catalog cube bytes)

-- the rows of the base batch of the cube of this number, beside this many others
unfoldable pub batch_from : Catalog → ℕ → ℕ → SchemaCube → Asking (List Row)
batch_from catalog cube held c = do
  batch ← facts_from catalog cube c
  fitting c.fact held batch.rows

-- the rows of the base batches of some cubes, numbered from one on, beside this many others
unfoldable pub batches_from : Catalog → ℕ → ℕ → List SchemaCube → Asking (List (List Row))
batches_from catalog cube held [] = made []
batches_from catalog cube held (c ∷ cs) = do
  rows ← batch_from catalog cube held c
  batches ← batches_from catalog (suc cube) (held + length rows) cs
  made (rows ∷ batches)

-- what a cache has before its aggregate tables: its catalog, and the rows of the base batch of each cube
pub record Base : Type 0 where
  pub catalog : Catalog
  pub batches : List (List Row)

-- what a schema's file opens before the aggregate tables: first the schema is asked for, then the tables of the
-- dimensions, then the base batches
unfoldable pub base_from : List ℕ → Asking Base
base_from file = do
  catalog ← catalog_from file
  batches ← batches_from catalog 0 0 catalog.schema.cubes
  made (record { catalog = catalog; batches = batches })

-- the rows of the base batch of an aggregate table's cube, by the table's place in the schema: they are the cube's
-- version 1
abbrev pub base_rows : Catalog → List (List Row) → ℕ → List Row
base_rows catalog batches table =
    option_map_or (λ cube. slice_index_or batches cube []) (table_cube catalog table) []

-- the place of an aggregate table alone, unless its file has this fault
abbrev pub unless_fault : ℕ → Option AggFault → Result (List ℕ) AggFault
unless_fault table None = Ok (table ∷ [])
unless_fault table (Some why) = Err why

-- the aggregate table at this place of the schema, where the bytes of its file are right over the base batch of its
-- cube, or else their first fault (Aggregate Tables; here no file is believed)
abbrev pub table_in : Base → ℕ → List ℕ → Result (List ℕ) AggFault
table_in base table bytes =
    unless_fault table
    (check_fault base.catalog table bytes (base_rows base.catalog base.batches table))

-- the aggregate table at this place of the schema, by the name of its file
unfoldable pub check_from : Base → ℕ → List ℕ → Asking (List ℕ)
check_from base table file = do
  bytes ← bytes_of file
  read_by (fault.Aggregate file) (table_in base table bytes)

-- the same where it has a file; where it has none, nothing is asked for, and there is no table
abbrev pub checked_from : Base → ℕ → Option (List ℕ) → Asking (List ℕ)
checked_from base table None = made []
checked_from base table (Some file) = check_from base table file

-- the places of those of some aggregate tables that have a file, from this place of the schema on: each file is asked
-- for, and must be right
unfoldable pub checks_from : Base → ℕ → List SchemaAggregate → Asking (List ℕ)
checks_from base table [] = made []
checks_from base table (own ∷ owns) = do
  first ← checked_from base table own.file
  others ← checks_from base (suc table) owns
  made (first ++ others)

-- what a cache is opened with: its catalog, the rows of the base batch of each cube, and the places of the aggregate
-- tables that have a file
pub record Opening : Type 0 where
  pub catalog : Catalog
  pub batches : List (List Row)
  pub tables : List ℕ

-- what a schema's file opens: first its base is asked for, then the files of the aggregate tables
unfoldable pub opening_from : List ℕ → Asking Opening
opening_from file = do
  base ← base_from file
  tables ← checks_from base 0 base.catalog.schema.aggregates
  made (record { catalog = base.catalog; batches = base.batches; tables = tables })

-- what is made of the file of this name, which must be there
abbrev pub of_file : {A : Type 0} → List ℕ → (List ℕ → Result A OpenFault) → Option (List ℕ)
    → Result A OpenFault
of_file name rest None = Err (fault.NoFile name)
of_file name rest (Some bytes) = rest bytes

-- what is made where all files are told: each file that is asked for is the one of its name, and must be there
abbrev pub in_files : {A : Type 0} → Files → Asking A → Result A OpenFault
in_files files (made x) = Ok x
in_files files (refused fault) = Err fault
in_files files (ask name rest) =
    of_file name (λ bytes. in_files files (rest bytes)) (file_named files name)

-- what a schema's file opens where all files are told, or the first fault
abbrev pub opening_of : Files → List ℕ → Result Opening OpenFault
opening_of files file = in_files files (opening_from file)

-- the entries of base batches, from the one of this cube on: each is an append by seat 0, numbered from 1, and makes
-- its cube's version 1
abbrev pub base_entries : ℕ → List (List Row) → List Entry
base_entries cube [] = []
base_entries cube (rows ∷ batches) =
    Append (record { seat = 0; call = suc cube }) cube 1 rows ∷ base_entries (suc cube) batches

-- the entries of aggregate tables after this many calls: each is by seat 0, numbered on, and over version 1 of its
-- table's cube
abbrev pub agg_entries : ℕ → List ℕ → List Entry
agg_entries calls [] = []
agg_entries calls (table ∷ tables) =
    Agg (record { seat = 0; call = suc calls }) table 1 ∷ agg_entries (suc calls) tables

-- the entries of an opened cache: its base batches, and then its aggregate tables
abbrev pub opened_entries : List (List Row) → List ℕ → List Entry
opened_entries batches tables = base_entries 0 batches ++ agg_entries (length batches) tables

-- how many rows an aggregate table is checked over: those of the base batch of its cube, where it has a file
abbrev pub rows_for : Catalog → List (List Row) → ℕ → SchemaAggregate → ℕ
rows_for catalog batches table own =
    if is_some own.file then length (base_rows catalog batches table) else 0

-- how many rows some aggregate tables are checked over, from this place of the schema on
abbrev pub rows_from : Catalog → List (List Row) → ℕ → List SchemaAggregate → ℕ
rows_from catalog batches table [] = 0
rows_from catalog batches table (own ∷ owns) =
    rows_for catalog batches table own + rows_from catalog batches (suc table) owns

-- how many rows all aggregate tables of a schema are checked over
abbrev pub rows_checked : Catalog → List (List Row) → ℕ
rows_checked catalog batches = rows_from catalog batches 0 catalog.schema.aggregates

-- how many files came among some answers
abbrev pub files_came : List Fetched → ℕ
files_came [] = 0
files_came ((name, Ok bytes) ∷ answers) = suc (files_came answers)
files_came ((name, Err refusal) ∷ answers) = files_came answers

-- how many rows some aggregate tables are checked over, from this place of the schema on, where this many of their files
-- came
abbrev pub rows_come : Catalog → List (List Row) → ℕ → List SchemaAggregate → ℕ → ℕ
rows_come catalog batches table [] came = 0
rows_come catalog batches table (own ∷ owns) zero = 0
rows_come catalog batches table (own ∷ owns) (suc came) =
    rows_for catalog batches table own
    + rows_come catalog batches (suc table) owns (if is_some own.file then came else suc came)

-- a manager is opened from a schema's file with a budget, the most groups that the kept loads have after an answer: between two
-- states of a depot just those answers came that lead to the opening; the manager has its catalog and this budget, and in its
-- history just its base batches and its aggregate tables
pub record IsOpened (files : Option Files) (before after : List Fetched) (file : List ℕ)
    (budget : ℕ) (manager : CacheOf) : Type 0 where
  pub opening : Opening
  pub read : Leads files before after (opening_from file) (Ok opening)
  pub setting : manager.setting ≡ setting_of opening.catalog row_limit budget
  pub entries : manager.entries ≡ opened_entries opening.batches opening.tables

-- the base of an opening was read, and after it at most as many steps were added as there are rows that those of its
-- aggregate tables are checked over whose files came
pub record HasBase (files : Option Files) (before after : List Fetched) (file : List ℕ)
    (steps_before steps_after : ℕ) : Type 0 where
  pub base : Base
  pub middle : List Fetched
  pub read : Leads files before middle (base_from file) (Ok base)
  pub more : List Fetched
  pub behind : after ≡ middle ++ more
  pub steps : steps_after ≤ steps_before
      + rows_come base.catalog base.batches 0 base.catalog.schema.aggregates (files_came more)

-- a refused opening adds few steps: none where its base was not read
abbrev pub AddsFewSteps : Option Files → List Fetched → List Fetched → List ℕ → ℕ → ℕ → Type 0
AddsFewSteps files before after file steps_before steps_after =
    (steps_after ≡ steps_before) ⊎ HasBase files before after file steps_before steps_after
