-- What the steps of an opening know of one another.
use Rattle.std.specs.Prelude.{ℕ, zero, suc, ◌+◌, ◌<◌, ◌≤◌, ◌≡◌, ◌⊎◌, List, [], ◌∷◌, ◌++◌, length, filter_map, Option, Some, None, Ok, IsTrue, is_some, if◌then◌else◌}
use Rattle.olap_meaning.specs.declared.schema.SchemaAggregate.{SchemaAggregate}
use Rattle.olap_meaning.specs.declared.tables.Catalog.{Catalog}
use Rattle.olap_meaning.specs.declared.tables.Row.{Row}
use Rattle.olap_meaning.specs.History.{Entry, Append, version}
use Rattle.olap_meaning.specs.Legal.{is_next_call}
use Rattle.olap_meaning.specs.Limits.{row_limit}
use Rattle.agg_tables.specs.Tables.{TableOf}
use Rattle.history_core.specs.History.{setting_of}
use Rattle.history_core.specs.Cache.{CacheOf}
use Rattle.cache_manager.specs.Tables.{IsOwnTable}
use Rattle.outside.specs.Fetched.{Fetched}
use Rattle.outside.specs.Told.{Files}
use Rattle.cache_opening.specs.declared.fault.OpenFault.{OpenFault}
use Rattle.cache_opening.specs.declared.fault.OpenFault.TheVariants.{OutOfMemory}
use Rattle.cache_opening.specs.Asking.{Asking, Leads}
use Rattle.cache_opening.specs.Opening.{Base, agg_entries, base_entries, base_from, batches_from, files_came, opened_entries, rows_come}

-- this is answered, or want of memory
abbrev pub IsOrMemory : OpenFault → OpenFault → Type 0
IsOrMemory fault answer = (answer ≡ fault) ⊎ (answer ≡ OutOfMemory)

-- a catalog has the cubes of its schema
pub record HasCubes (catalog : Catalog) : Type 0 where
  pub cubes : length catalog.cubes ≡ length catalog.schema.cubes

-- rows were asked for, and appended to a cube by seat 0, as the cube's version 1
pub record IsAppended (files : Option Files) (before after : List Fetched)
    (asking : Asking (List Row)) (cube : ℕ) (entries more : List Entry) : Type 0 where
  pub rows : List Row
  pub read : Leads files before after asking (Ok rows)
  pub entry : more ≡ entries ++ Append (record { seat = 0; call = cube + 1 }) cube 1 rows ∷ []

-- nothing has happened in a cache
pub record IsBegun (cache : CacheOf) : Type 0 where
  pub whole : HasCubes cache.setting.catalog
  pub limit : cache.setting.row_limit ≡ row_limit
  pub entries : cache.entries ≡ []

-- this cube is the next to have its base batch
pub record IsNext (cache : CacheOf) (cube : ℕ) : Type 0 where
  pub whole : HasCubes cache.setting.catalog
  pub limit : cache.setting.row_limit ≡ row_limit
  pub known : cube < length cache.setting.catalog.cubes
  pub call : IsTrue (is_next_call cache.entries (record { seat = 0; call = cube + 1 }))
  pub fresh : version cache.entries cube ≡ 0

-- each cube has its base batch, and just these were asked for
pub record AreOpened (files : Option Files) (before after : List Fetched) (cache : CacheOf)
    : Type 0 where
  pub batches : List (List Row)
  pub count : length batches ≡ length cache.setting.catalog.cubes
  pub read : Leads files before after
      (batches_from cache.setting.catalog 0 0 cache.setting.catalog.schema.cubes) (Ok batches)
  pub entries : cache.entries ≡ base_entries 0 batches

-- the rows of an append
abbrev pub rows_appended : Entry → Option (List Row)
rows_appended (Append who cube version rows) = Some rows
rows_appended _ = None

-- the batches that were appended, in order
abbrev pub batches_in : List Entry → List (List Row)
batches_in entries = filter_map rows_appended entries

-- the base of a cache in which only base batches were appended
abbrev pub base_in : CacheOf → Base
base_in cache = record { catalog = cache.setting.catalog; batches = batches_in cache.entries }

-- each cube has its base batch, and after these there are entries of aggregate tables alone
pub record IsBased (cache : CacheOf) : Type 0 where
  pub count : length (batches_in cache.entries) ≡ length cache.setting.catalog.cubes
  pub tables : List ℕ
  pub entries : cache.entries ≡ opened_entries (batches_in cache.entries) tables

-- a table is that of this place of the schema over the base batch of its cube, and a cache's own
pub record IsBaseTable (cache : CacheOf) (table : ℕ) (made : TableOf) : Type 0 where
  pub own : IsOwnTable cache made
  pub place : made.table ≡ table
  pub version : made.version ≡ 1

-- aggregate tables were asked for, and have their entries after those that there were
pub record AreInstalled (files : Option Files) (before after : List Fetched)
    (asking : Asking (List ℕ)) (entries more : List Entry) : Type 0 where
  pub tables : List ℕ
  pub read : Leads files before after asking (Ok tables)
  pub entry : more ≡ entries ++ agg_entries (length entries) tables

-- this many rows, where a file came
abbrev pub rows_where : ℕ → ℕ → ℕ
rows_where rows zero = 0
rows_where rows (suc came) = rows

-- between two states of a depot at most this many steps were added: as many as there are rows, and none where no file
-- came
pub record ReadsFew (before after : List Fetched) (rows start later : ℕ) : Type 0 where
  pub more : List Fetched
  pub behind : after ≡ before ++ more
  pub steps : later ≤ start + rows_where rows (files_came more)

-- how many files an aggregate table has: one or none
abbrev pub files_for : SchemaAggregate → ℕ
files_for own = if is_some own.file then 1 else 0

-- between two states of a depot this many files came
pub record FilesCame (before after : List Fetched) (many : ℕ) : Type 0 where
  pub more : List Fetched
  pub behind : after ≡ before ++ more
  pub count : files_came more ≡ many

-- between two states of a depot the files of some aggregate tables were asked for, and at most as many steps were added
-- as there are rows that those are checked over whose files came
pub record ReadsCame (before after : List Fetched) (base : Base) (start later : ℕ) : Type 0 where
  pub more : List Fetched
  pub behind : after ≡ before ++ more
  pub steps : later ≤ start
      + rows_come base.catalog base.batches 0 base.catalog.schema.aggregates (files_came more)

-- a manager has the base of a schema's file and this budget, and nothing more: just this was asked for
pub record HasJustBase (files : Option Files) (before after : List Fetched) (file : List ℕ)
    (budget : ℕ) (manager : CacheOf) : Type 0 where
  pub base : Base
  pub read : Leads files before after (base_from file) (Ok base)
  pub count : length base.batches ≡ length base.catalog.cubes
  pub setting : manager.setting ≡ setting_of base.catalog row_limit budget
  pub entries : manager.entries ≡ base_entries 0 base.batches
