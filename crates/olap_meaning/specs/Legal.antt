-- Which histories are legal.
use Rattle.std.specs.Prelude.{ℕ, suc, ◌+◌, ◌≤◌, ◌<◌, ◌≡◌, List, [], ◌∷◌, Bool, true, false, ◌==◌, ◌&&◌, ◌||◌, Option, Some, None, is_some, length, take, filter, map, sum_by, IsTrue, MatchOption, nat_lt, slice_get}
use Rattle.std.specs.List.{list_any, list_all, zip, AllByRecursion as Each}
use Rattle.olap_meaning.specs.declared.TheConstants.{VERSION_LIMIT}
use Rattle.olap_meaning.specs.declared.tables.Catalog.{Catalog}
use Rattle.olap_meaning.specs.declared.tables.Setting.{Setting}
use Rattle.olap_meaning.specs.declared.cells.Who.{Who}
use Rattle.olap_meaning.specs.declared.cells.Cell.{Cell}
use Rattle.olap_meaning.specs.declared.cells.CellSource.{CellSource}
use Rattle.olap_meaning.specs.declared.tables.Row.{Row}
use Rattle.olap_meaning.specs.declared.regions.Region.{Region}
use Rattle.olap_meaning.specs.declared.regions.RegionBox.{RegionBox}
use Rattle.olap_meaning.specs.declared.regions.RegionDim.{RegionDim}
use Rattle.olap_meaning.specs.declared.regions.RegionDim.TheVariants.{Measures, Dimension}
use Rattle.olap_meaning.specs.Covering.{among, just_covers}
use Rattle.olap_meaning.specs.Catalog.{records, values, fact_columns, table_cube}
use Rattle.olap_meaning.specs.History.{Entry, Append, Agg, Flush, Start, Done, Drop, Evict, Answer, Saw, Load, entry_at, version, flying, awaited_load, starter, exact_source, is_some_and}
use Rattle.olap_meaning.specs.Worth.{measure_of}
use Rattle.olap_meaning.specs.Rolled.{IsRolledSource, has_rolled_source}
use Rattle.olap_meaning.specs.Budget.{kept_groups, may_evict, oldest_kept}

-- whose call an entry is; the parts of a load and evictions are no calls
abbrev pub caller : Entry → Option Who
caller (Append who cube version rows) = Some who
caller (Agg who table version) = Some who
caller (Flush who region) = Some who
caller (Start load) = None
caller (Done who load) = None
caller (Drop who load) = None
caller (Evict load) = None
caller (Answer who cells) = Some who
caller (Saw who) = Some who

-- an entry is a call of a seat
abbrev pub is_call_of : ℕ → Entry → Bool
is_call_of seat entry = is_some_and (λ who. who.seat == seat) (caller entry)

-- the calls of a seat, in order
abbrev pub calls : List Entry → ℕ → List Entry
calls history seat = filter (is_call_of seat) history

-- an entry is a call with a number below another
abbrev pub is_call_below : ℕ → Entry → Bool
is_call_below call entry = is_some_and (λ who. nat_lt who.call call) (caller entry)

-- a call is the next of its seat: its number is above those of all earlier calls of the seat
abbrev pub is_next_call : List Entry → Who → Bool
is_next_call history who = list_all (is_call_below who.call) (calls history who.seat)

-- how many rows an entry appends, to whatever cube
abbrev pub rows_added : Entry → ℕ
rows_added (Append who cube version rows) = length rows
rows_added _ = 0

-- how many rows all cubes have
abbrev pub rows_held : List Entry → ℕ
rows_held history = sum_by rows_added history

-- a leaf is a record of its dimension's table
abbrev pub is_leaf : Catalog → ℕ → ℕ → Bool
is_leaf catalog dimension leaf = nat_lt leaf (length (records catalog dimension))

-- a row is one of a cube: it has one leaf of each of the cube's dimensions, and one number or NULL for each of its
-- fact columns
abbrev pub is_row : Catalog → ℕ → Row → Bool
is_row catalog cube row =
    is_some_and
    (λ c. (length row.leaves == length c.dimensions)
    && list_all (λ pair. is_leaf catalog pair.0 pair.1) (zip c.dimensions row.leaves)
    && (length row.values == length (fact_columns c)))
    (slice_get catalog.cubes cube)

-- a value is one of a column of the catalog
abbrev pub is_value : Catalog → ℕ → ℕ → Bool
is_value catalog column value = nat_lt value (length (values catalog column))

-- numbers rise
abbrev pub rise : List ℕ → Bool
rise [] = true
rise (n ∷ ns) = list_all (nat_lt n) ns && rise ns

-- a column is one of some dimensions
abbrev pub is_column_of : Catalog → List ℕ → ℕ → Bool
is_column_of catalog dimensions column =
    is_some_and (λ c. among dimensions c.dimension) (slice_get catalog.columns column)

-- each column of a cell is one of its cube's dimensions
abbrev pub has_own_columns : Catalog → Cell → Bool
has_own_columns catalog cell =
    is_some_and
    (λ cube. list_all (λ pair. is_column_of catalog cube.dimensions pair.0) cell.at)
    (slice_get catalog.cubes cell.cube)

-- a cell is one of the catalog: its cube, measure, columns and values are the catalog's, and its columns rise and are
-- those of its cube's dimensions
abbrev pub is_cell : Catalog → Cell → Bool
is_cell catalog cell =
    is_some_and (λ measure. true) (measure_of catalog cell)
    && list_all
    (λ pair. nat_lt pair.0 (length catalog.columns) && is_value catalog pair.0 pair.1) cell.at
    && rise (map (λ pair. pair.0) cell.at)
    && has_own_columns catalog cell

-- a dimension of a region is the measures
abbrev pub is_measures : RegionDim → Bool
is_measures Measures = true
is_measures (Dimension d) = false

-- a box names columns and values of the catalog; a column also where its list of values is empty
abbrev pub is_box : Catalog → RegionBox → Bool
is_box catalog box =
    list_all
    (λ column. nat_lt column.0 (length catalog.columns)
    && list_all (is_value catalog column.0) column.1) box.columns

-- a region can be flushed: its cube, columns and values are the catalog's, and the measures are among its dimensions
-- (Cache Control)
abbrev pub is_flushable : Catalog → Region → Bool
is_flushable catalog region =
    nat_lt region.cube (length catalog.cubes) && list_any is_measures region.dims
    && list_all (is_box catalog) region.boxes

-- the loads are a source of a cell: its exact source alone, or, where it has none, a rolled source
abbrev pub IsSource : Catalog → List Entry → Cell → List ℕ → Type 0
IsSource catalog history cell loads =
    MatchOption (exact_source history cell) (IsRolledSource catalog history cell loads)
    (λ j. loads ≡ j ∷ [])

-- a cell has a source, as a decision
abbrev pub has_source : Catalog → List Entry → Cell → Bool
has_source catalog history cell =
    is_some (exact_source history cell) || has_rolled_source catalog history cell

-- a cell has no source
pub record HasNoSource (catalog : Catalog) (history : List Entry) (cell : Cell) : Type 0 where
  pub exact : exact_source history cell ≡ None
  pub rolled : (loads : List ℕ) → ¬ (IsRolledSource catalog history cell loads)

-- an append is legal: it makes the next version of a cube of the catalog, of rows of this cube, within the limits
pub record IsLegalAppend (setting : Setting) (history : List Entry) (who : Who) (cube v : ℕ)
    (rows : List Row) : Type 0 where
  pub call : IsTrue (is_next_call history who)
  pub known : cube < length setting.catalog.cubes
  pub next : v ≡ version history cube + 1
  pub versions : v ≤ VERSION_LIMIT
  pub fit : IsTrue (list_all (is_row setting.catalog cube) rows)
  pub room : rows_held history + length rows ≤ setting.row_limit

-- an aggregate table is legal: it is one of the catalog's, and its cube has reached the version that it was built over
pub record IsLegalAgg (setting : Setting) (history : List Entry) (who : Who) (table v : ℕ)
    : Type 0 where
  pub call : IsTrue (is_next_call history who)
  pub cube : ℕ
  pub known : table_cube setting.catalog table ≡ Some cube
  pub reached : v ≤ version history cube

-- a Start is legal: its load is of the present version, covers its reason with just the reason's columns, and the
-- reason is a cell of the catalog that has no source, exact or rolled, and that no load is awaited for
pub record IsLegalStart (setting : Setting) (history : List Entry) (load : Load) : Type 0 where
  pub known : IsTrue (is_cell setting.catalog load.reason)
  pub rising : IsTrue (rise (map (λ column. column.0) load.header.columns))
  pub covers : IsTrue (just_covers load.header load.reason)
  pub present : load.version ≡ version history load.header.cube
  pub needed : HasNoSource setting.catalog history load.reason
  pub unawaited : awaited_load history load.reason ≡ None

-- the end of a load is legal: the load is flying, and who ends it has started it
pub record IsLegalEnd (history : List Entry) (who : Who) (j : ℕ) : Type 0 where
  pub flies : IsTrue (flying history j)
  pub own : starter history j ≡ Some who

-- an answered cell is legal: it is a cell of the catalog, and its loads are a source of it
pub record IsAnswered (setting : Setting) (history : List Entry)
    (answered : CellSource) : Type 0 where
  pub known : IsTrue (is_cell setting.catalog answered.cell)
  pub source : IsSource setting.catalog history answered.cell answered.loads

-- an eviction is legal: its load is the oldest that is kept, the kept loads have more groups than the budget, and it
-- comes right after an answer or another eviction
pub record IsLegalEviction (setting : Setting) (history : List Entry) (j : ℕ) : Type 0 where
  pub oldest : oldest_kept history ≡ Some j
  pub above : setting.budget < kept_groups setting.catalog history
  pub after : IsTrue (may_evict history)

-- an entry is a legal step after a history
abbrev pub LegalStep : Setting → List Entry → Entry → Type 0
LegalStep setting history (Append who cube v rows) = IsLegalAppend setting history who cube v rows
LegalStep setting history (Agg who table v) = IsLegalAgg setting history who table v
LegalStep setting history (Flush who region) =
    IsTrue (is_next_call history who) × IsTrue (is_flushable setting.catalog region)
LegalStep setting history (Start load) = IsLegalStart setting history load
LegalStep setting history (Done who j) = IsLegalEnd history who j
LegalStep setting history (Drop who j) = IsLegalEnd history who j
LegalStep setting history (Evict j) = IsLegalEviction setting history j
LegalStep setting history (Answer who cells) =
    IsTrue (is_next_call history who) × Each (IsAnswered setting history) cells
LegalStep setting history (Saw who) = IsTrue (is_next_call history who)

-- a legal history: each entry is a legal step after the entries before it
abbrev pub Legal : Setting → List Entry → Type 0
Legal setting history =
    (before : ℕ) (entry : Entry) → entry_at history (suc before) ≡ Some entry
    → LegalStep setting (take before history) entry
