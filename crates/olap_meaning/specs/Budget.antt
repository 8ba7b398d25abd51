-- The groups of loads, which a budget limits.
use Rattle.std.specs.Prelude.{ℕ, ◌∷◌, [], List, Bool, false, true, Option, Some, None, filter_map, if◌then◌else◌, length, option_and_then, option_map, slice_get, sum_by}
use Rattle.std.specs.Option.{option_map_or}
use Rattle.olap_meaning.specs.declared.cells.Allowed.{Allowed}
use Rattle.olap_meaning.specs.declared.cells.Header.{Header}
use Rattle.olap_meaning.specs.declared.tables.Catalog.{Catalog}
use Rattle.olap_meaning.specs.declared.tables.Row.{Row}
use Rattle.olap_meaning.specs.Catalog.{first_appearances}
use Rattle.olap_meaning.specs.Covering.{allows}
use Rattle.olap_meaning.specs.History.{Entry, Append, Agg, Flush, Start, Done, Drop, Evict, Answer, Saw, Load, entry_at, is_some_and, kept_loads, load_at, rows_of}
use Rattle.olap_meaning.specs.Worth.{row_value}

-- a value, where a column allows it
abbrev pub if_allowed : Allowed → ℕ → Option ℕ
if_allowed allowed value = if allows allowed value then Some value else None

-- values on some columns, in order: none where one is missing or is not allowed
abbrev pub allowed_values : (ℕ → Option ℕ) → List (ℕ × Allowed) → Option (List ℕ)
allowed_values value_on [] = Some []
allowed_values value_on (column ∷ columns) =
    option_and_then
    (λ value. option_map (λ values. value ∷ values) (allowed_values value_on columns))
    (option_and_then (if_allowed column.1) (value_on column.0))

-- a row's values on a header's columns, in order: none where one is missing or is not allowed
abbrev pub row_values : Catalog → Header → Row → Option (List ℕ)
row_values catalog header row = allowed_values (row_value catalog header.cube row) header.columns

-- the groups of a load: the different lists of values, on its header's columns, among the rows of its version that the
-- header allows
abbrev pub load_groups : Catalog → List Entry → Load → List (List ℕ)
load_groups catalog history load =
    first_appearances
    (filter_map
    (row_values catalog load.header) (rows_of history load.header.cube load.version))

-- how many groups load j has
abbrev pub group_count : Catalog → List Entry → ℕ → ℕ
group_count catalog history j =
    option_map_or (λ load. length (load_groups catalog history load)) (load_at history j) 0

-- how many groups the kept loads have together
abbrev pub kept_groups : Catalog → List Entry → ℕ
kept_groups catalog history = sum_by (group_count catalog history) (kept_loads history)

-- the oldest kept load, if one is kept
abbrev pub oldest_kept : List Entry → Option ℕ
oldest_kept history = slice_get (kept_loads history) 0

-- after an entry loads may be evicted: it is an answer, or an eviction itself
abbrev pub lets_evict : Entry → Bool
lets_evict (Append who cube version rows) = false
lets_evict (Agg who table version) = false
lets_evict (Flush who region) = false
lets_evict (Start load) = false
lets_evict (Done who load) = false
lets_evict (Drop who load) = false
lets_evict (Evict load) = true
lets_evict (Answer who cells) = true
lets_evict (Saw who) = false

-- the last entry of a history lets loads be evicted
abbrev pub may_evict : List Entry → Bool
may_evict history = is_some_and lets_evict (entry_at history (length history))

-- an entry is an eviction
abbrev pub is_eviction : Entry → Bool
is_eviction (Evict load) = true
is_eviction _ = false
