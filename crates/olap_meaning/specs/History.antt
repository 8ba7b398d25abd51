-- The history of the cache, and what it says of versions, loads and sources.
use Rattle.std.specs.Prelude.{ℕ, zero, suc, List, [], ◌∷◌, ◌++◌, Bool, false, not, ◌&&◌, ◌==◌, Option, Some, None, if◌then◌else◌, length, take, drop, count_by, filter_map, flat_map, option_and_then, option_map, unwrap_or, slice_get, is_some}
use Rattle.std.specs.List.{list_any}
use Rattle.std.specs.Option.{option_map_or, option_or}
use Rattle.olap_meaning.specs.declared.cells.Who.{Who}
use Rattle.olap_meaning.specs.declared.cells.Cell.{Cell}
use Rattle.olap_meaning.specs.declared.cells.Header.{Header}
use Rattle.olap_meaning.specs.declared.regions.Region.{Region}
use Rattle.olap_meaning.specs.declared.cells.CellSource.{CellSource}
use Rattle.olap_meaning.specs.Covering.{header_covers, just_covers, region_covers, concerning, touching}
use Rattle.olap_meaning.specs.declared.tables.Row.{Row}

-- what a load is started with; it is named by the position of its Start
pub record Load : Type 0 where
  pub who : Who
  pub header : Header
  pub version : ℕ
  pub reason : Cell

-- one event of the cache. An append has its cube, version and rows; an aggregate table has its number in the catalog
-- and the version that it was built over; an end and an eviction have their load; an answer has its cells
pub data Entry : Type 0 where
  Append : Who → ℕ → ℕ → List Row → Entry
  Agg : Who → ℕ → ℕ → Entry
  Flush : Who → Region → Entry
  Start : Load → Entry
  Done : Who → ℕ → Entry
  Drop : Who → ℕ → Entry
  Evict : ℕ → Entry
  Answer : Who → List CellSource → Entry
  Saw : Who → Entry

-- there is a value, and it passes the test
abbrev pub is_some_and : {A : Type 0} → (A → Bool) → Option A → Bool
is_some_and test None = false
is_some_and test (Some x) = test x

-- the entry at a position; positions count from 1
abbrev pub entry_at : List Entry → ℕ → Option Entry
entry_at history zero = None
entry_at history (suc before) = slice_get history before

-- the greatest position up to n that passes the test
abbrev pub latest : ℕ → (ℕ → Bool) → Option ℕ
latest zero test = None
latest (suc n) test = if test (suc n) then Some (suc n) else latest n test

-- the least position up to n that passes the test
abbrev pub earliest : ℕ → (ℕ → Bool) → Option ℕ
earliest zero test = None
earliest (suc n) test =
    option_or (earliest n test) (if test (suc n) then Some (suc n) else None)

-- the rows of an append to a cube
abbrev pub appended : ℕ → Entry → Option (List Row)
appended cube (Append who c version rows) = if c == cube then Some rows else None
appended cube _ = None

-- the version of a cube: how many appends it has had
abbrev pub version : List Entry → ℕ → ℕ
version history cube = count_by (λ entry. is_some (appended cube entry)) history

-- the rows of a version of a cube: those of its first appends, in order
abbrev pub rows_of : List Entry → ℕ → ℕ → List Row
rows_of history cube v = flat_map (λ rows. rows) (take v (filter_map (appended cube) history))

-- an entry is a flush that covers a cell
abbrev pub flushes : Cell → Entry → Bool
flushes cell (Flush who region) = region_covers region cell
flushes cell _ = false

-- a flush after a position covers a cell
abbrev pub flushed_after : List Entry → ℕ → Cell → Bool
flushed_after history position cell = list_any (flushes cell) (drop position history)

-- the position of the latest flush that covers a cell, and 0 where there is none
abbrev pub latest_flush : List Entry → Cell → ℕ
latest_flush history cell =
    unwrap_or (latest (length history) (λ p. is_some_and (flushes cell) (entry_at history p))) 0

-- the floor of a cell: its cube's version at the latest flush that covers it
abbrev pub floor : List Entry → Cell → ℕ
floor history cell = version (take (latest_flush history cell) history) cell.cube

-- the load that an entry starts
abbrev pub started : Entry → Option Load
started (Start load) = Some load
started _ = None

-- the load of a position
abbrev pub load_at : List Entry → ℕ → Option Load
load_at history j = option_and_then started (entry_at history j)

-- who started load j
abbrev pub starter : List Entry → ℕ → Option Who
starter history j = option_map (λ load. load.who) (load_at history j)

-- the version of load j
abbrev pub load_version : List Entry → ℕ → Option ℕ
load_version history j = option_map (λ load. load.version) (load_at history j)

-- an entry delivers load j
abbrev pub delivers : ℕ → Entry → Bool
delivers j (Done who load) = load == j
delivers j _ = false

-- an entry ends load j: it delivers or drops it
abbrev pub ends : ℕ → Entry → Bool
ends j (Done who load) = load == j
ends j (Drop who load) = load == j
ends j _ = false

-- load j is flying: it was started and has no end
abbrev pub flying : List Entry → ℕ → Bool
flying history j = is_some (load_at history j) && not (list_any (ends j) history)

-- an entry evicts load j
abbrev pub evicts : ℕ → Entry → Bool
evicts j (Evict load) = load == j
evicts j _ = false

-- load j was delivered
abbrev pub delivered : List Entry → ℕ → Bool
delivered history j = list_any (delivers j) history

-- load j is kept: it was delivered, and not evicted
abbrev pub kept : List Entry → ℕ → Bool
kept history j = delivered history j && not (list_any (evicts j) history)

-- the header of load j covers a cell
abbrev pub load_covers : List Entry → ℕ → Cell → Bool
load_covers history j cell =
    is_some_and (λ load. header_covers load.header cell) (load_at history j)

-- the header of load j covers a cell with just the cell's columns
abbrev pub load_just_covers : List Entry → ℕ → Cell → Bool
load_just_covers history j cell =
    is_some_and (λ load. just_covers load.header cell) (load_at history j)

-- load j is awaited for a cell: it is flying, covers the cell with just its columns, and no flush since its Start
-- covers the cell
abbrev pub awaited : List Entry → ℕ → Cell → Bool
awaited history j cell =
    flying history j && load_just_covers history j cell && not (flushed_after history j cell)

-- the load that a cell awaits: the earliest that is awaited for it, if there is one
abbrev pub awaited_load : List Entry → Cell → Option ℕ
awaited_load history cell = earliest (length history) (λ j. awaited history j cell)

-- the loads up to a position that are kept, rising
abbrev pub kept_up_to : List Entry → ℕ → List ℕ
kept_up_to history zero = []
kept_up_to history (suc n) =
    kept_up_to history n ++ (if kept history (suc n) then suc n ∷ [] else [])

-- the loads that are kept, rising
abbrev pub kept_loads : List Entry → List ℕ
kept_loads history = kept_up_to history (length history)

-- load j is live for a cell: it is kept, covers the cell, and no flush since its Start covers the cell
abbrev pub live : List Entry → ℕ → Cell → Bool
live history j cell =
    kept history j && load_covers history j cell && not (flushed_after history j cell)

-- the exact source of a cell: the greatest load that is live for it and has just its columns
abbrev pub exact_source : List Entry → Cell → Option ℕ
exact_source history cell =
    latest (length history) (λ j. live history j cell && load_just_covers history j cell)

-- the region that an entry flushes
abbrev pub flushed : Entry → Option Region
flushed (Flush who region) = Some region
flushed _ = None

-- the regions that were flushed after a position, in order
abbrev pub regions_after : List Entry → ℕ → List Region
regions_after history position = filter_map flushed (drop position history)

-- the regions that shut off part of load j: those flushed after its Start that concern its header, in order
abbrev pub shutting : List Entry → ℕ → List Region
shutting history j =
    option_map_or (λ load. concerning load.header (regions_after history j)) (load_at history j) []

-- how many flushes after the Start of load j touch its header
abbrev pub flush_count : List Entry → ℕ → ℕ
flush_count history j =
    option_map_or (λ load. touching load.header (regions_after history j)) (load_at history j) 0
