-- How the meanings change with one more entry.
use Rattle.std.specs.Prelude.{ℕ, suc, ◌+◌, ◌≡◌, List, [], ◌∷◌, ◌++◌, if◌then◌else◌, is_some, Option, Some, None, Bool, not, ◌&&◌, ◌==◌, ◌≤◌, nat_lt, length, option_to_list}
use Rattle.std.specs.List.{list_any}
use Rattle.std.specs.Option.{option_or}
use Rattle.olap_meaning.specs.declared.cells.Cell.{Cell}
use Rattle.olap_meaning.specs.declared.tables.Setting.{Setting}
use Rattle.olap_meaning.specs.Covering.{just_covers, concerning}
use Rattle.olap_meaning.specs.Legal.{Legal, LegalStep}
use Rattle.olap_meaning.specs.History.{Entry, Done, Evict, Load, version, floor, flushes, flushed, flushed_after, evicts, regions_after, shutting, appended, started, ends, earliest, latest, is_some_and, load_at, load_just_covers, live, exact_source, awaited, awaited_load}

-- a legal history goes on by a legal step
abbrev pub LegalGrows : Type 0
LegalGrows =
    (setting : Setting) (history : List Entry) (entry : Entry) → Legal setting history
    → LegalStep setting history entry → Legal setting (history ++ entry ∷ [])

-- an append makes the next version of its cube, and no other entry changes a version
abbrev pub VersionGrows : Type 0
VersionGrows =
    (history : List Entry) (entry : Entry) (cube : ℕ)
    → version (history ++ entry ∷ []) cube
    ≡ version history cube + (if is_some (appended cube entry) then 1 else 0)

-- a flush that covers a cell lifts its floor to the present version, and no other entry changes the floor
abbrev pub FloorGrows : Type 0
FloorGrows =
    (history : List Entry) (entry : Entry) (cell : Cell)
    → floor (history ++ entry ∷ []) cell
    ≡ (if flushes cell entry then version history cell.cube else floor history cell)

-- the load that an entry adds to those that may be the exact source of a cell: one that it delivers, that covers the
-- cell with just its columns, and that was neither shut off for it while it flew nor evicted
abbrev pub delivered_for : List Entry → Cell → Entry → Option ℕ
delivered_for history cell (Done who j) =
    if load_just_covers history j cell && not (flushed_after history j cell)
    && not (list_any (evicts j) history) then Some j else None
delivered_for history cell _ = None

-- the greater of two loads, where there are two
abbrev pub greater : Option ℕ → Option ℕ → Option ℕ
greater None other = other
greater (Some j) None = Some j
greater (Some j) (Some k) = if nat_lt j k then Some k else Some j

-- the exact source that an entry leaves a cell: where it evicts a load, the greatest of the others
abbrev pub left_for : List Entry → Cell → Entry → Option ℕ
left_for history cell (Evict j) =
    latest (length history)
    (λ k. live history k cell && load_just_covers history k cell && not (j == k))
left_for history cell _ = exact_source history cell

-- a flush that covers a cell leaves it no exact source; a delivery gives it the load, where that is the greater; an
-- eviction leaves it the greatest of the others; no other entry changes its exact source
abbrev pub ExactSourceGrows : Type 0
ExactSourceGrows =
    (setting : Setting) (history : List Entry) (entry : Entry) (cell : Cell) → Legal setting history
    → exact_source (history ++ entry ∷ []) cell
    ≡ (if flushes cell entry then None
    else greater (delivered_for history cell entry) (left_for history cell entry))

-- an entry starts a load that covers a cell with just its columns
abbrev pub starts_for : Cell → Entry → Bool
starts_for cell entry = is_some_and (λ load. just_covers load.header cell) (started entry)

-- the load that an entry adds to those that a cell may await, if it starts one for the cell
abbrev pub started_for : List Entry → Cell → Entry → Option ℕ
started_for history cell entry =
    if starts_for cell entry then Some (suc (length history)) else None

-- after a flush that covers a cell no load is awaited for it; else the awaited load is the earliest that was awaited and
-- that the entry does not end, and where there is none, one that the entry starts for the cell
abbrev pub AwaitedLoadGrows : Type 0
AwaitedLoadGrows =
    (setting : Setting) (history : List Entry) (entry : Entry) (cell : Cell) → Legal setting history
    → awaited_load (history ++ entry ∷ []) cell
    ≡ (if flushes cell entry then None
    else option_or
    (earliest (length history) (λ j. awaited history j cell && not (ends j entry)))
    (started_for history cell entry))

-- a flush adds its region to those that were flushed after a position, and no other entry adds one
abbrev pub RegionsGrow : Type 0
RegionsGrow =
    (history : List Entry) (entry : Entry) (position : ℕ) → position ≤ length history
    → regions_after (history ++ entry ∷ []) position
    ≡ regions_after history position ++ option_to_list (flushed entry)

-- a flush adds its region to those that shut off part of a load, where it concerns the load's header
abbrev pub ShuttingGrows : Type 0
ShuttingGrows =
    (history : List Entry) (entry : Entry) (j : ℕ) (load : Load) → load_at history j ≡ Some load
    → shutting (history ++ entry ∷ []) j
    ≡ shutting history j ++ concerning load.header (option_to_list (flushed entry))

-- nothing shuts off part of the load that an entry starts
abbrev pub LoadsStartWhole : Type 0
LoadsStartWhole =
    (history : List Entry) (entry : Entry)
    → shutting (history ++ entry ∷ []) (suc (length history)) ≡ []
