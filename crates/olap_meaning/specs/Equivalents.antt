-- The same meanings, position by position.
use Rattle.std.specs.Prelude.{ℕ, ◌≤◌, ◌<◌, ◌≡◌, ◌⊎◌, ◌↔◌, List, Some, None, IsTrue, IsFalse, take}
use Rattle.olap_meaning.specs.declared.cells.Who.{Who}
use Rattle.olap_meaning.specs.declared.cells.Cell.{Cell}
use Rattle.olap_meaning.specs.declared.tables.Setting.{Setting}
use Rattle.olap_meaning.specs.Covering.{header_covers, just_covers}
use Rattle.olap_meaning.specs.Budget.{oldest_kept}
use Rattle.olap_meaning.specs.Legal.{Legal}
use Rattle.olap_meaning.specs.History.{Entry, Start, Done, Load, entry_at, version, kept, live, awaited, floor, flushes, ends, evicts, load_just_covers, awaited_load, exact_source}

-- the greatest version at a flush that covers the cell, and 0 where there is none
pub record IsGreatestFlushed (history : List Entry) (cell : Cell) (n : ℕ) : Type 0 where
  pub above : (p : ℕ) (flush : Entry) → entry_at history p ≡ Some flush
      → IsTrue (flushes cell flush) → version (take p history) cell.cube ≤ n
  pub reached : (n ≡ 0)
      ⊎ ((p : ℕ) × (flush : Entry) × (entry_at history p ≡ Some flush) × IsTrue (flushes cell flush)
      × (version (take p history) cell.cube ≡ n))

-- the floor is that version
abbrev pub FloorIsGreatest : Type 0
FloorIsGreatest =
    (history : List Entry) (cell : Cell) → IsGreatestFlushed history cell (floor history cell)

-- position j starts a load that is delivered somewhere and that no entry evicts, whose header covers the cell, and no
-- later entry is a flush that covers it
pub record IsLive (history : List Entry) (j : ℕ) (cell : Cell) : Type 0 where
  pub load : Load
  pub starts : entry_at history j ≡ Some (Start load)
  pub delivered : (p : ℕ) × (who : Who) × (entry_at history p ≡ Some (Done who j))
  pub unevicted : (p : ℕ) (entry : Entry) → entry_at history p ≡ Some entry
      → IsFalse (evicts j entry)
  pub covers : IsTrue (header_covers load.header cell)
  pub unflushed : (p : ℕ) (entry : Entry) → j < p → entry_at history p ≡ Some entry
      → IsFalse (flushes cell entry)

-- live is this
abbrev pub LiveIsByPosition : Type 0
LiveIsByPosition =
    (history : List Entry) (j : ℕ) (cell : Cell)
    → (IsTrue (live history j cell)) ↔ (IsLive history j cell)

-- position j starts a load that no entry ends, whose header covers the cell with just its columns, and no later entry
-- is a flush that covers it
pub record IsAwaited (history : List Entry) (j : ℕ) (cell : Cell) : Type 0 where
  pub load : Load
  pub starts : entry_at history j ≡ Some (Start load)
  pub unended : (p : ℕ) (entry : Entry) → entry_at history p ≡ Some entry → IsFalse (ends j entry)
  pub covers : IsTrue (just_covers load.header cell)
  pub unflushed : (p : ℕ) (entry : Entry) → j < p → entry_at history p ≡ Some entry
      → IsFalse (flushes cell entry)

-- awaited is this
abbrev pub AwaitedIsByPosition : Type 0
AwaitedIsByPosition =
    (history : List Entry) (j : ℕ) (cell : Cell)
    → (IsTrue (awaited history j cell)) ↔ (IsAwaited history j cell)

-- a load that is live for the cell and has just its columns, and no such load is greater
pub record IsExactSource (history : List Entry) (cell : Cell) (j : ℕ) : Type 0 where
  pub serves : IsTrue (live history j cell)
  pub just : IsTrue (load_just_covers history j cell)
  pub greatest : (k : ℕ) → IsTrue (live history k cell) → IsTrue (load_just_covers history k cell)
      → k ≤ j

-- the exact source is this load
abbrev pub ExactSourceIsGreatest : Type 0
ExactSourceIsGreatest =
    (history : List Entry) (cell : Cell) (j : ℕ)
    → (exact_source history cell ≡ Some j) ↔ (IsExactSource history cell j)

-- a load that is awaited for the cell, and no such load is less
pub record IsAwaitedLoad (history : List Entry) (cell : Cell) (j : ℕ) : Type 0 where
  pub awaits : IsTrue (awaited history j cell)
  pub least : (k : ℕ) → IsTrue (awaited history k cell) → j ≤ k

-- the load that a cell awaits is this load; it awaits none exactly where none is awaited for it
pub record AwaitedLoadIsLeast : Type 0 where
  pub some : (history : List Entry) (cell : Cell) (j : ℕ)
      → (awaited_load history cell ≡ Some j) ↔ (IsAwaitedLoad history cell j)
  pub none : (history : List Entry) (cell : Cell)
      → (awaited_load history cell ≡ None) ↔ ((j : ℕ) → IsFalse (awaited history j cell))

-- a kept load, and no kept load is less
pub record IsOldestKept (history : List Entry) (j : ℕ) : Type 0 where
  pub is_kept : IsTrue (kept history j)
  pub least : (k : ℕ) → IsTrue (kept history k) → j ≤ k

-- in a legal history the oldest kept load is this load
abbrev pub OldestIsLeast : Type 0
OldestIsLeast =
    (setting : Setting) (history : List Entry) (j : ℕ) → Legal setting history
    → (oldest_kept history ≡ Some j) ↔ (IsOldestKept history j)
