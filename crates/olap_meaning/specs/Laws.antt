-- The laws that follow from the definitions alone.
use Rattle.std.specs.List.{list_any}
use Rattle.std.specs.Prelude.{ℕ, ◌≤◌, ◌<◌, ◌≡◌, List, [], ◌∷◌, ◌++◌, Some, IsTrue, IsFalse, Contains, take, length}
use Rattle.olap_meaning.specs.declared.cells.Who.{Who}
use Rattle.olap_meaning.specs.declared.cells.Cell.{Cell}
use Rattle.olap_meaning.specs.declared.cells.CellSource.{CellSource}
use Rattle.olap_meaning.specs.declared.cells.Header.{Header}
use Rattle.olap_meaning.specs.declared.regions.Region.{Region}
use Rattle.olap_meaning.specs.declared.tables.Catalog.{Catalog}
use Rattle.olap_meaning.specs.Covering.{among, header_covers, region_concerns, region_covers, touching, HasFewerColumns}
use Rattle.olap_meaning.specs.History.{Entry, Answer, Evict, Flush, Load, entry_at, version, load_at, load_version, flying, delivered, kept, live, floor, flushes, flushed_after, flush_count, shutting, ends, evicts}
use Rattle.olap_meaning.specs.declared.tables.Setting.{Setting}
use Rattle.olap_meaning.specs.Legal.{IsSource, Legal, caller}
use Rattle.olap_meaning.specs.Worth.{value, answered_version, worth}

-- a prefix of a legal history is legal
abbrev pub PrefixesAreLegal : Type 0
PrefixesAreLegal =
    (setting : Setting) (history later : List Entry) → Legal setting (history ++ later)
    → Legal setting history

-- the version of a cube only rises along a history
abbrev pub VersionsRise : Type 0
VersionsRise =
    (history : List Entry) (cube m n : ℕ) → m ≤ n
    → version (take m history) cube ≤ version (take n history) cube

-- fresh answers: each cell of an answer has a version, no older than the cell's floor and no newer than the cube's
-- version at the answer
abbrev pub AnswersAreFresh : Type 0
AnswersAreFresh =
    (setting : Setting) (history : List Entry) → Legal setting history
    → (p : ℕ) (who : Who) (cells : List CellSource) → entry_at history p ≡ Some (Answer who cells)
    → (answered : CellSource) → Contains cells answered
    → (v : ℕ) × (answered_version (take p history) answered ≡ Some v)
    × (floor (take p history) answered.cell ≤ v) × (v ≤ version (take p history) answered.cell.cube)

-- an answered cell is served in one version, which its cube had: each of its loads is live for it and of this
-- version, and there is one at least
pub record IsServedInVersion (history : List Entry) (answered : CellSource) (v : ℕ) : Type 0 where
  pub some : answered_version history answered ≡ Some v
  pub lives : (j : ℕ) → Contains answered.loads j → IsTrue (live history j answered.cell)
  pub of_one : (j : ℕ) → Contains answered.loads j → load_version history j ≡ Some v
  pub recorded : v ≤ version history answered.cell.cube

-- each cell of an answer is worth the aggregate over the rows of one recorded version, in which its live loads serve
-- it
abbrev pub AnswersAreServed : Type 0
AnswersAreServed =
    (setting : Setting) (history : List Entry) → Legal setting history
    → (p : ℕ) (who : Who) (cells : List CellSource) → entry_at history p ≡ Some (Answer who cells)
    → (answered : CellSource) → Contains cells answered
    → (v : ℕ) × IsServedInVersion (take p history) answered v
    × (worth setting.catalog (take p history) answered
    ≡ Some (value setting.catalog (take p history) answered.cell v))

-- a flush that covers a cell leaves no load live for it
abbrev pub FlushesShutOff : Type 0
FlushesShutOff =
    (history : List Entry) (who : Who) (region : Region) (cell : Cell) (j : ℕ)
    → IsTrue (region_covers region cell) → IsFalse (live (history ++ Flush who region ∷ []) j cell)

-- a flush that does not cover a cell leaves each load live for it that was
abbrev pub OthersServeOn : Type 0
OthersServeOn =
    (history : List Entry) (who : Who) (region : Region) (cell : Cell) (j : ℕ)
    → IsFalse (region_covers region cell) → IsTrue (live history j cell)
    → IsTrue (live (history ++ Flush who region ∷ []) j cell)

-- a region that covers a cell covers each cell with fewer of its columns
abbrev pub RegionsReachUp : Type 0
RegionsReachUp =
    (region : Region) (fewer more : Cell) → HasFewerColumns fewer more
    → IsTrue (region_covers region more) → IsTrue (region_covers region fewer)

-- which cells of a load were flushed since its Start is told by the regions that shut off part of it
abbrev pub RegionsShutOff : Type 0
RegionsShutOff =
    (history : List Entry) (j : ℕ) (load : Load) (cell : Cell) → load_at history j ≡ Some load
    → IsTrue (header_covers load.header cell)
    → flushed_after history j cell ≡ list_any (λ region. region_covers region cell) (shutting history j)

-- a region concerns a header just where it covers the cell of the header's cube and measure that names no column
abbrev pub RegionsConcern : Type 0
RegionsConcern =
    (region : Region) (header : Header)
    → region_concerns region header
    ≡ region_covers region (record { cube = header.cube; measure = header.measure; at = [] })

-- how many flushes touch a load is counted over the regions that shut off part of it
abbrev pub TouchingAreCounted : Type 0
TouchingAreCounted =
    (history : List Entry) (j : ℕ) (load : Load) → load_at history j ≡ Some load
    → flush_count history j ≡ touching load.header (shutting history j)

-- a load that is not evicted is kept where it was delivered
abbrev pub DeliveredAreKept : Type 0
DeliveredAreKept =
    (history : List Entry) (j : ℕ) → IsFalse (list_any (evicts j) history)
    → kept history j ≡ delivered history j

-- an eviction changes what no cell is worth, and no floor
pub record EvictionsChangeNoWorth : Type 0 where
  pub worths : (catalog : Catalog) (history : List Entry) (j : ℕ) (answered : CellSource)
      → worth catalog (history ++ Evict j ∷ []) answered ≡ worth catalog history answered
  pub values : (catalog : Catalog) (history : List Entry) (j : ℕ) (cell : Cell) (v : ℕ)
      → value catalog (history ++ Evict j ∷ []) cell v ≡ value catalog history cell v
  pub floors : (history : List Entry) (j : ℕ) (cell : Cell)
      → floor (history ++ Evict j ∷ []) cell ≡ floor history cell

-- what a cell is taken from goes on to be a source of it, where no load of it is evicted
abbrev pub SourcesStay : Type 0
SourcesStay =
    (setting : Setting) (history : List Entry) (j : ℕ) (cell : Cell) (loads : List ℕ)
    → Legal setting history → IsSource setting.catalog history cell loads
    → IsFalse (among loads j) → IsSource setting.catalog (history ++ Evict j ∷ []) cell loads

-- an evicted load is live for no cell, and is kept no more
pub record EvictedServeNone : Type 0 where
  pub kept_no_more : (history : List Entry) (j : ℕ) → IsFalse (kept (history ++ Evict j ∷ []) j)
  pub lives_no_more : (history : List Entry) (j : ℕ) (cell : Cell)
      → IsFalse (live (history ++ Evict j ∷ []) j cell)

-- a load is evicted once
abbrev pub LoadsAreEvictedOnce : Type 0
LoadsAreEvictedOnce =
    (setting : Setting) (history : List Entry) → Legal setting history
    → (j p q : ℕ) → entry_at history p ≡ Some (Evict j) → entry_at history q ≡ Some (Evict j)
    → p ≡ q

-- of two loads with one reason, the first of which still flies, a flush between their Starts covers it
abbrev pub LoadsAreNotDoubled : Type 0
LoadsAreNotDoubled =
    (setting : Setting) (history : List Entry) → Legal setting history
    → (i j : ℕ) (first second : Load) → i < j → load_at history i ≡ Some first
    → load_at history j ≡ Some second
    → first.reason ≡ second.reason → IsTrue (flying history i)
    → (q : ℕ) × (flush : Entry) × (i < q) × (q < j) × (entry_at history q ≡ Some flush)
    × IsTrue (flushes second.reason flush)

-- a load ends once
abbrev pub LoadsEndOnce : Type 0
LoadsEndOnce =
    (setting : Setting) (history : List Entry) → Legal setting history
    → (j p q : ℕ) (one other : Entry) → entry_at history p ≡ Some one
    → entry_at history q ≡ Some other
    → IsTrue (ends j one) → IsTrue (ends j other) → p ≡ q

-- the call numbers of a seat rise
abbrev pub CallsRise : Type 0
CallsRise =
    (setting : Setting) (history : List Entry) → Legal setting history
    → (p q : ℕ) (earlier later : Entry) (first second : Who) → p < q
    → entry_at history p ≡ Some earlier → entry_at history q ≡ Some later
    → caller earlier ≡ Some first → caller later ≡ Some second → first.seat ≡ second.seat
    → first.call < second.call

-- some legal history ends with an answer, so that what is said of the answers of legal histories is said of something
abbrev pub SomeAnswerIsLegal : Type 0
SomeAnswerIsLegal =
    (setting : Setting) × (history : List Entry) × (who : Who) × (answered : CellSource)
    × Legal setting history
    × (entry_at history (length history) ≡ Some (Answer who (answered ∷ [])))
