-- The laws of legal histories, at one history.
use Rattle.std.specs.Prelude.{ℕ, ◌≡◌, ◌≤◌, ◌<◌, List, Some, Contains, IsFalse, IsTrue, take}
use Rattle.olap_meaning.specs.declared.cells.Cell.{Cell}
use Rattle.olap_meaning.specs.declared.cells.Who.{Who}
use Rattle.olap_meaning.specs.declared.cells.CellSource.{CellSource}
use Rattle.olap_meaning.specs.declared.regions.Region.{Region}
use Rattle.olap_meaning.specs.Covering.{region_covers}
use Rattle.olap_meaning.specs.History.{Entry, Answer, Flush, entry_at, live, version, floor}
use Rattle.olap_meaning.specs.Legal.{caller}
use Rattle.olap_meaning.specs.Laws.{IsServedInVersion}
use Rattle.olap_meaning.specs.Worth.{value, answered_version, worth}
use Rattle.history_core.specs.History.{HistoryOf}

-- each cell of an answer has a version, no older than the cell's floor and no newer than the cube's version at the
-- answer
abbrev pub HasFreshAnswers : HistoryOf → Type 0
HasFreshAnswers history =
    (p : ℕ) (who : Who) (cells : List CellSource)
    → entry_at history.entries p ≡ Some (Answer who cells)
    → (answered : CellSource) → Contains cells answered
    → (v : ℕ) × (answered_version (take p history.entries) answered ≡ Some v)
    × (floor (take p history.entries) answered.cell ≤ v)
    × (v ≤ version (take p history.entries) answered.cell.cube)

-- each cell of an answer is worth the aggregate over the rows of one recorded version, in which its live loads serve
-- it
abbrev pub HasServedAnswers : HistoryOf → Type 0
HasServedAnswers history =
    (p : ℕ) (who : Who) (cells : List CellSource)
    → entry_at history.entries p ≡ Some (Answer who cells)
    → (answered : CellSource) → Contains cells answered
    → (v : ℕ) × IsServedInVersion (take p history.entries) answered v
    × (worth history.setting.catalog (take p history.entries) answered
    ≡ Some (value history.setting.catalog (take p history.entries) answered.cell v))

-- the version of a cube only rises
abbrev pub HasRisingVersions : HistoryOf → Type 0
HasRisingVersions history =
    (cube m n : ℕ) → m ≤ n
    → version (take m history.entries) cube ≤ version (take n history.entries) cube

-- the call numbers of a seat rise
abbrev pub HasRisingCalls : HistoryOf → Type 0
HasRisingCalls history =
    (p q : ℕ) (earlier later : Entry) (first second : Who) → p < q
    → entry_at history.entries p ≡ Some earlier → entry_at history.entries q ≡ Some later
    → caller earlier ≡ Some first → caller later ≡ Some second → first.seat ≡ second.seat
    → first.call < second.call

-- flushes are heeded: after a flush no answer to a cell that its region covers is older than the version of the cell's
-- cube at the flush
abbrev pub HasHeededFlushes : HistoryOf → Type 0
HasHeededFlushes history =
    (p q : ℕ) (flusher who : Who) (region : Region) (cells : List CellSource) → p < q
    → entry_at history.entries p ≡ Some (Flush flusher region)
    → entry_at history.entries q ≡ Some (Answer who cells)
    → (answered : CellSource) → Contains cells answered
    → IsTrue (region_covers region answered.cell)
    → (v : ℕ) × (answered_version (take q history.entries) answered ≡ Some v)
    × (version (take p history.entries) answered.cell.cube ≤ v)

-- flushes last: a load that was started before a flush is live for no cell that its region covers, at the flush and
-- whatever comes after it
abbrev pub HasLastingFlushes : HistoryOf → Type 0
HasLastingFlushes history =
    (p q j : ℕ) (who : Who) (region : Region) (cell : Cell) → j < p → p ≤ q
    → entry_at history.entries p ≡ Some (Flush who region)
    → IsTrue (region_covers region cell) → IsFalse (live (take q history.entries) j cell)
