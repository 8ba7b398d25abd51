-- The laws of sources.
use Rattle.std.specs.Prelude.{ℕ, suc, ◌≡◌, ◌↔◌, List, [], ◌∷◌, ◌++◌, Some, false, All, Contains, IsTrue, take}
use Rattle.olap_meaning.specs.declared.Aggregator.{Aggregator}
use Rattle.olap_meaning.specs.declared.Aggregator.TheVariants.{DistinctCount}
use Rattle.olap_meaning.specs.declared.cells.Cell.{Cell}
use Rattle.olap_meaning.specs.declared.cells.CellSource.{CellSource}
use Rattle.olap_meaning.specs.declared.cells.Who.{Who}
use Rattle.olap_meaning.specs.declared.regions.Region.{Region}
use Rattle.olap_meaning.specs.declared.tables.Catalog.{Catalog}
use Rattle.olap_meaning.specs.declared.tables.Measure.{Measure}
use Rattle.olap_meaning.specs.declared.tables.Setting.{Setting}
use Rattle.olap_meaning.specs.Covering.{region_covers}
use Rattle.olap_meaning.specs.History.{Entry, Answer, Flush, Load, Start, entry_at, exact_source}
use Rattle.olap_meaning.specs.Rolled.{Offer, IsRolled, IsRolledSource, can_roll, has_rolled_source}
use Rattle.olap_meaning.specs.Legal.{HasNoSource, IsSource, Legal, has_source}
use Rattle.olap_meaning.specs.Worth.{measure_of}

-- among offers there are some that are rolled up to a cell exactly where `can_roll` says so
abbrev pub SomeRollExactly : Type 0
SomeRollExactly =
    (aggregator : Aggregator) (size : ℕ → ℕ) (cell : Cell) (offers : List Offer)
    → IsTrue (can_roll aggregator size cell offers)
    ↔ ((some : List Offer) × All (Contains offers) some × IsRolled aggregator size cell some)

-- a cell has a rolled source exactly where `has_rolled_source` says so
abbrev pub RolledSourcesAreDecided : Type 0
RolledSourcesAreDecided =
    (catalog : Catalog) (history : List Entry) (cell : Cell)
    → IsTrue (has_rolled_source catalog history cell)
    ↔ ((loads : List ℕ) × IsRolledSource catalog history cell loads)

-- a cell has a source exactly where `has_source` says so, and has none exactly where it does not
pub record SourcesAreDecided : Type 0 where
  pub has : (catalog : Catalog) (history : List Entry) (cell : Cell)
      → IsTrue (has_source catalog history cell)
      ↔ ((loads : List ℕ) × IsSource catalog history cell loads)
  pub lacks : (catalog : Catalog) (history : List Entry) (cell : Cell)
      → has_source catalog history cell ≡ false ↔ HasNoSource catalog history cell

-- a load that is started gives no cell a source: it has to be delivered first
abbrev pub StartsGiveNoSource : Type 0
StartsGiveNoSource =
    (setting : Setting) (history : List Entry) (load : Load) (cell : Cell) → Legal setting history
    → HasNoSource setting.catalog history cell
    → HasNoSource setting.catalog (history ++ Start load ∷ []) cell

-- a distinct count is never rolled up: an answered one was taken from its exact source alone
abbrev pub DistinctCountsAreExact : Type 0
DistinctCountsAreExact =
    (setting : Setting) (history : List Entry) → Legal setting history
    → (before : ℕ) (who : Who) (cells : List CellSource)
    → entry_at history (suc before) ≡ Some (Answer who cells)
    → (answered : CellSource) → Contains cells answered
    → (measure : Measure) → measure_of setting.catalog answered.cell ≡ Some measure
    → measure.aggregator ≡ DistinctCount
    → (j : ℕ) × (exact_source (take before history) answered.cell ≡ Some j)
    × (answered.loads ≡ j ∷ [])

-- a flush that covers a cell leaves it without a source, exact or rolled
abbrev pub FlushesLeaveNoSource : Type 0
FlushesLeaveNoSource =
    (catalog : Catalog) (history : List Entry) (who : Who) (region : Region) (cell : Cell)
    → IsTrue (region_covers region cell)
    → HasNoSource catalog (history ++ Flush who region ∷ []) cell
