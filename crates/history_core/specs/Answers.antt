-- What cells are answered, and from what.
use Rattle.std.specs.Prelude.{ℕ, ◌≡◌, ◌≤◌, ◌+◌, ◌++◌, ◌∷◌, List, [], Some, None, false, All, Contains, length, map, IsTrue, nat_le}
use Rattle.std.specs.List.{list_all, zip}
use Rattle.olap_meaning.specs.declared.cells.Cell.{Cell}
use Rattle.olap_meaning.specs.declared.cells.CellSource.{CellSource}
use Rattle.olap_meaning.specs.Budget.{kept_groups}
use Rattle.olap_meaning.specs.Covering.{among}
use Rattle.olap_meaning.specs.History.{Entry, Evict, awaited_load, floor}
use Rattle.olap_meaning.specs.Legal.{IsSource, has_source, rise}
use Rattle.olap_meaning.specs.Worth.{answered_version, worth}
use Rattle.history_core.specs.Cache.{CacheOf}
use Rattle.history_core.specs.Groups.{awaited_loads, wanted_of, wanting}
use Rattle.history_core.specs.declared.answers.Answer.{Answer}

-- a cell has a source, exact or rolled
abbrev pub HasSource : CacheOf → Cell → Type 0
HasSource cache cell = IsTrue (has_source cache.setting.catalog cache.entries cell)

-- some cell wants a load: it has no source, and awaits no load in flight
abbrev pub SomeWants : CacheOf → List Cell → Type 0
SomeWants cache cells =
    (cell : Cell) × Contains cells cell
    × (has_source cache.setting.catalog cache.entries cell ≡ false)
    × (awaited_load cache.entries cell ≡ None)

-- cells wait for loads in flight: each has a source or awaits one, some cell has none, and the loads are those that the
-- cells without a source await, rising
pub record Waits (cache : CacheOf) (cells : List Cell) (loads : List ℕ) : Type 0 where
  pub served : wanted_of cache cells ≡ []
  pub some : (cell : Cell) × Contains cells cell
      × (has_source cache.setting.catalog cache.entries cell ≡ false)
  pub rising : IsTrue (rise loads)
  pub own : (load : ℕ) → among loads load
      ≡ among
      (awaited_loads cache.entries (wanting cache.setting.catalog cache.entries cells)) load

-- cells are taken from sources, in their order: each from one of its own, and cells that are equal from the same
pub record AreSources (cache : CacheOf) (cells : List Cell) (sources : List CellSource)
    : Type 0 where
  pub of_cells : map (λ source. source.cell) sources ≡ cells
  pub own : All
      (λ source. IsSource cache.setting.catalog cache.entries source.cell source.loads) sources
  pub same : (one other : CellSource) → Contains sources one → Contains sources other
      → one.cell ≡ other.cell → one.loads ≡ other.loads

-- the answer to some cells at the end of a history: its position, the sources that the cells are taken from, and for
-- each cell its worth, and the version of its source, which is no older than the cell's floor
pub record IsAnswer (cache : CacheOf) (cells : List Cell) (answer : Answer) : Type 0 where
  pub position : answer.position ≡ length cache.entries + 1
  pub sources : AreSources cache cells answer.sources.value
  pub values : map (worth cache.setting.catalog cache.entries) answer.sources.value
      ≡ map (λ answered. Some answered.value) answer.cells
  pub versions : map (answered_version cache.entries) answer.sources.value
      ≡ map (λ answered. Some answered.version) answer.cells
  pub fresh : IsTrue
      (list_all
      (λ pair. nat_le (floor cache.entries pair.0) pair.1.version) (zip cells answer.cells))

-- an entry was added, and after it evictions alone, after which the kept loads have no more groups than the budget
pub record AddsEvicting (before after : CacheOf) (entry : Entry) : Type 0 where
  pub evicted : List ℕ
  pub setting : after.setting ≡ before.setting
  pub entries : after.entries ≡ before.entries ++ entry ∷ map Evict evicted
  pub within : kept_groups after.setting.catalog after.entries ≤ after.setting.budget
