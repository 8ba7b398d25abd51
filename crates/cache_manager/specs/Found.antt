-- What a look finds.
use Rattle.std.specs.Prelude.{ℕ, ◌≡◌, ◌<◌, ⊤, List, [], ◌∷◌, Bool, true, false, Some, IsTrue, length, map, option_map, slice_get, unwrap_or}
use Rattle.olap_meaning.specs.declared.cells.Cell.{Cell}
use Rattle.olap_meaning.specs.declared.cells.CellSource.{CellSource}
use Rattle.olap_meaning.specs.declared.regions.Region.{Region}
use Rattle.olap_meaning.specs.declared.tables.Catalog.{Catalog}
use Rattle.olap_meaning.specs.Covering.{just_covers}
use Rattle.olap_meaning.specs.History.{Entry, exact_source}
use Rattle.olap_meaning.specs.Legal.{has_source}
use Rattle.olap_meaning.specs.Worth.{answered_version, worth}
use Rattle.history_core.specs.declared.answers.Answered.{Answered}
use Rattle.history_core.specs.Answers.{AreSources}
use Rattle.history_core.specs.Cache.{CacheOf}
use Rattle.history_core.specs.Groups.{wanting}
use Rattle.cache_flush.specs.Loads.{KeptOf, kept_of}
use Rattle.cache_flush.specs.declared.kept.Kept.{Kept}
use Rattle.cache_manager.specs.Kept.{IsKept}
use Rattle.cell_groups.specs.Lent.{lent}
use Rattle.cache_manager.specs.Rollups.{cell_at, first_serving}
use Rattle.cache_manager.specs.declared.findings.Found.{Found}
use Rattle.cache_manager.specs.declared.findings.Found.TheVariants.{Exact, Rolled, Nothing}
use Rattle.cache_manager.specs.declared.findings.Hit.{Hit}
use Rattle.cache_manager.specs.declared.findings.Findings.{Findings}
use Rattle.cache_manager.specs.declared.findings.Findings.TheVariants.{Wanting, Served}
use Rattle.cache_manager.specs.declared.rollups.Rollup.{Rollup}

-- a kept load is the exact source of a cell, which it covers with just the cell's columns
pub record IsExact (catalog : Catalog) (entries : List Entry) (cell : Cell) (kept : KeptOf)
    : Type 0 where
  pub source : exact_source entries cell ≡ Some kept.load
  pub is : IsKept catalog entries kept
  pub serves : IsTrue (just_covers kept.body.header cell)

-- so is one that is lent, whatever shuts off part of it
abbrev pub IsExactBy : Catalog → List Entry → Cell → Kept → Type 0
IsExactBy catalog entries cell kept =
    (shut : List Region) × IsExact catalog entries cell (record (kept_of kept) { shut = shut })

-- what is found for a cell: the kept load that is its exact source; that it is a cell of a rollup; or that it has no
-- source
abbrev pub IsFound : Catalog → List Entry → List Rollup → Cell → Found → Type 0
IsFound catalog entries rollups cell (Exact kept) = IsExactBy catalog entries cell kept.now
IsFound catalog entries rollups cell (Rolled rollup place) =
    cell_at rollups rollup place ≡ Some cell
IsFound catalog entries rollups cell Nothing = has_source catalog entries cell ≡ false

-- so it is for a cell with what was found
abbrev pub IsHit : Catalog → List Entry → List Rollup → Hit → Type 0
IsHit catalog entries rollups hit = IsFound catalog entries rollups hit.cell.now hit.found

-- a rollup that was found for a cell is the first that serves the cell
abbrev pub IsFirst : List KeptOf → List Rollup → Cell → Found → Type 0
IsFirst loads rollups cell (Exact kept) = ⊤
IsFirst loads rollups cell (Rolled rollup place) =
    first_serving loads rollups cell ≡ Some rollup
IsFirst loads rollups cell Nothing = ⊤

-- nothing was found
abbrev pub is_nothing : Found → Bool
is_nothing (Exact kept) = false
is_nothing (Rolled rollup place) = false
is_nothing Nothing = true

-- a cell for which nothing was found
abbrev pub wants : Hit → Bool
wants hit = is_nothing hit.found

-- a rollup that was found is one of some
abbrev pub IsPlaced : List Rollup → Found → Type 0
IsPlaced rollups (Exact kept) = ⊤
IsPlaced rollups (Rolled rollup place) = rollup < length rollups
IsPlaced rollups Nothing = ⊤

-- the cells that were looked for
abbrev pub cells_of : List Hit → List Cell
cells_of hits = map (λ hit. hit.cell.now) hits

-- the loads that were found
abbrev pub loads_found : List Rollup → Found → List ℕ
loads_found rollups (Exact kept) = kept.now.load ∷ []
loads_found rollups (Rolled rollup place) =
    unwrap_or (option_map (λ found. found.loads.items) (slice_get rollups rollup)) []
loads_found rollups Nothing = []

-- a cell with the loads that were found for it
abbrev pub source_found : List Rollup → Hit → CellSource
source_found rollups hit =
    record { cell = hit.cell.now; loads = loads_found rollups hit.found }

-- cells that have sources are served: what they are taken from, what each is worth, and the version of its source
pub record AreServed (cache : CacheOf) (cells : List Cell) (answered : List Answered)
    (sources : List CellSource) : Type 0 where
  pub sources_are : AreSources cache cells sources
  pub values : map (worth cache.setting.catalog cache.entries) sources
      ≡ map (λ one. Some one.value) answered
  pub versions : map (answered_version cache.entries) sources
      ≡ map (λ one. Some one.version) answered

-- what a look finds of some cells: those that have no source, where there are some, and else that each is served
abbrev pub AreFindings : CacheOf → List Cell → Findings → Type 0
AreFindings cache cells (Wanting wanted) =
    (lent wanted.items ≡ wanting cache.setting.catalog cache.entries cells)
    × (0 < length (wanting cache.setting.catalog cache.entries cells))
AreFindings cache cells (Served answered sources) = AreServed cache cells answered sources
