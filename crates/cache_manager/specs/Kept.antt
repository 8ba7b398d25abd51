-- What a manager keeps beside its history, and what that means in the history.
use Rattle.std.specs.Prelude.{ℕ, ◌≡◌, ◌≤◌, ◌+◌, List, All, IsTrue, Some, filter_map, length, map, take}
use Rattle.olap_meaning.specs.declared.TheConstants.{ROW_LIMIT}
use Rattle.olap_meaning.specs.declared.cells.Header.{Header}
use Rattle.olap_meaning.specs.declared.regions.Region.{Region}
use Rattle.olap_meaning.specs.declared.tables.Catalog.{Catalog}
use Rattle.olap_meaning.specs.declared.tables.Setting.{Setting}
use Rattle.olap_meaning.specs.Covering.{among}
use Rattle.olap_meaning.specs.History as history
use Rattle.olap_meaning.specs.History.{Entry, Load, appended, flushed, flying, load_at, rows_of, shutting, version}
use Rattle.olap_meaning.specs.Legal as legal
use Rattle.fact_versions.specs.Facts.{FactsOf, batches_of, rows_held}
use Rattle.segment_header.specs.Headers.{is_header}
use Rattle.fact_reader.specs.BodyRows.{HoldsRows, are_batches}
use Rattle.cache_flush.specs.Loads as kept
use Rattle.cache_flush.specs.Loads.{KeptOf}
use Rattle.agg_tables.specs.Tables.{TableOf}
use Rattle.load_costs.specs.Costs.{tables_built}
use Rattle.load_sharing.specs.Flights as flight
use Rattle.load_sharing.specs.Flights.{FlightOf}

-- the facts are those that the history has appended to each cube, each batch is one of its cube, and the limit of rows is
-- no greater than may be
pub record AreFactsOf (setting : Setting) (entries : List Entry) (facts : FactsOf) : Type 0 where
  pub limit : facts.limit ≡ setting.row_limit
  pub limit_fits : setting.row_limit ≤ ROW_LIMIT
  pub cubes : length facts.cubes ≡ length setting.catalog.cubes
  pub held : rows_held facts ≡ legal.rows_held entries
  pub each : (cube : ℕ)
      → map (λ batch. batch.rows) (batches_of facts cube) ≡ filter_map (appended cube) entries
  pub fit : (cube : ℕ) → IsTrue (are_batches setting.catalog cube (batches_of facts cube))

-- a kept load is one that the history keeps: of its version, its body holds the rows of its header in that version,
-- and what shuts off part of it is what the history says
pub record IsKept (catalog : Catalog) (entries : List Entry) (kept : KeptOf) : Type 0 where
  pub load : Load
  pub started : load_at entries kept.load ≡ Some load
  pub delivered : IsTrue (history.kept entries kept.load)
  pub version : kept.version ≡ load.version
  pub formed : IsTrue (is_header load.header)
  pub holds : HoldsRows catalog load.header (rows_of entries load.header.cube load.version)
      kept.body
  pub shut : kept.shut ≡ shutting entries kept.load

-- the regions that a history flushed, in order
abbrev pub regions_of : List Entry → List Region
regions_of entries = filter_map flushed entries

-- a load in flight is one that flies: by whom, of its header and version, and its place is how many regions were flushed
-- before its Start
pub record IsFlight (entries : List Entry) (flight : FlightOf) : Type 0 where
  pub load : Load
  pub started : load_at entries flight.load ≡ Some load
  pub flies : IsTrue (flying entries flight.load)
  pub who : flight.who ≡ load.who
  pub header : flight.header ≡ load.header
  pub version : flight.version ≡ load.version
  pub place : flight.place ≡ length (regions_of (take flight.load entries))

-- the headers of loads in flight
abbrev pub headers_of : List FlightOf → List Header
headers_of flights = map (λ flight. flight.header) flights

-- how many entries close what a manager has opened: of each load in flight its end and its eviction, and the eviction of
-- each kept load
abbrev pub closing : List FlightOf → List KeptOf → ℕ
closing flights loads = length flights + length flights + length loads

-- what a manager keeps is what its history says: the facts, the regions that were flushed, each kept load and no other,
-- each load in flight and no other, and of each aggregate table the one that was built last; and there is room for the
-- entries that close all of this, and a place on the shelf for each load in flight
pub record IsManager (setting : Setting) (entries : List Entry) (spare : ℕ) (facts : FactsOf)
    (regions : List Region) (loads : List KeptOf) (has_places : List Header → Type 0) (flights : List FlightOf)
    (tables : List TableOf) : Type 0 where
  pub facts_are : AreFactsOf setting entries facts
  pub regions_are : regions ≡ regions_of entries
  pub kept_are : All (IsKept setting.catalog entries) loads
  pub kept_all : (j : ℕ) → IsTrue (history.kept entries j)
      → IsTrue (among (kept.numbers_of loads) j)
  pub flights_are : All (IsFlight entries) flights
  pub flights_all : (j : ℕ) → IsTrue (flying entries j)
      → IsTrue (among (flight.numbers_of flights) j)
  pub tables_are : tables ≡ tables_built setting.catalog entries
  pub ends_fit : closing flights loads ≤ spare
  pub places_fit : has_places (headers_of flights)
