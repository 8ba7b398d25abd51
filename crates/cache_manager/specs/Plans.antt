-- What a look prepares before it starts loads.
use Rattle.std.specs.Prelude.{ℕ, suc, ◌≡◌, ⊤, List, [], ◌∷◌, ◌++◌, Option, IsFalse, IsTrue, filter, length}
use Rattle.olap_meaning.specs.declared.cells.Cell.{Cell}
use Rattle.olap_meaning.specs.declared.cells.Header.{Header}
use Rattle.olap_meaning.specs.declared.cells.Who.{Who}
use Rattle.olap_meaning.specs.declared.tables.Setting.{Setting}
use Rattle.olap_meaning.specs.Covering.{among}
use Rattle.olap_meaning.specs.History.{Entry, Start, rows_of, version}
use Rattle.olap_meaning.specs.Legal.{LegalStep}
use Rattle.history_core.specs.Entries.{entry_of}
use Rattle.agg_tables.specs.Costs.{cheapest}
use Rattle.agg_tables.specs.Tables.{TableOf}
use Rattle.fact_reader.specs.BodyRows.{rows_in}
use Rattle.load_costs.specs.Costs.{tables_built}
use Rattle.history_core.specs.Cache.{CacheOf}
use Rattle.history_core.specs.Groups.{IsHeaderFor, alike, load_with}
use Rattle.segment_header.specs.Headers.{is_header}
use Rattle.segment_header.specs.Widening.{Allowing}
use Rattle.load_sharing.specs.Flights.{FlightOf}
use Rattle.cache_manager.specs.declared.starts.Flying.{Flying}
use Rattle.cache_manager.specs.declared.starts.Planned.{Planned}

-- a load that is about to fly, as one in flight, with its place among the regions that were flushed
abbrev pub flight_for : ℕ → Flying → FlightOf
flight_for place flying =
    record {
      load = flying.load;
      who = flying.who;
      header = flying.header;
      version = flying.version;
      place = place;
    }

-- what a load of a header from a version of a cube reads: the cheapest of the facts and the tables that were built
abbrev pub read_of : CacheOf → ℕ → Header → ℕ → Option TableOf
read_of cache cube header version =
    cheapest header version (length (rows_of cache.entries cube version))
    (tables_built cache.setting.catalog cache.entries)

-- what is prepared for the load of a group, which is to have this number: its Start, its flight and its job. The group is
-- told by its first cell and its cells
pub record IsPrepared (allowing : Allowing) (cache : CacheOf) (who : Who) (cells : List Cell)
    (number : ℕ) (first : Cell) (planned : Planned) : Type 0 where
  pub allowed : IsHeaderFor allowing cache.setting.catalog first cells planned.job.header
  pub start : entry_of planned.start ≡ Start (load_with cache who first planned.job.header)
  pub flight : planned.flight
      ≡ record {
        load = number;
        who = who;
        header = planned.job.header;
        version = version cache.entries first.cube;
      }
  pub formed : IsTrue (is_header planned.flight.header)
  pub load : planned.job.load ≡ number
  pub who_is : planned.job.who ≡ who
  pub catalog : planned.job.catalog ≡ cache.setting.catalog
  pub rows : rows_in planned.job.snapshot
      ≡ rows_of cache.entries first.cube (version cache.entries first.cube)
  pub version_is : length planned.job.snapshot ≡ version cache.entries first.cube
  pub read : planned.job.read
      ≡ read_of cache first.cube planned.job.header (version cache.entries first.cube)

-- what is prepared for the groups of some first cells, whose loads are numbered from one on
abbrev pub ArePrepared : Allowing → CacheOf → Who → List Cell → ℕ → List Cell → List Planned
    → Type 0
ArePrepared allowing cache who wanted number [] [] = ⊤
ArePrepared allowing cache who wanted number (first ∷ firsts) (planned ∷ plans) =
    IsPrepared allowing cache who (filter (alike first) wanted) number first planned
    × ArePrepared allowing cache who wanted (suc number) firsts plans
ArePrepared allowing cache who wanted number _ _ = ⊥

-- each of some entries is a legal step after those before it
abbrev pub AreLegalSteps : Setting → List Entry → List Entry → Type 0
AreLegalSteps setting history [] = ⊤
AreLegalSteps setting history (entry ∷ entries) =
    LegalStep setting history entry × AreLegalSteps setting (history ++ entry ∷ []) entries

-- numbers are put after some, one after another, of which each is new
abbrev pub AreNew : List ℕ → List ℕ → Type 0
AreNew before [] = ⊤
AreNew before (number ∷ numbers) =
    IsFalse (among before number) × AreNew (before ++ number ∷ []) numbers
