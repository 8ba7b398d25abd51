-- Loads in flight, as a list.
use Rattle.std.specs.Prelude.{ℕ, ◌≡◌, ◌≤◌, ◌==◌, ◌&&◌, List, Bool, true, false, All, Contains, Option, Some, None, drop, map, nat_lt}
use Rattle.std.specs.List.{find}
use Rattle.olap_meaning.specs.declared.cells.Cell.{Cell}
use Rattle.olap_meaning.specs.declared.cells.Who.{Who}
use Rattle.olap_meaning.specs.declared.cells.Header.{Header}
use Rattle.olap_meaning.specs.declared.regions.Region.{Region}
use Rattle.olap_meaning.specs.Covering.{concerning, just_covers}
use Rattle.cache_flush.specs.Shuts.{is_live}
use Rattle.load_sharing.specs.declared.flight.Flight.{Flight}

-- a load in flight: its number, whose it is, its header and version, and how many regions had been flushed at its Start
pub record FlightOf : Type 0 where
  pub load : ℕ
  pub who : Who
  pub header : Header
  pub version : ℕ
  pub place : ℕ

-- a load in flight without what says that its header is well formed
abbrev pub flight_of : Flight → FlightOf
flight_of flight =
    record {
      load = flight.load;
      who = flight.who;
      header = flight.header;
      version = flight.version;
      place = flight.place;
    }

-- loads in flight, and how many more there is room for
pub record FlightsOf : Type 0 where
  pub flights : List FlightOf
  pub places : ℕ

-- the numbers of loads in flight
abbrev pub numbers_of : List FlightOf → List ℕ
numbers_of flights = map (λ flight. flight.load) flights

-- the load in flight of a number
abbrev pub flight_at : List FlightOf → ℕ → Option FlightOf
flight_at flights load = find (λ flight. flight.load == load) flights

-- the regions that shut off part of a load in flight: of those that were flushed the ones after its place that concern its
-- header
abbrev pub shut_of : List Region → FlightOf → List Region
shut_of regions flight = concerning flight.header (drop flight.place regions)

-- a cell awaits a load in flight: the load covers the cell with just the cell's columns, and no region shuts it off for the
-- cell
abbrev pub is_awaited : List Region → FlightOf → Cell → Bool
is_awaited regions flight cell =
    just_covers flight.header cell && is_live (shut_of regions flight) cell

-- of loads in flight, the least number of those that a cell awaits, if there is one
abbrev pub IsLeastAwaited : List Region → List FlightOf → Cell → Option ℕ → Type 0
IsLeastAwaited regions flights cell None =
    All (λ flight. is_awaited regions flight cell ≡ false) flights
IsLeastAwaited regions flights cell (Some load) =
    (best : FlightOf) × Contains flights best × (best.load ≡ load)
    × (is_awaited regions best cell ≡ true)
    × All (λ flight. is_awaited regions flight cell ≡ true → load ≤ flight.load) flights

-- a number is less than another, if there is another
abbrev pub is_less : ℕ → Option ℕ → Bool
is_less load None = true
is_less load (Some other) = nat_lt load other
