-- What follows of looks and of loads in flight.
use Rattle.std.specs.Prelude.{ℕ, ◌≡◌, ◌+◌, List, ◌++◌, All, IsTrue, Some, false, length, map}
use Rattle.std.specs.List.{list_all, list_any}
use Rattle.olap_meaning.specs.declared.cells.Cell.{Cell}
use Rattle.olap_meaning.specs.declared.cells.Header.{Header}
use Rattle.olap_meaning.specs.declared.cells.Who.{Who}
use Rattle.olap_meaning.specs.History.{Entry, Load, Start, ends, evicts, flushes, flying, kept, starter}
use Rattle.olap_meaning.specs.Legal.{Legal, is_cell}
use Rattle.history_core.specs.Answers.{HasSource}
use Rattle.history_core.specs.Cache.{CacheOf}
use Rattle.history_core.specs.Groups.{AreHeadersFor, awaited_loads, load_count, loads_with, numbers_from, wanted_of, wanting}
use Rattle.history_core.specs.Seats.{entries_of}
use Rattle.fact_reader.specs.BodyRows.{HoldsRows, rows_in}
use Rattle.segment_body.specs.BodyOf.{BodyOf}
use Rattle.segment_header.specs.Widening.{Serves}
use Rattle.segment_load.specs.Loads.{JobOf}
use Rattle.cache_manager.specs.Jobs.{IsJobOf, IsOwn, IsOwnBody}

-- a delivered look is ready, whatever a widener allows: where each load that it started was delivered, and each that one
-- of its cells without a source awaited, in whatever order, and nothing that came after flushes its cells or evicts a load,
-- each of its cells has a source. A look that waits is one that started none
abbrev pub DeliveredLooksAreReady : Type 0
DeliveredLooksAreReady =
    (cache : CacheOf) (who : Who) (cells : List Cell) (headers : List Header) (later : List Entry)
    → IsTrue (list_all (is_cell cache.setting.catalog) cells)
    → AreHeadersFor Serves cache.setting.catalog (wanted_of cache cells) headers
    → All (λ cell. list_any (flushes cell) later ≡ false) cells
    → ((j : ℕ) → list_any (evicts j) later ≡ false)
    → All
    (λ j. IsTrue
    (kept (cache.entries ++ (map Start (loads_with cache who cells headers) ++ later)) j))
    (numbers_from (length cache.entries + 1) (load_count cache cells))
    → All
    (λ j. IsTrue
    (kept (cache.entries ++ (map Start (loads_with cache who cells headers) ++ later)) j))
    (awaited_loads cache.entries (wanting cache.setting.catalog cache.entries cells))
    → All
    (HasSource
    (record {
      setting = cache.setting;
      entries = cache.entries ++ (map Start (loads_with cache who cells headers) ++ later);
    })) cells

-- an own load flies: what one's own entries tell of it is so, since nobody else ends it
abbrev pub OwnLoadsFly : Type 0
OwnLoadsFly =
    (cache : CacheOf) (who : Who) (j : ℕ) (load : Load) → Legal cache.setting cache.entries
    → IsOwn cache who j load
    → IsTrue (flying cache.entries j) × (starter cache.entries j ≡ Some who)

-- a job stays one of its load however the history goes on, where no entry of its own seat ends the load: nobody else may
abbrev pub JobsStay : Type 0
JobsStay =
    (cache : CacheOf) (job : JobOf) (later : List Entry)
    → Legal cache.setting (cache.entries ++ later)
    → list_any (ends job.load) (entries_of later job.who.seat) ≡ false → IsJobOf cache job
    → IsJobOf (record { setting = cache.setting; entries = cache.entries ++ later }) job

-- what a job has come to is the body of its load, which may be delivered
abbrev pub OwnBodies : Type 0
OwnBodies =
    (cache : CacheOf) (job : JobOf) (body : BodyOf) → IsJobOf cache job
    → HoldsRows job.catalog job.header (rows_in job.snapshot) body
    → IsOwnBody cache job.who job.load body
