-- What a batch finds in a cache.
use Rattle.std.specs.Prelude.{ℕ, List, length}
use Rattle.olap_meaning.specs.declared.tables.Row.{Row}
use Rattle.olap_meaning.specs.History.{version}
use Rattle.olap_meaning.specs.Legal.{rows_held}
use Rattle.fact_versions.specs.Facts.{Arrival}
use Rattle.history_core.specs.Cache.{CacheOf}

-- what a batch of these rows finds in a cache, that is appended to a cube
abbrev pub arrival_in : CacheOf → ℕ → List Row → Arrival
arrival_in cache cube rows =
    record {
      limit = cache.setting.row_limit;
      held = rows_held cache.entries;
      version = version cache.entries cube;
      brought = length rows;
    }
