-- Aggregate tables that a cache may install.
use Rattle.std.specs.Prelude.{ℕ, ◌≡◌, ◌≤◌, Some}
use Rattle.olap_meaning.specs.Catalog.{table_cube}
use Rattle.olap_meaning.specs.History.{rows_of, version}
use Rattle.agg_tables.specs.Tables.{TableOf, built_over}
use Rattle.history_core.specs.Cache.{CacheOf}

-- a table is a cache's own: it is what is built over the rows of its version, which its cube has reached
pub record IsOwnTable (cache : CacheOf) (table : TableOf) : Type 0 where
  pub cube : ℕ
  pub known : table_cube cache.setting.catalog table.table ≡ Some cube
  pub reached : table.version ≤ version cache.entries cube
  pub built : built_over cache.setting.catalog table.table table.version
      (rows_of cache.entries cube table.version) ≡ Some table
