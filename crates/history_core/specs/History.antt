-- A history with its setting.
use Rattle.std.specs.Prelude.{ℕ, List}
use Rattle.olap_meaning.specs.declared.tables.Catalog.{Catalog}
use Rattle.olap_meaning.specs.declared.tables.Setting.{Setting}
use Rattle.olap_meaning.specs.History.{Entry}

-- a history: its setting, its entries from the oldest, and how many more it has room for
pub record HistoryOf : Type 0 where
  pub setting : Setting
  pub entries : List Entry
  pub spare : ℕ

-- the setting of a catalog, a limit of rows and a budget of groups
abbrev pub setting_of : Catalog → ℕ → ℕ → Setting
setting_of catalog row_limit budget =
    record { catalog = catalog; row_limit = row_limit; budget = budget }
