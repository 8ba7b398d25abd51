-- A cache as contracts see it.
use Rattle.std.specs.Prelude.{List}
use Rattle.olap_meaning.specs.declared.tables.Setting.{Setting}
use Rattle.olap_meaning.specs.History.{Entry}

-- a cache: what never changes of it, and what happened in it
pub record CacheOf : Type 0 where
  pub setting : Setting
  pub entries : List Entry
