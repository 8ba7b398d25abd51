-- The fact rows of a batch.
use Rattle.std.specs.Prelude.{ℕ, List}
use Rattle.olap_meaning.specs.declared.tables.Row.{Row}

-- some fact rows of one cube: how many leaves and how many numbers each row has, and the rows
pub record FactRows : Type 0 where
  pub dimensions : ℕ
  pub columns : ℕ
  pub rows : List Row
