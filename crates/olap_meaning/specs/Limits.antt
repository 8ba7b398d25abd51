-- The limits of what is taken in, as numbers.
use Rattle.std.specs.Prelude.{ℕ, ◌≡◌}
use Rattle.olap_meaning.specs.declared.TheConstants.{CELL_LIMIT, ROW_LIMIT, VERSION_LIMIT}
use Rattle.olap_meaning.specs.declared.schema.TheConstants.{AGGREGATE_LIMIT, CUBE_LIMIT, DIMENSION_LIMIT, LEVEL_LIMIT, MEASURE_LIMIT, RECORD_LIMIT, USE_LIMIT}

-- the most fact rows that the cubes of a cache have together, and the most records of a file that is asked by itself
abbrev pub row_limit : ℕ
row_limit = 8_000_000

-- the most records of a dimension's table
abbrev pub record_limit : ℕ
record_limit = 1_000_000

-- the constants of the code, which the other definitions cite, are these numbers
pub record LimitsAreStated : Type 0 where
  pub rows : ROW_LIMIT ≡ row_limit
  pub records : RECORD_LIMIT ≡ record_limit
  pub versions : VERSION_LIMIT ≡ 100_000
  pub cells : CELL_LIMIT ≡ 100_000
  pub dimensions : DIMENSION_LIMIT ≡ 32
  pub levels : LEVEL_LIMIT ≡ 64
  pub cubes : CUBE_LIMIT ≡ 16
  pub uses : USE_LIMIT ≡ 16
  pub measures : MEASURE_LIMIT ≡ 16
  pub aggregates : AGGREGATE_LIMIT ≡ 16
