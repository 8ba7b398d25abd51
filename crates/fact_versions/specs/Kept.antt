-- What facts and snapshots keep beside their batches.
use Rattle.std.specs.Prelude.{◌≡◌, ◌≤◌, ℕ, All, List, length, sum_by}
use Rattle.olap_meaning.specs.declared.TheConstants.{ROW_LIMIT, VERSION_LIMIT}
use Rattle.fact_versions.specs.FactRows.{FactRows}
use Rattle.fact_versions.specs.Facts.{rows_of_batches}

-- the number of rows over all cubes, within its limit, and no cube has more versions than it may
pub record AreFacts (held limit : ℕ) (cubes : List (List FactRows)) : Type 0 where
  pub counted : held ≡ sum_by rows_of_batches cubes
  pub in_limit : held ≤ limit
  pub limit_fits : limit ≤ ROW_LIMIT
  pub versions_fit : All (λ batches. length batches ≤ VERSION_LIMIT) cubes

-- the number of rows of some batches of a cube
pub record IsSnapshot (rows : ℕ) (batches : List FactRows) : Type 0 where
  pub counted : rows ≡ rows_of_batches batches
  pub rows_fit : rows ≤ ROW_LIMIT
  pub versions_fit : length batches ≤ VERSION_LIMIT
