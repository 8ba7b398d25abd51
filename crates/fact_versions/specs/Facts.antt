-- The facts of some cubes, and what a further batch makes of them.
use Rattle.std.specs.Prelude.{◌≡◌, ℕ, ◌+◌, ◌==◌, nat_lt, List, [], ◌∷◌, ◌++◌, Option, Some, None, if◌then◌else◌, length, slice_index_or, slice_set, sum_by}
use Rattle.olap_meaning.specs.declared.TheConstants.{VERSION_LIMIT}
use Rattle.fact_versions.specs.FactRows.{FactRows}
use Rattle.fact_versions.specs.declared.faults.AppendFault.{AppendFault}
use Rattle.fact_versions.specs.declared.faults.AppendFault.TheVariants.{TooManyRows, TooManyVersions}

-- the facts of some cubes: how many rows they may have over all cubes, and each cube's batches in the order in which
-- they came
pub record FactsOf : Type 0 where
  pub limit : ℕ
  pub cubes : List (List FactRows)

-- the rows of some batches
abbrev pub rows_of_batches : List FactRows → ℕ
rows_of_batches batches = sum_by (λ batch. length batch.rows) batches

-- the rows held over all cubes
abbrev pub rows_held : FactsOf → ℕ
rows_held facts = sum_by rows_of_batches facts.cubes

-- the batches of a cube
abbrev pub batches_of : FactsOf → ℕ → List FactRows
batches_of facts cube = slice_index_or facts.cubes cube []

-- the rows of two batches have as many leaves and as many values
abbrev pub IsAlike : FactRows → FactRows → Type 0
IsAlike one other = (one.dimensions ≡ other.dimensions) × (one.columns ≡ other.columns)

-- what a batch finds that is appended: how many rows there may be over all cubes, how many there are, the version of
-- its cube, and how many rows it brings
pub record Arrival : Type 0 where
  pub limit : ℕ
  pub held : ℕ
  pub version : ℕ
  pub brought : ℕ

-- why a batch is refused: first too many rows over all cubes, then too many versions of its cube
abbrev pub append_fault : Arrival → Option AppendFault
append_fault batch =
    if nat_lt batch.limit (batch.held + batch.brought)
    then Some (TooManyRows (batch.held + batch.brought) batch.limit)
    else if batch.version == VERSION_LIMIT then Some (TooManyVersions VERSION_LIMIT)
    else None

-- what a batch of a cube finds in some facts
abbrev pub arrival : FactsOf → ℕ → FactRows → Arrival
arrival facts cube batch =
    record {
      limit = facts.limit;
      held = rows_held facts;
      version = length (batches_of facts cube);
      brought = length batch.rows;
    }

-- the facts with one batch more at the end of a cube
abbrev pub with_batch : FactsOf → ℕ → FactRows → FactsOf
with_batch facts cube batch =
    record facts { cubes = slice_set facts.cubes cube (batches_of facts cube ++ batch ∷ []) }
