-- Parts of a file, summed up.
use Rattle.std.specs.Prelude.{◌≡◌, ◌≤◌, ℕ, ℤ, List, Option, None, length}
use Rattle.olap_meaning.specs.FileQuery.{FileQuery, asked_values, first_fault}
use Rattle.olap_meaning.specs.declared.Aggregator.{Aggregator}
use Rattle.olap_meaning.specs.declared.TheConstants.{ROW_LIMIT}

-- what is kept of a part's records: the values that are asked for, and how many records there are
pub record PartSum : Type 0 where
  pub aggregator : Aggregator
  pub values : List (Option ℤ)
  pub count : ℕ

-- the records that are asked for are among those of a file
pub record IsWithinFile (values : List (Option ℤ)) (count : ℕ) : Type 0 where
  pub asked : length values ≤ count
  pub small : count ≤ ROW_LIMIT

-- a part is without a fault of its own, and this is kept of it
pub record IsPart (query : FileQuery) (header : List (List ℕ)) (rows : List (List (List ℕ)))
    (part : PartSum) : Type 0 where
  pub sound : first_fault query header 1 rows ≡ None
  pub summed : part
      ≡ record {
        aggregator = query.aggregator;
        values = asked_values query header rows;
        count = length rows;
      }
