-- A query and the header of the file that it is asked of.
use Rattle.std.specs.Prelude.{◌≡◌, ℕ, List, Some, map}
use Rattle.olap_meaning.specs.FileQuery.{FileQuery}
use Rattle.olap_meaning.specs.Records.{column_place}

pub record Bound : Type 0 where
  pub query : FileQuery
  pub header : List (List ℕ)

-- the places are those of the query's columns in the header
pub record ArePlaced (query : FileQuery) (header : List (List ℕ)) (column : ℕ)
    (filters : List ℕ) : Type 0 where
  pub column_found : column_place query.column header ≡ Some column
  pub filters_found : map (λ place. Some place) filters
      ≡ map (λ pair. column_place pair.0 header) query.pairs
