-- A dimension and the header of its table's file.
use Rattle.std.specs.Prelude.{◌≡◌, ◌≤◌, ℕ, List, [], Bool, Some, length, map, nat_lt, slice_get, unwrap_or}
use Rattle.std.specs.List.{list_all}
use Rattle.olap_meaning.specs.declared.schema.SchemaDimension.{SchemaDimension}
use Rattle.olap_meaning.specs.declared.schema.TheConstants.{LEVEL_LIMIT}
use Rattle.olap_meaning.specs.Records.{column_place}
use Rattle.dim_tables.specs.TableFiles.{level_columns}

pub record Bound : Type 0 where
  pub dimension : SchemaDimension
  pub header : List (List ℕ)

-- the places are those of the dimension's columns in the header
pub record ArePlaced (dimension : SchemaDimension) (header : List (List ℕ)) (key : ℕ)
    (fields : List ℕ) : Type 0 where
  pub key_found : column_place dimension.primary_key header ≡ Some key
  pub fields_found : map (λ place. Some place) fields
      ≡ map (λ column. column_place column header) (level_columns dimension)
  pub few : length fields ≤ LEVEL_LIMIT

-- the places are those of fields of a row
abbrev pub are_within : List ℕ → List (List ℕ) → Bool
are_within places row = list_all (λ place. nat_lt place (length row)) places

-- the fields of a row at some places
abbrev pub fields_at : List ℕ → List (List ℕ) → List (List ℕ)
fields_at places row = map (λ place. unwrap_or (slice_get row place) []) places
