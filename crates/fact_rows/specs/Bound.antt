-- A cube and the header of a batch's file.
use Rattle.std.specs.Prelude.{◌≡◌, ◌<◌, ℕ, List, Some, length, map}
use Rattle.olap_meaning.specs.declared.tables.Catalog.{Catalog}
use Rattle.olap_meaning.specs.Records.{column_place}
use Rattle.fact_rows.specs.declared.columns.KeyColumn.{KeyColumn}
use Rattle.fact_rows.specs.declared.columns.NumberColumn.{NumberColumn}
use Rattle.fact_rows.specs.BatchFiles.{HasDimensions, foreign_keys, number_columns}

pub record Bound : Type 0 where
  pub catalog : Catalog
  pub cube : ℕ
  pub header : List (List ℕ)

-- the foreign key that a column of the file is
abbrev pub key_pair : KeyColumn → List ℕ × ℕ
key_pair key = (key.name, key.dimension)

-- keys stand where their columns do in the header
abbrev pub AreKeysPlaced : List (List ℕ) → List KeyColumn → Type 0
AreKeysPlaced header keys =
    map (λ key. column_place key.name header) keys ≡ map (λ key. Some key.place) keys

-- numbers stand where their columns do in the header
abbrev pub AreNumbersPlaced : List (List ℕ) → List NumberColumn → Type 0
AreNumbersPlaced header numbers =
    map (λ column. column_place column.name header) numbers
    ≡ map (λ column. Some column.place) numbers

-- the columns are those of the cube, each with its place in the header
pub record ArePlaced (catalog : Catalog) (cube : ℕ) (header : List (List ℕ)) (keys : List KeyColumn)
    (numbers : List NumberColumn) : Type 0 where
  pub known : cube < length catalog.cubes
  pub paired : HasDimensions catalog cube
  pub keys_named : map key_pair keys ≡ foreign_keys catalog cube
  pub keys_placed : AreKeysPlaced header keys
  pub numbers_named : map (λ column. column.name) numbers ≡ number_columns catalog cube
  pub numbers_placed : AreNumbersPlaced header numbers
