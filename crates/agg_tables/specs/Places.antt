-- Where the columns of a table stand in the header of its file, and in which of its folds each is summed up.
use Rattle.std.specs.Prelude.{ℕ, zero, suc, ◌≡◌, ◌==◌, ◌++◌, List, [], Some, length, map, option_to_list, position, slice_get, slice_index_or, take}
use Rattle.olap_meaning.specs.declared.tables.Catalog.{Catalog}
use Rattle.olap_meaning.specs.declared.tables.Row.{Row}
use Rattle.olap_meaning.specs.Records.{column_place}
use Rattle.segment_body.specs.BodyOf.{BodyOf}
use Rattle.agg_tables.specs.declared.declared.Declared.{Declared}
use Rattle.agg_tables.specs.declared.declared.FileColumn.{FileColumn}
use Rattle.agg_tables.specs.declared.declared.Fold.{Fold}
use Rattle.agg_tables.specs.declared.declared.TableLevel.{TableLevel}
use Rattle.agg_tables.specs.Bound.{AreFolds, IsPlaced}
use Rattle.agg_tables.specs.Files.{file_columns}
use Rattle.agg_tables.specs.Tables.{fold_over, folds_of}

-- the places of the levels of the columns below a number, in the order of the columns
abbrev pub order_below : List TableLevel → ℕ → List ℕ
order_below levels zero = []
order_below levels (suc column) =
    order_below levels column
    ++ option_to_list (position (λ level. level.column == column) levels)

-- the values at some places
abbrev pub chosen : List ℕ → List ℕ → List ℕ
chosen places values = map (λ place. slice_index_or values place 0) places

-- a table over the header of its file, and what is summed up for it
pub record FileOf : Type 0 where
  pub catalog : Catalog
  pub declared : Declared
  pub header : List (List ℕ)
  pub folds : List Fold

-- where the columns stand
pub record PlacesOf : Type 0 where
  pub levels : List ℕ
  pub order : List ℕ
  pub count : ℕ
  pub columns : List FileColumn
  pub numbers : List ℕ
  pub folds : List ℕ

-- levels stand where their columns do in a header
abbrev pub AreLevelsPlaced : List (List ℕ) → List TableLevel → List ℕ → Type 0
AreLevelsPlaced header levels places =
    map Some places ≡ map (λ level. column_place level.name header) levels

-- numbers stand where their columns do in a header
abbrev pub AreNumbersPlaced : List (List ℕ) → List FileColumn → List ℕ → Type 0
AreNumbersPlaced header columns places =
    map Some places ≡ map (λ column. column_place column.name header) columns

-- each column is summed up in one of some folds
abbrev pub AreSummed : List Fold → List FileColumn → List ℕ → Type 0
AreSummed folds columns places =
    map (slice_get folds) places ≡ map (λ column. Some column.fold) columns

-- a table is one of a catalog, and folds are those that it keeps, and after them others of its cube's measures
pub record IsBound (catalog : Catalog) (declared : Declared) (folds : List Fold) : Type 0 where
  pub placed : IsPlaced catalog declared
  pub known : AreFolds catalog declared folds
  pub own : take (length (folds_of declared.measures)) folds ≡ folds_of declared.measures

-- what a table over a header keeps
pub record IsFile (catalog : Catalog) (declared : Declared) (header : List (List ℕ))
    (folds : List Fold) (places : PlacesOf) : Type 0 where
  pub bound : IsBound catalog declared folds
  pub levels_placed : AreLevelsPlaced header declared.levels places.levels
  pub ordered : places.order ≡ order_below declared.levels (length catalog.columns)
  pub counted : column_place declared.fact_count header ≡ Some places.count
  pub columned : places.columns ≡ file_columns declared.measures
  pub numbers_placed : AreNumbersPlaced header places.columns places.numbers
  pub summed : AreSummed folds places.columns places.folds

-- a table over the header of its file, with its folds over some fact rows
pub record CheckerOf : Type 0 where
  pub file : FileOf
  pub rows : List Row

-- what is computed for a file: its folds over the rows
pub record AreComputed (file : FileOf) (rows : List Row) (bodies : List BodyOf) : Type 0 where
  pub bound : IsBound file.catalog file.declared file.folds
  pub computed : bodies ≡ map (fold_over file.catalog file.declared rows) file.folds
