-- How many cells are folded at once: by a table of their values.
use Rattle.std.specs.Prelude.{ℕ, ℤ, ◌≡◌, ◌≢◌, ◌+◌, ◌≤◌, ◌==◌, ◌&&◌, List, [], Bool, true, Option, Some, None, All, Contains, IsTrue, if◌then◌else◌, bytes_eq, flat_map, length, map, slice_get, slice_index_or}
use Rattle.std.specs.List.{list_all, list_any, position_or_len}
use Rattle.std.specs.List.Sorted.{IsPermutation}
use Rattle.olap_meaning.specs.declared.Aggregator.{Aggregator}
use Rattle.olap_meaning.specs.declared.Aggregator.TheVariants.{DistinctCount}
use Rattle.olap_meaning.specs.declared.TheConstants.{ROW_LIMIT}
use Rattle.olap_meaning.specs.declared.cells.Allowed.{Allowed}
use Rattle.olap_meaning.specs.declared.cells.Cell.{Cell}
use Rattle.list_orders.specs.Parts.{are_different}
use Rattle.segment_body.specs.declared.tallies.Fold.{Fold}
use Rattle.olap_meaning.specs.Covering.{columns_of}
use Rattle.segment_body.specs.AllFolds.{FoldOf, fold_of, folded_numbers, values_in}
use Rattle.segment_body.specs.Folds.{has_allowed, picked}
use Rattle.segment_body.specs.Groups.{Group, values_of, with_numbers}

-- where some columns stand among those of a header
abbrev pub places_of : List (ℕ × Allowed) → List ℕ → List ℕ
places_of columns some =
    map (λ column. position_or_len (λ own. own.0 == column) columns) some

-- the values at some places
abbrev pub chosen : List ℕ → List ℕ → List ℕ
chosen places values = map (λ place. slice_index_or values place 0) places

-- values on some columns have in one column a value that is allowed, where it matters what is allowed there
abbrev pub passes : List (ℕ × Allowed) → ℕ → Option Allowed → List ℕ → Bool
passes columns column None values = true
passes columns column (Some own) values = has_allowed columns column own values

-- values are those of a key at some places, and pass a test
abbrev pub are_taken : List ℕ → (List ℕ → Bool) → List ℕ → List ℕ → Bool
are_taken places test key values = bytes_eq key (chosen places values) && test values

-- a group takes the numbers of those of some groups whose values are taken for its own
abbrev pub grown : (List ℕ → List ℕ → Bool) → List Group → Group → Group
grown taken groups group = with_numbers group (picked (taken group.values) groups)

-- a group has room for them
abbrev pub has_room : (List ℕ → List ℕ → Bool) → List Group → Group → Type 0
has_room taken groups group =
    length group.tally.values + length (picked (taken group.values) groups) ≤ ROW_LIMIT

-- a group takes numbers where its values are those of a key
abbrev pub taken_by : List ℕ → List (Option ℤ) → Group → Group
taken_by key numbers group =
    if bytes_eq group.values key then with_numbers group numbers else group

-- the columns of some cells, the groups of their values, and the place of each cell's group
pub record TableOf : Type 0 where
  pub columns : List ℕ
  pub groups : List Group
  pub at : List ℕ

-- a table is well formed: its groups have different values, and it has room for a place and a value for each column
pub record IsTable (columns : List ℕ) (groups : List Group) (places key : List ℕ) : Type 0 where
  pub different : IsTrue (are_different bytes_eq (values_of groups))
  pub place_each : length places ≡ length columns
  pub value_each : length key ≡ length columns

-- a table has a group for the values of each of some cells of the same columns, and no other
pub record HoldsCells (cells : List Cell) (table : TableOf) : Type 0 where
  pub columns : All (λ cell. columns_of cell ≡ table.columns) cells
  pub placed : map (slice_get (values_of table.groups)) table.at
      ≡ map (λ cell. Some (values_in cell)) cells
  pub known : IsTrue
      (list_all (λ values. list_any (λ cell. bytes_eq values (values_in cell)) cells)
      (values_of table.groups))

-- it has groups of no row for them
pub record AreKeyed (aggregator : Aggregator) (cells : List Cell) (table : TableOf)
    : Type 0 where
  pub cells_held : HoldsCells cells table
  pub fresh : All
      (λ group. group.tally ≡ record { aggregator = aggregator; values = [] }) table.groups

-- the folds of a trace
abbrev pub folds_in : List Fold → List FoldOf
folds_in folds =
    flat_map
    (λ fold. flat_map
    (λ body. map (λ own. fold_of body fold.column own) fold.own.items) fold.body.items) folds

-- a table has the tallies of cells over folds: the group of a cell's values has the numbers of the rows of the folds that
-- are in the cell, in some order
pub record AreTallied (aggregator : Aggregator) (cells : List Cell) (folds : List FoldOf)
    (table : TableOf) : Type 0 where
  pub adds_up : aggregator ≢ DistinctCount
  pub cells_held : HoldsCells cells table
  pub alike : All (λ group. group.tally.aggregator ≡ aggregator) table.groups
  pub folded : All
      (λ group. (cell : Cell) → Contains cells cell → values_in cell ≡ group.values
      → IsPermutation (folded_numbers cell folds) group.tally.values) table.groups
  pub room : All (λ cell. length (folded_numbers cell folds) ≤ ROW_LIMIT) cells
