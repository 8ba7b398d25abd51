-- What many cells are folded to.
use Rattle.std.specs.Prelude.{ℕ, ℤ, ◌≡◌, List, [], ◌∷◌, Bool, true, Option, flat_map, map, bytes_eq}
use Rattle.std.specs.List.{list_all}
use Rattle.std.specs.List.Sorted.{IsPermutation}
use Rattle.olap_meaning.specs.declared.Aggregator.{Aggregator}
use Rattle.olap_meaning.specs.declared.cells.Allowed.{Allowed}
use Rattle.olap_meaning.specs.declared.cells.Cell.{Cell}
use Rattle.olap_meaning.specs.Covering.{columns_of}
use Rattle.olap_meaning.specs.Values.{aggregate}
use Rattle.measure_folds.specs.Tallied.{Tallied}
use Rattle.segment_body.specs.BodyOf.{BodyOf, body_row_in}
use Rattle.segment_body.specs.Folds.{body_row_within, numbers_where}

-- the values of a cell, column by column
abbrev pub values_in : Cell → List ℕ
values_in cell = map (λ pair. pair.1) cell.at

-- cells have the same columns, in the same order
abbrev pub are_alike : List Cell → Bool
are_alike [] = true
are_alike (cell ∷ cells) =
    list_all (λ other. bytes_eq (columns_of cell) (columns_of other)) cells

-- a fold of a body: of its rows, those that have in one column a value that is allowed
pub record FoldOf : Type 0 where
  pub body : BodyOf
  pub column : ℕ
  pub own : Allowed

abbrev pub fold_of : BodyOf → ℕ → Allowed → FoldOf
fold_of body column own = record { body = body; column = column; own = own }

-- the numbers of the rows of a fold that are in a cell, in order
abbrev pub fold_numbers : Cell → FoldOf → List (Option ℤ)
fold_numbers cell fold =
    numbers_where
    (body_row_within fold.body.header cell fold.column fold.own) fold.body.rows

-- those of some folds, one fold after another
abbrev pub folded_numbers : Cell → List FoldOf → List (Option ℤ)
folded_numbers cell folds = flat_map (fold_numbers cell) folds

-- tallies of cells of the same columns: what they are summed up by, the cells, and the folds that they have taken
pub record TalliesOf : Type 0 where
  pub aggregator : Aggregator
  pub cells : List Cell
  pub folds : List FoldOf

-- a tally is that of the rows of some folds that are in a cell, in some order
pub record AreFolded (by : Aggregator) (folds : List FoldOf) (cell : Cell) (tally : Tallied)
    : Type 0 where
  pub aggregator : tally.aggregator ≡ by
  pub rows : IsPermutation (folded_numbers cell folds) tally.values
  pub worth : aggregate tally.aggregator tally.values
      ≡ aggregate by (folded_numbers cell folds)
