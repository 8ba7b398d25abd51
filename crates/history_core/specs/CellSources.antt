-- Cells with their loads, as they are kept in few bytes.
use Rattle.std.specs.Prelude.{ℕ, ◌≡◌, ◌<◌, ◌+◌, List, [], ◌∷◌, drop, length, map, slice_index_or}
use Rattle.std.specs.List.{AllByRecursion, zip}
use Rattle.olap_meaning.specs.declared.cells.Cell.{Cell}
use Rattle.olap_meaning.specs.declared.cells.CellSource.{CellSource}
use Rattle.history_core.specs.declared.kinds.Kind.{Kind}
use Rattle.history_core.specs.declared.numbers.Numbers.{Numbers}

-- what a cell has in common with those that differ from it in their values alone
abbrev pub kind_of : Cell → Kind
kind_of cell =
    record { cube = cell.cube; measure = cell.measure; columns = map (λ pair. pair.0) cell.at }

-- the kind of a number
abbrev pub kind_at : List Kind → ℕ → Kind
kind_at kinds number = slice_index_or kinds number (record { cube = 0; measure = 0; columns = [] })

-- the cell of a kind with the first of some values
abbrev pub cell_of : Kind → List ℕ → Cell
cell_of kind values =
    record { cube = kind.cube; measure = kind.measure; at = zip kind.columns values }

-- cells with their loads: the kind and the loads of a cell have numbers, and the values of all stand one after another
abbrev pub unpacked : List Kind → List (List ℕ) → List Numbers → List ℕ → List CellSource
unpacked kinds lists [] values = []
unpacked kinds lists (cell ∷ cells) values =
    (record {
      cell = cell_of (kind_at kinds cell.kind) values;
      loads = slice_index_or lists cell.loads [];
    })
    ∷ unpacked kinds lists cells (drop (length (kind_at kinds cell.kind).columns) values)

-- how many values cells have together
abbrev pub value_total : List Kind → List Numbers → ℕ
value_total kinds [] = 0
value_total kinds (cell ∷ cells) =
    length (kind_at kinds cell.kind).columns + value_total kinds cells

-- the numbers of a cell are those of a kind and of a list of loads
abbrev pub AreNumbersOf : List Kind → List (List ℕ) → Numbers → Type 0
AreNumbersOf kinds lists cell = (cell.kind < length kinds) × (cell.loads < length lists)

-- what is kept fits together: all numbers are known, and there are as many values as the cells have columns
pub record IsPacked (kinds : List Kind) (lists : List (List ℕ)) (cells : List Numbers)
    (values : List ℕ) : Type 0 where
  pub known : AllByRecursion (AreNumbersOf kinds lists) cells
  pub whole : value_total kinds cells ≡ length values
