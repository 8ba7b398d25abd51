-- The form of grids: which texts are grids, and of what. A text is the list of its bytes.
use Rattle.std.specs.Prelude.{ℕ, ◌≡◌, ◌<◌, ◌^◌, ◌++◌, List, [], ◌∷◌, All, codes, flat_map, length, map}
use Rattle.std.specs.Fmt.{decimal}
use Rattle.std.specs.List.{join_with_byte}
use Rattle.olap_meaning.specs.declared.CellValue.{CellValue}
use Rattle.olap_meaning.specs.Texts.{CanBeShown, line}
use Rattle.query_meaning.specs.declared.grids.Grid.{Grid}
use Rattle.query_meaning.specs.declared.grids.GridRow.{GridRow}
use Rattle.query_meaning.specs.Shown.{Shows}
use Rattle.query_meaning.specs.Titles.{IsTitle}

-- two lists are as long as one another, and two items at one place are as a relation says
abbrev pub Pairwise : {A B : Type 0} → (A → B → Type 0) → List A → List B → Type 0
Pairwise relation [] [] = Unit {0}
Pairwise relation [] (y ∷ ys) = ⊥
Pairwise relation (x ∷ xs) [] = ⊥
Pairwise relation (x ∷ xs) (y ∷ ys) = relation x y × Pairwise relation xs ys

-- a line of fields, with a tab between each two
abbrev pub fields_text : List (List ℕ) → List ℕ
fields_text fields = join_with_byte 9 fields

-- the first line of a grid: the position of its answer, and how many columns and rows it has
abbrev pub head_text : ℕ → ℕ → ℕ → List ℕ
head_text position columns rows =
    codes "GRID " ++ decimal position ++ codes " " ++ decimal columns ++ codes " " ++ decimal rows

-- the line of a column: C, and its title
abbrev pub column_text : List ℕ → List ℕ
column_text title = fields_text (codes "C" ∷ title ∷ [])

-- the line of a row: R, its title, and for each value a text that shows it
pub record IsRowText (shows : CellValue → List ℕ → Type 0) (row : GridRow)
    (text : List ℕ) : Type 0 where
  pub shown : List (List ℕ)
  pub each : Pairwise shows row.values shown
  pub is : text ≡ fields_text (codes "R" ∷ row.title ∷ shown)

-- the text of a grid, where values are shown as a relation says: its first line, a line for each column and for each
-- row, and a line with a dot
pub record IsGridText (shows : CellValue → List ℕ → Type 0) (grid : Grid)
    (text : List ℕ) : Type 0 where
  pub rows : List (List ℕ)
  pub each : Pairwise (IsRowText shows) grid.rows rows
  pub is : text ≡ flat_map line
      (head_text grid.position (length grid.columns) (length grid.rows)
      ∷ map column_text grid.columns ++ rows ++ codes "." ∷ [])

-- a row of this many columns: its title has the form of one, and each of its values can be shown
pub record IsRow (columns : ℕ) (row : GridRow) : Type 0 where
  pub title : IsTitle row.title
  pub count : length row.values ≡ columns
  pub values : All CanBeShown row.values

-- a grid: positions count from 1 and are of 64 bits, titles have the form of titles, and each row has a value for each
-- column
pub record IsGrid (grid : Grid) : Type 0 where
  pub first : 0 < grid.position
  pub last : grid.position < 2 ^ 64
  pub columns : All IsTitle grid.columns
  pub rows : All (IsRow (length grid.columns)) grid.rows

-- a text has the form of a grid, and is this one, whatever texts show its values
pub record IsOfGrid (text : List ℕ) (grid : Grid) : Type 0 where
  pub whole : IsGrid grid
  pub written : IsGridText Shows grid text
