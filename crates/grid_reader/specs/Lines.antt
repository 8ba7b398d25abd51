-- The lines of a grid, and what each is of. A line is the list of its bytes.
use Rattle.std.specs.Prelude.{ℕ, ◌≡◌, ◌==◌, ◌<◌, ◌^◌, ◌++◌, List, [], ◌∷◌, codes, length}
use Rattle.std.specs.List.{slice_split}
use Rattle.olap_meaning.specs.declared.CellValue.{CellValue}
use Rattle.olap_meaning.specs.Texts.{CanBeShown}
use Rattle.query_meaning.specs.declared.grids.Grid.{Grid}
use Rattle.query_meaning.specs.declared.grids.GridRow.{GridRow}
use Rattle.query_meaning.specs.GridForm.{IsRow, IsRowText, Pairwise, column_text, head_text}
use Rattle.query_meaning.specs.Shown.{Shows}
use Rattle.query_meaning.specs.Titles.{IsTitle}
use Rattle.grid_reader.specs.declared.head.Head.{Head}

-- the texts between the places of a byte
abbrev pub parted : ℕ → List ℕ → List (List ℕ)
parted byte text = slice_split (λ b. b == byte) text

-- a line is the first of a grid, with these numbers
pub record IsHead (text : List ℕ) (head : Head) : Type 0 where
  pub is : text ≡ head_text head.position head.columns head.rows
  pub first : 0 < head.position
  pub last : head.position < 2 ^ 64
  pub columns : head.columns < 2 ^ 64
  pub rows : head.rows < 2 ^ 64

-- a line is that of a column with this title
abbrev pub IsColumnLine : List ℕ → List ℕ → Type 0
IsColumnLine text title = IsTitle title × (text ≡ column_text title)

-- lines are those of columns with these titles
abbrev pub AreColumnLines : List (List ℕ) → List (List ℕ) → Type 0
AreColumnLines lines titles = Pairwise IsColumnLine lines titles

-- a text shows this value, which can be shown
abbrev pub IsShown : List ℕ → CellValue → Type 0
IsShown text value = CanBeShown value × Shows value text

-- texts show these values
abbrev pub AreShown : List (List ℕ) → List CellValue → Type 0
AreShown texts values = Pairwise IsShown texts values

-- a line is that of this row, of this many columns
abbrev pub IsRowLine : ℕ → List ℕ → GridRow → Type 0
IsRowLine columns text row = IsRow columns row × IsRowText Shows row text

-- lines are those of these rows
abbrev pub AreRowLines : ℕ → List (List ℕ) → List GridRow → Type 0
AreRowLines columns lines rows = Pairwise (IsRowLine columns) lines rows

-- lines are those of the columns and rows of a grid with these numbers
pub record IsInnerOf (head : Head) (lines : List (List ℕ)) (grid : Grid) : Type 0 where
  pub position : head.position ≡ grid.position
  pub columns : head.columns ≡ length grid.columns
  pub rows : head.rows ≡ length grid.rows
  pub first : List (List ℕ)
  pub second : List (List ℕ)
  pub parts : lines ≡ first ++ second
  pub titles : AreColumnLines first grid.columns
  pub each : AreRowLines head.columns second grid.rows

-- the texts between the line feeds of a text are the lines of a grid, with nothing after the last
pub record AreGridLines (lines : List (List ℕ)) (grid : Grid) : Type 0 where
  pub head : Head
  pub top : List ℕ
  pub inner : List (List ℕ)
  pub begins : IsHead top head
  pub are : IsInnerOf head inner grid
  pub parts : lines ≡ top ∷ inner ++ codes "." ∷ [] ∷ []
