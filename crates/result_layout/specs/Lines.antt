-- The lines that the rows of a grid add to a text.
use Rattle.std.specs.Prelude.{ℕ, ◌≡◌, ◌++◌, ◌∷◌, List, flat_map}
use Rattle.olap_meaning.specs.declared.CellValue.{CellValue}
use Rattle.olap_meaning.specs.Texts.{line}
use Rattle.query_meaning.specs.declared.grids.GridRow.{GridRow}
use Rattle.query_meaning.specs.GridForm.{IsRowText, Pairwise}

-- the shown texts of values, each after a tab, are added to a text
pub record AreShownBehind (shows : CellValue → List ℕ → Type 0) (values : List CellValue)
    (before after : List ℕ) : Type 0 where
  pub shown : List (List ℕ)
  pub each : Pairwise shows values shown
  pub is : after ≡ before ++ flat_map (λ one. 9 ∷ one) shown

-- the lines of rows are added to a text
pub record AreRowsBehind (shows : CellValue → List ℕ → Type 0) (rows : List GridRow)
    (before after : List ℕ) : Type 0 where
  pub lines : List (List ℕ)
  pub each : Pairwise (IsRowText shows) rows lines
  pub is : after ≡ before ++ flat_map line lines
