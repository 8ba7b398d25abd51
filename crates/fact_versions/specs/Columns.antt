-- Rows that are kept as columns.
use Rattle.std.specs.Prelude.{◌≡◌, ℕ, zero, suc, ◌^◌, ◌<◌, List, [], ◌∷◌, ◌++◌, All, length, Option, ℤ, slice_get}
use Rattle.std.specs.List.{filter_map}
use Rattle.olap_meaning.specs.declared.tables.Row.{Row}

-- the items of a row: the one at its place in each column
abbrev pub items_at : {A : Type 0} → ℕ → List (List A) → List A
items_at row columns = filter_map (λ column. slice_get column row) columns

-- the first rows, from the columns of their leaves and those of their values
abbrev pub rows_of_columns : ℕ → List (List ℕ) → List (List (Option ℤ)) → List Row
rows_of_columns zero leaves values = []
rows_of_columns (suc n) leaves values =
    rows_of_columns n leaves values
    ++ record { leaves = items_at n leaves; values = items_at n values } ∷ []

-- the columns with one item more at the end of each, as far as there are items
abbrev pub with_row : {A : Type 0} → List (List A) → List A → List (List A)
with_row columns [] = columns
with_row [] (item ∷ items) = []
with_row (column ∷ columns) (item ∷ items) = (column ++ item ∷ []) ∷ with_row columns items

-- the columns have an item for each row, and there are no more of them, and of rows, than their counts can say
pub record AreColumns (rows : ℕ) (leaves : List (List ℕ))
    (values : List (List (Option ℤ))) : Type 0 where
  pub leaf_each : All (λ column. length column ≡ rows) leaves
  pub value_each : All (λ column. length column ≡ rows) values
  pub dimensions_fit : length leaves < 2 ^ 32
  pub columns_fit : length values < 2 ^ 32
  pub rows_fit : rows < 2 ^ 63
