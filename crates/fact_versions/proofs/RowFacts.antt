-- The rows that columns stand for.
use Rattle.std.proofs.Common.{◌≡◌, ◌∙◌, ◌<◌, ◌≤◌, ◌+◌, ℕ, ℤ, zero, suc, true, ◌&&◌, ◌==◌, ◌⊎◌, inl, inr, List, [], ◌∷◌, ◌++◌, Option, Some, All, length, slice_get, option_and_then, refl, sym, arith, add-one, length-append}
use Rattle.std.specs.List.{list_all}
use Rattle.std.proofs.lemmas.List.Folds.{list_all-append}
use Rattle.olap_meaning.specs.declared.tables.Row.{Row}
use Rattle.olap_meaning.proofs.Growing.{get-append-le}
use Rattle.fact_versions.specs.Columns.{items_at, with_row, rows_of_columns}
use Rattle.fact_versions.proofs.ColumnFacts.{items_at-with_row, items_at-with_row_last, length-items_at, slice_get-items_at, slice_get-append_last}

pub length-rows_of_columns : (n : ℕ) (ls : List (List ℕ)) (vs : List (List (Option ℤ))) → length (rows_of_columns n ls vs) ≡ n
length-rows_of_columns zero ls vs = refl
length-rows_of_columns (suc n) ls vs =
    rw (length-append (rows_of_columns n ls vs), length-rows_of_columns n ls vs) (omega arith)

-- the rows from before are as they were
rows-before : (m n : ℕ) (ls : List (List ℕ)) (vs : List (List (Option ℤ))) (xs : List ℕ) (ys : List (Option ℤ))
    → All (λ column. length column ≡ n) ls → All (λ column. length column ≡ n) vs → m ≤ n
    → rows_of_columns m (with_row ls xs) (with_row vs ys) ≡ rows_of_columns m ls vs
rows-before zero n ls vs xs ys leaf_each value_each most = refl
rows-before (suc m) n ls vs xs ys leaf_each value_each most =
    rw (rows-before m n ls vs xs ys leaf_each value_each (omega arith), items_at-with_row m n ls xs leaf_each (omega arith), items_at-with_row m n vs ys value_each (omega arith)) refl

-- with an item for each column there is one row more
pub rows-with_row : (n : ℕ) (ls : List (List ℕ)) (vs : List (List (Option ℤ))) (xs : List ℕ) (ys : List (Option ℤ))
    → All (λ column. length column ≡ n) ls → All (λ column. length column ≡ n) vs → length xs ≡ length ls → length ys ≡ length vs
    → rows_of_columns (n + 1) (with_row ls xs) (with_row vs ys) ≡ rows_of_columns n ls vs ++ record { leaves = xs; values = ys } ∷ []
rows-with_row n ls vs xs ys leaf_each value_each leaf_for_each value_for_each =
    rw (add-one n, rows-before n n ls vs xs ys leaf_each value_each (omega arith), items_at-with_row_last n ls xs leaf_each leaf_for_each, items_at-with_row_last n vs ys value_each value_for_each) refl

-- each row has an item of each column
pub rows_fit : (m n : ℕ) (ls : List (List ℕ)) (vs : List (List (Option ℤ)))
    → All (λ column. length column ≡ n) ls → All (λ column. length column ≡ n) vs → m ≤ n
    → list_all (λ (row : Row). (length row.leaves == length ls) && (length row.values == length vs)) (rows_of_columns m ls vs) ≡ true
rows_fit zero n ls vs leaf_each value_each most = refl
rows_fit (suc m) n ls vs leaf_each value_each most =
    rw (list_all-append (λ (row : Row). (length row.leaves == length ls) && (length row.values == length vs)) (rows_of_columns m ls vs), rows_fit m n ls vs leaf_each value_each (omega arith), length-items_at m n ls leaf_each (omega arith), length-items_at m n vs value_each (omega arith))
    (grind arith)

-- a row has its item of each column
pub slice_get-rows : (m i : ℕ) (ls : List (List ℕ)) (vs : List (List (Option ℤ))) → i < m
    → slice_get (rows_of_columns m ls vs) i ≡ Some (record { leaves = items_at i ls; values = items_at i vs })
slice_get-rows zero i ls vs below = absurd (omega arith)
slice_get-rows (suc m) i ls vs below =
    let rows = rows_of_columns m ls vs in
    let long = length-rows_of_columns m ls vs in
    let each : (i < m) ⊎ (i ≡ m) = grind arith in
    elim each [
      | inl before ↦ get-append-le rows (record { leaves = items_at m ls; values = items_at m vs } ∷ []) i (omega arith) ∙ slice_get-rows m i ls vs before
      | inr last ↦ rw last (slice_get-append_last rows (record { leaves = items_at m ls; values = items_at m vs }) m (sym long))
    ]

-- a leaf of a row is an item of its dimension's column
pub row-leaf : (n i d : ℕ) (ls : List (List ℕ)) (vs : List (List (Option ℤ))) → All (λ column. length column ≡ n) ls → i < n
    → option_and_then (λ (row : Row). slice_get row.leaves d) (slice_get (rows_of_columns n ls vs) i) ≡ option_and_then (λ column. slice_get column i) (slice_get ls d)
row-leaf n i d ls vs leaf_each below = rw (slice_get-rows n i ls vs below) (slice_get-items_at i n d ls leaf_each below)

-- a value of a row is an item of its column
pub row-value : (n i d : ℕ) (ls : List (List ℕ)) (vs : List (List (Option ℤ))) → All (λ column. length column ≡ n) vs → i < n
    → option_and_then (λ (row : Row). slice_get row.values d) (slice_get (rows_of_columns n ls vs) i) ≡ option_and_then (λ column. slice_get column i) (slice_get vs d)
row-value n i d ls vs value_each below = rw (slice_get-rows n i ls vs below) (slice_get-items_at i n d vs value_each below)
