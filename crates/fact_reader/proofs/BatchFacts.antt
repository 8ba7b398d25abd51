-- The rows of batches, one batch after another, and the rows that a body takes of them.
use Rattle.std.proofs.Common.{◌≡◌, ◌∙◌, ◌≤◌, ◌+◌, ℕ, ℤ, zero, suc, List, [], ◌∷◌, ◌++◌, Option, None, Some, filter, filter_map, length, map, bytes_eq, drop, take, not, append-nil, append_assoc, length-append, add-one, refl, sym, ap, arith}
use Rattle.std.specs.Prelude.{IsTrue, option_map, option_to_list, slice_get}
use Rattle.std.specs.List.{cons_option}
use Rattle.std.proofs.lemmas.List.Sums.{sum_by-append}
use Rattle.std.proofs.lemmas.List.Elements.{filter_map-append}
use Rattle.olap_meaning.specs.declared.cells.Header.{Header}
use Rattle.olap_meaning.specs.declared.tables.Catalog.{Catalog}
use Rattle.olap_meaning.specs.declared.tables.Row.{Row}
use Rattle.olap_meaning.specs.Catalog.{first_appearances}
use Rattle.olap_meaning.proofs.Positions.{take-push}
use Rattle.olap_meaning.proofs.Lists.{passes_at}
use Rattle.fact_versions.specs.FactRows.{FactRows}
use Rattle.fact_versions.specs.Facts.{rows_of_batches}
use Rattle.segment_body.specs.BodyOf.{different_values}
use Rattle.fact_reader.specs.Reading.{row_at}
use Rattle.fact_reader.specs.BodyRows.{are_batches, body_row, body_rows, is_batch, row_number, rows_in}
use Rattle.olap_meaning.specs.Budget.{row_values}

-- the rows of batches are as many as those of each together
pub length-rows_in : (batches : List FactRows) → length (rows_in batches) ≡ rows_of_batches batches
length-rows_in [] = refl
length-rows_in (batch ∷ batches) =
    let rest = length-rows_in batches in
    let first = sum_by-append (λ (b : FactRows). length b.rows) (batch ∷ []) batches in
    omega (arith, first, rest, length-append batch.rows (rows_in batches))

rows_in-append : (xs ys : List FactRows) → rows_in (xs ++ ys) ≡ rows_in xs ++ rows_in ys
rows_in-append [] ys = refl
rows_in-append (x ∷ xs) ys = ap (λ (rows : List Row). x.rows ++ rows) (rows_in-append xs ys) ∙ sym (append_assoc x.rows (rows_in xs) (rows_in ys))

-- the rows of one batch more
pub rows_in_next : (batches : List FactRows) (i : ℕ) (batch : FactRows) → slice_get batches i ≡ Some batch → rows_in (take (i + 1) batches) ≡ rows_in (take i batches) ++ batch.rows
rows_in_next batches i batch at =
    rw (add-one i, take-push batches i batch at)
    (rows_in-append (take i batches) (batch ∷ []) ∙ ap (λ (rows : List Row). rows_in (take i batches) ++ rows) (append-nil batch.rows))

pub rows_in_more : (batches : List FactRows) (i : ℕ) (batch : FactRows) → slice_get batches i ≡ Some batch → length (rows_in (take (i + 1) batches)) ≡ length (rows_in (take i batches)) + length batch.rows
rows_in_more batches i batch at = ap length (rows_in_next batches i batch at) ∙ length-append (rows_in (take i batches)) batch.rows

-- they are no more than those of all
pub rows_in_within : (batches : List FactRows) (i : ℕ) (batch : FactRows) → slice_get batches i ≡ Some batch → length (rows_in (take i batches)) + length batch.rows ≤ length (rows_in batches)
rows_in_within [] i batch at = absurd (cc)
rows_in_within (x ∷ xs) zero batch at =
    let same : x ≡ batch = cc in
    let count = ap (λ (b : FactRows). length b.rows) same in
    omega (arith, count, length-append x.rows (rows_in xs))
rows_in_within (x ∷ xs) (suc i) batch at =
    omega (arith, rows_in_within xs i batch at, length-append x.rows (rows_in xs), length-append x.rows (rows_in (take i xs)))

pub batch_fits : (catalog : Catalog) (cube : ℕ) (batches : List FactRows) (i : ℕ) (batch : FactRows) → IsTrue (are_batches catalog cube batches) → slice_get batches i ≡ Some batch → IsTrue (is_batch catalog cube batch)
batch_fits catalog cube batches i batch fit at = passes_at (is_batch catalog cube) batches i batch fit at

pub taken_fit : {A : Type 0} (xs : List A) (n : ℕ) → length (take n xs) ≤ n
taken_fit xs zero = omega arith
taken_fit [] (suc n) = omega arith
taken_fit (x ∷ xs) (suc n) = omega (arith, taken_fit xs n)

-- an element after the first ones
pub later_at : {A : Type 0} (xs : List A) (n i : ℕ) → slice_get xs (n + i) ≡ slice_get (drop n xs) i
later_at xs zero i = ap (slice_get xs) (omega arith)
later_at [] (suc n) i = refl
later_at (x ∷ xs) (suc n) i = ap (slice_get (x ∷ xs)) (plus n i) ∙ later_at xs n i
  where
    plus : (m j : ℕ) → suc m + j ≡ suc (m + j)
    plus m j = omega arith

module _ (catalog : Catalog) (header : Header) where
  -- a body takes no more rows than there are
  pub body_rows-fit : (rows : List Row) → length (body_rows catalog header rows) ≤ length rows
  body_rows-fit [] = omega arith
  body_rows-fit (row ∷ rows) = by (body_row catalog header row) (body_rows-fit rows)
    where
      by : (o : Option (List ℕ × Option ℤ)) → length (body_rows catalog header rows) ≤ length rows → length (cons_option o (body_rows catalog header rows)) ≤ length (row ∷ rows)
      by None rest = omega arith
      by (Some new) rest = omega arith

  pub body_rows-append : (xs ys : List Row) → body_rows catalog header (xs ++ ys) ≡ body_rows catalog header xs ++ body_rows catalog header ys
  body_rows-append xs ys = filter_map-append (body_row catalog header) xs ys

  -- the rows of a body with one row more of a batch
  pub body_rows_next : (batch : FactRows) (i : ℕ) → slice_get batch.rows i ≡ Some (row_at batch i)
      → body_rows catalog header (take (i + 1) batch.rows) ≡ body_rows catalog header (take i batch.rows) ++ option_to_list (body_row catalog header (row_at batch i))
  body_rows_next batch i at =
      rw (add-one i, take-push batch.rows i (row_at batch i) at)
      (body_rows-append (take i batch.rows) (row_at batch i ∷ []) ∙ ap (λ (rows : List (List ℕ × Option ℤ)). body_rows catalog header (take i batch.rows) ++ rows) (one (body_row catalog header (row_at batch i)) refl))
    where
      one : (o : Option (List ℕ × Option ℤ)) → body_row catalog header (row_at batch i) ≡ o → body_rows catalog header (row_at batch i ∷ []) ≡ option_to_list (body_row catalog header (row_at batch i))
      one None e = rw e refl
      one (Some new) e = rw e refl

-- the values of the rows that a body takes
pub values_taken : (catalog : Catalog) (header : Header) (rows : List Row) → map (λ (row : List ℕ × Option ℤ). row.0) (body_rows catalog header rows) ≡ filter_map (row_values catalog header) rows
values_taken catalog header [] = refl
values_taken catalog header (row ∷ rows) = by (row_values catalog header row) (values_taken catalog header rows)
  where
    by : (o : Option (List ℕ)) → map (λ (r : List ℕ × Option ℤ). r.0) (body_rows catalog header rows) ≡ filter_map (row_values catalog header) rows
        → map (λ (r : List ℕ × Option ℤ). r.0) (cons_option (option_map (λ values. (values, row_number catalog header row)) o) (body_rows catalog header rows)) ≡ cons_option o (filter_map (row_values catalog header) rows)
    by None rest = rest
    by (Some values) rest = ap (λ (vs : List (List ℕ)). values ∷ vs) rest

-- the different values of rows are those of their values
pub different_texts : (rows : List (List ℕ × Option ℤ)) → different_values rows ≡ first_appearances (map (λ (row : List ℕ × Option ℤ). row.0) rows)
different_texts [] = refl
different_texts (row ∷ rows) = ap (λ (vs : List (List ℕ)). row.0 ∷ filter (λ later. not (bytes_eq row.0 later)) vs) (different_texts rows)
