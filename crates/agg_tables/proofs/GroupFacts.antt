-- The groups of a table's bodies are those of the fact rows.
use Rattle.std.proofs.Common.{◌≡◌, ◌∙◌, ◌<◌, ℕ, ℤ, zero, suc, Bool, true, false, List, [], ◌∷◌, Option, None, Some, length, map, take, drop, get_or, bytes_eq, refl, ap, arith, inl, inr, if◌then◌else◌}
use Rattle.std.specs.Prelude.{option_and_then, option_map, slice_get}
use Rattle.std.specs.Option.{option_or}
use Rattle.std.proofs.lemmas.Bool.{cases_Bool}
use Rattle.olap_meaning.specs.declared.tables.Catalog.{Catalog}
use Rattle.olap_meaning.specs.declared.tables.Row.{Row}
use Rattle.olap_meaning.specs.Catalog.{first_appearances}
use Rattle.segment_body.specs.BodyOf.{BodyOf, different_values, numbers_at}
use Rattle.fact_reader.specs.BodyRows.{body_rows, row_number}
use Rattle.fact_reader.proofs.BatchFacts.{different_texts, values_taken}
use Rattle.agg_tables.specs.declared.declared.Declared.{Declared}
use Rattle.agg_tables.specs.declared.declared.Fold.{Fold}
use Rattle.agg_tables.specs.declared.declared.TableMeasure.{TableMeasure}
use Rattle.olap_meaning.specs.Records.{field_in}
use Rattle.olap_meaning.specs.Values.{aggregate}
use Rattle.agg_tables.specs.declared.declared.FileColumn.{FileColumn}
use Rattle.agg_tables.specs.Checks.{number_fault_at, numbers_fault}
use Rattle.agg_tables.specs.Files.{computed, differs, file_columns, group_rows, says}
use Rattle.agg_tables.specs.Places.{AreComputed, CheckerOf, FileOf}
use Rattle.agg_tables.specs.Tables.{fold_over, folds_of, groups_over, table_header, table_values}

-- the numbers that a body has of some values are those of the fact rows with these values
pub numbers_of_group : (catalog : Catalog) (declared : Declared) (measure : ℕ) (values : List ℕ) (rows : List Row)
    → numbers_at (body_rows catalog (table_header catalog declared measure) rows) values ≡ map (row_number catalog (table_header catalog declared measure)) (group_rows catalog declared rows values)
numbers_of_group catalog declared measure values [] = refl
numbers_of_group catalog declared measure values (row ∷ rows) = by (table_values catalog declared row) refl (numbers_of_group catalog declared measure values rows)
  where
    by : (o : Option (List ℕ)) → table_values catalog declared row ≡ o
        → numbers_at (body_rows catalog (table_header catalog declared measure) rows) values ≡ map (row_number catalog (table_header catalog declared measure)) (group_rows catalog declared rows values)
        → numbers_at (body_rows catalog (table_header catalog declared measure) (row ∷ rows)) values ≡ map (row_number catalog (table_header catalog declared measure)) (group_rows catalog declared (row ∷ rows) values)
    by None e rest = rw e rest
    by (Some own) e rest = elim (cases_Bool (bytes_eq values own)) [
      | inl same ↦ rw (e, same, rest) refl
      | inr other ↦ rw (e, other) rest
    ]

-- the groups of a body are those of the fact rows
pub groups_of_body : (catalog : Catalog) (declared : Declared) (rows : List Row) (fold : Fold) → different_values (fold_over catalog declared rows fold).rows ≡ groups_over catalog declared rows
groups_of_body catalog declared rows fold =
    different_texts (fold_over catalog declared rows fold).rows
    ∙ ap first_appearances (values_taken catalog (table_header catalog declared fold.measure) rows)

-- a table has a first body, which is a fold over the rows
pub record HasFirst (file : FileOf) (rows : List Row) (bodies : List BodyOf) : Type 0 where
  pub fold : Fold
  pub some : 0 < length bodies
  pub is : (d : BodyOf) → get_or bodies 0 d ≡ fold_over file.catalog file.declared rows fold

pub has_first : (file : FileOf) (rows : List Row) (bodies : List BodyOf) → AreComputed file rows bodies → HasFirst file rows bodies
has_first file rows bodies are = by file.folds (folds_of file.declared.measures) are.computed are.bound.own (folded file.declared.measures)
  where
    folded : (ms : List TableMeasure) → 0 < length (folds_of ms)
    folded [] = omega arith
    folded (m ∷ ms) = omega arith

    by : (folds own : List Fold) → bodies ≡ map (fold_over file.catalog file.declared rows) folds → take (length own) folds ≡ own → 0 < length own → HasFirst file rows bodies
    by folds [] computed kept some = absurd (omega arith)
    by [] (o ∷ own) computed kept some = absurd (cc)
    by (fold ∷ folds) (o ∷ own) computed kept some = record {
      fold = fold;
      some = rw computed (omega arith);
      is = λ d. rw computed refl;
    }

-- the body of a fold
pub fold_there : (file : FileOf) (rows : List Row) (bodies : List BodyOf) (place : ℕ) (fold : Fold) (body : BodyOf) → bodies ≡ map (fold_over file.catalog file.declared rows) file.folds → slice_get file.folds place ≡ Some fold → body ≡ get_or bodies place body
    → body ≡ fold_over file.catalog file.declared rows fold
fold_there file rows bodies place fold body computed at is = is ∙ ap (λ (bs : List BodyOf). get_or bs place body) computed ∙ by file.folds place at
  where
    by : (folds : List Fold) (k : ℕ) → slice_get folds k ≡ Some fold → get_or (map (fold_over file.catalog file.declared rows) folds) k body ≡ fold_over file.catalog file.declared rows fold
    by [] k at = absurd (cc)
    by (f ∷ folds) zero at = let same : f ≡ fold = cc in ap (fold_over file.catalog file.declared rows) same
    by (f ∷ folds) (suc k) at = by folds k at

-- what a body gives for a column of numbers
pub computed_by : (file : FileOf) (rows : List Row) (bodies : List BodyOf) (place j : ℕ) (body : BodyOf) (values : List ℕ) → AreComputed file rows bodies → j < length (file_columns file.declared.measures)
    → slice_get file.folds place ≡ option_map (λ (column : FileColumn). column.fold) (slice_get (file_columns file.declared.measures) j) → body ≡ get_or bodies place body
    → Some (aggregate body.aggregator (numbers_at body.rows values)) ≡ option_map (computed file.catalog file.declared (group_rows file.catalog file.declared rows values)) (slice_get (file_columns file.declared.measures) j)
computed_by file rows bodies place j body values are within at is = by (file_columns file.declared.measures) j within at
  where
    one : (column : FileColumn) → slice_get file.folds place ≡ Some column.fold → Some (aggregate body.aggregator (numbers_at body.rows values)) ≡ Some (computed file.catalog file.declared (group_rows file.catalog file.declared rows values) column)
    one column there =
        let own = fold_there file rows bodies place column.fold body are.computed there is in
        ap (λ (b : BodyOf). Some (aggregate b.aggregator (numbers_at b.rows values))) own
        ∙ ap (λ (numbers : List (Option ℤ)). Some (aggregate column.fold.aggregator numbers)) (numbers_of_group file.catalog file.declared column.fold.measure values rows)

    by : (columns : List FileColumn) (k : ℕ) → k < length columns → slice_get file.folds place ≡ option_map (λ (column : FileColumn). column.fold) (slice_get columns k)
        → Some (aggregate body.aggregator (numbers_at body.rows values)) ≡ option_map (computed file.catalog file.declared (group_rows file.catalog file.declared rows values)) (slice_get columns k)
    by [] k lt there = absurd (omega arith)
    by (column ∷ columns) zero lt there = one column there
    by (column ∷ columns) (suc k) lt there = by columns k (omega arith) there

-- the fault of the columns from a place on
pub numbers_from : (of : CheckerOf) (row : List (List ℕ)) (n : ℕ) (values : List ℕ) (columns : List FileColumn) (j : ℕ) → j < length columns
    → numbers_fault of row n values (drop j columns) ≡ option_or (option_and_then (number_fault_at of row n values) (slice_get columns j)) (numbers_fault of row n values (drop (suc j) columns))
numbers_from of row n values [] j within = absurd (omega arith)
numbers_from of row n values (column ∷ columns) zero within =
    by (says (computed of.file.catalog of.file.declared (group_rows of.file.catalog of.file.declared of.rows values) column) (field_in of.file.header column.name row))
  where
    by : (b : Bool) → (if b then numbers_fault of row n values columns else Some (differs of.file.header n row column.name (computed of.file.catalog of.file.declared (group_rows of.file.catalog of.file.declared of.rows values) column)))
        ≡ option_or (if b then None else Some (differs of.file.header n row column.name (computed of.file.catalog of.file.declared (group_rows of.file.catalog of.file.declared of.rows values) column))) (numbers_fault of row n values columns)
    by true = refl
    by false = refl
numbers_from of row n values (column ∷ columns) (suc j) within = numbers_from of row n values columns j (omega arith)

pub fault_first : {A : Type 0} (whole first rest : Option A) (e : A) → whole ≡ option_or first rest → first ≡ Some e → whole ≡ Some e
fault_first whole first rest e is told = rw told at is

pub fault_none : {A : Type 0} (whole first rest : Option A) → whole ≡ option_or first rest → first ≡ None → whole ≡ rest
fault_none whole first rest is none = rw none at is
