-- The bodies of a table are those of one list of rows, and its groups are theirs.
use Rattle.std.proofs.Common.{◌≡◌, ◌∙◌, ◌<◌, ◌≤◌, ℕ, ℤ, not, List, [], ◌∷◌, Option, length, map, get_or, bytes_eq, refl, sym, ap, arith}
use Rattle.std.specs.Prelude.{Contains}
use Rattle.std.proofs.lemmas.List.Elements.{All-contains, All-map}
use Rattle.std.proofs.lemmas.List.Filters.{length-filter_both}
use Rattle.olap_meaning.specs.declared.tables.Catalog.{Catalog}
use Rattle.olap_meaning.specs.declared.tables.Row.{Row}
use Rattle.olap_meaning.specs.Catalog.{first_appearances}
use Rattle.segment_body.specs.BodyOf.{BodyOf, different_values}
use Rattle.fact_reader.specs.BodyRows.{AreAlike, values_in}
use Rattle.fact_reader.proofs.BatchFacts.{different_texts, values_taken}
use Rattle.agg_tables.specs.declared.declared.Declared.{Declared}
use Rattle.agg_tables.specs.declared.declared.Fold.{Fold}
use Rattle.agg_tables.specs.declared.declared.TableMeasure.{TableMeasure}
use Rattle.agg_tables.specs.Tables.{IsTable, fold_over, folds_of, groups_in, table_header}

-- the different values of rows are no more than the rows
pub different_few : (rows : List (List ℕ × Option ℤ)) → length (different_values rows) ≤ length rows
different_few [] = omega arith
different_few (row ∷ rows) = omega (arith, different_few rows, length-filter_both (λ later. not (bytes_eq row.0 later)) (λ later. not (not (bytes_eq row.0 later))) (λ later. refl) (different_values rows))

-- bodies of the same rows are a table's
pub alike_of : (catalog : Catalog) (declared : Declared) (rows : List Row) (folds : List Fold) (first : Fold) → AreAlike (map (fold_over catalog declared rows) folds) (fold_over catalog declared rows first)
alike_of catalog declared rows folds first = record {
  cubes = All-map (λ (body : BodyOf). body.header.cube ≡ declared.cube) (fold_over catalog declared rows) folds (λ k d within. refl);
  columns = All-map (λ (body : BodyOf). body.header.columns ≡ (fold_over catalog declared rows first).header.columns) (fold_over catalog declared rows) folds (λ k d within. refl);
  values = All-map (λ (body : BodyOf). values_in body ≡ values_in (fold_over catalog declared rows first)) (fold_over catalog declared rows) folds
      (λ k d within. values_taken catalog (table_header catalog declared (get_or folds k d).measure) rows ∙ sym (values_taken catalog (table_header catalog declared first.measure) rows));
}

pub is_table : (catalog : Catalog) (declared : Declared) (rows : List Row) → IsTable (map (fold_over catalog declared rows) (folds_of declared.measures))
is_table catalog declared rows = by (folds_of declared.measures) (folded declared.measures)
  where
    folded : (ms : List TableMeasure) → 0 < length (folds_of ms)
    folded [] = omega arith
    folded (m ∷ ms) = omega arith

    by : (folds : List Fold) → 0 < length folds → IsTable (map (fold_over catalog declared rows) folds)
    by [] some = absurd (omega arith)
    by (fold ∷ folds) some = record { some = omega arith; alike = λ none. alike_of catalog declared rows (fold ∷ folds) fold }

-- the groups of a table are those of its first body
pub groups_there : (bodies : List BodyOf) (first : BodyOf) (d : BodyOf) → 0 < length bodies → first ≡ get_or bodies 0 d → different_values first.rows ≡ groups_in bodies
groups_there [] first d some is = absurd (omega arith)
groups_there (body ∷ bodies) first d some is = rw is (different_texts body.rows)

-- each body of a table has its groups
pub groups_shared : (bodies : List BodyOf) (wide : BodyOf) → IsTable bodies → Contains bodies wide → different_values wide.rows ≡ groups_in bodies
groups_shared [] wide is inside = absurd (omega (arith, is.some))
groups_shared (first ∷ rest) wide is inside =
    different_texts wide.rows ∙ ap first_appearances (All-contains (λ (body : BodyOf). values_in body ≡ values_in first) (first ∷ rest) wide (is.alike first).values inside)
