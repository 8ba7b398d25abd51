-- What an aggregate table stands for. (Aggregate Tables)
use Rattle.std.specs.Prelude.{ℕ, ◌<◌, Bool, List, [], ◌∷◌, Option, length, map, filter_map, nat_lt, option_map, slice_index_or}
use Rattle.olap_meaning.specs.declared.Aggregator.TheVariants.{Count}
use Rattle.olap_meaning.specs.declared.cells.Allowed.{Allowed}
use Rattle.olap_meaning.specs.declared.cells.Allowed.TheVariants.{Any}
use Rattle.olap_meaning.specs.declared.cells.Header.{Header}
use Rattle.olap_meaning.specs.declared.tables.Catalog.{Catalog}
use Rattle.olap_meaning.specs.declared.tables.Row.{Row}
use Rattle.olap_meaning.specs.Catalog.{first_appearances}
use Rattle.fact_versions.specs.FactRows.{FactRows}
use Rattle.segment_body.specs.BodyOf.{BodyOf}
use Rattle.fact_reader.specs.BodyRows.{AreAlike, body_rows, rows_in, values_in}
use Rattle.olap_meaning.specs.Budget.{row_values}
use Rattle.agg_tables.specs.declared.declared.Declared.{Declared}
use Rattle.agg_tables.specs.declared.declared.Fold.{Fold}
use Rattle.agg_tables.specs.declared.declared.TableMeasure.{TableMeasure}
use Rattle.agg_tables.specs.Declarations.{columns_below, declared_table}

-- the columns of a table, rising: each holds any value
abbrev pub table_columns : Catalog → Declared → List (ℕ × Allowed)
table_columns catalog declared =
    map (λ column. (column, Any)) (columns_below declared.levels (length catalog.columns))

-- the header of a table's cells by a measure
abbrev pub table_header : Catalog → Declared → ℕ → Header
table_header catalog declared measure =
    record {
      cube = declared.cube;
      measure = measure;
      columns = table_columns catalog declared;
    }

-- the values of a fact row on a table's columns
abbrev pub table_values : Catalog → Declared → Row → Option (List ℕ)
table_values catalog declared row = row_values catalog (table_header catalog declared 0) row

-- what a table sums up: each of its measures; without one the first measure of its cube is counted, for the groups alone
abbrev pub folds_of : List TableMeasure → List Fold
folds_of [] = record { measure = 0; aggregator = Count } ∷ []
folds_of (measure ∷ measures) =
    map (λ own. record { measure = own.measure; aggregator = own.aggregator }) (measure ∷ measures)

-- the rows of a fold of a table: each fact row with its values on the table's columns, and its number of the measure
abbrev pub fold_over : Catalog → Declared → List Row → Fold → BodyOf
fold_over catalog declared rows fold =
    record {
      header = table_header catalog declared fold.measure;
      aggregator = fold.aggregator;
      rows = body_rows catalog (table_header catalog declared fold.measure) rows;
    }

-- an aggregate table: which of the schema's, the version of its rows, how many they are, whether it has measures, and the
-- rows by each of its measures, over the table's columns; without a measure by one, for the groups alone
pub record TableOf : Type 0 where
  pub table : ℕ
  pub version : ℕ
  pub rows : ℕ
  pub measured : Bool
  pub bodies : List BodyOf

-- the body that a table's groups are told by
abbrev pub first_body : List BodyOf → BodyOf → BodyOf
first_body bodies none = slice_index_or bodies 0 none

-- what holds of the bodies of a table: there is one, and all have its cube, its columns and the values of its rows
pub record IsTable (bodies : List BodyOf) : Type 0 where
  pub some : 0 < length bodies
  pub alike : (none : BodyOf) → AreAlike bodies (first_body bodies none)

-- the groups of a table over some rows: their different lists of values, by first appearance
abbrev pub groups_over : Catalog → Declared → List Row → List (List ℕ)
groups_over catalog declared rows =
    first_appearances (filter_map (table_values catalog declared) rows)

-- the groups of a table
abbrev pub groups_in : List BodyOf → List (List ℕ)
groups_in [] = []
groups_in (body ∷ bodies) = first_appearances (values_in body)

-- the table at a place of the schema over the rows of a version
abbrev pub table_over : Catalog → ℕ → ℕ → List Row → Declared → TableOf
table_over catalog table version rows declared =
    record {
      table = table;
      version = version;
      rows = length rows;
      measured = nat_lt 0 (length declared.measures);
      bodies = map (fold_over catalog declared rows) (folds_of declared.measures);
    }

abbrev pub built_over : Catalog → ℕ → ℕ → List Row → Option TableOf
built_over catalog table version rows =
    option_map (table_over catalog table version rows) (declared_table catalog table)

abbrev pub built : Catalog → ℕ → List FactRows → Option TableOf
built catalog table snapshot =
    built_over catalog table (length snapshot) (rows_in snapshot)
