-- Each row of a cube has a value in each column of the cube's dimensions.
use Rattle.std.proofs.Common.{◌≡◌, ◌∙◌, ◌<◌, ℕ, true, [], ◌∷◌, Option, Some, length, refl, ap, arith}
use Rattle.std.specs.Prelude.{◌&&◌, ◌==◌, IsTrue, nat_lt, option_and_then, position, slice_get}
use Rattle.std.specs.Option.{option_map_or}
use Rattle.std.proofs.lemmas.Bool.{and_from, eq-eqb}
use Rattle.olap_meaning.specs.declared.tables.Catalog.{Catalog}
use Rattle.olap_meaning.specs.declared.tables.Column.{Column}
use Rattle.olap_meaning.specs.declared.tables.Cube.{Cube}
use Rattle.olap_meaning.specs.declared.tables.Row.{Row}
use Rattle.olap_meaning.specs.Catalog.{fact_columns, leaf_value, records, values}
use Rattle.olap_meaning.specs.Covering.{among}
use Rattle.olap_meaning.specs.History.{is_some_and}
use Rattle.olap_meaning.specs.Legal.{is_column_of, is_row}
use Rattle.olap_meaning.specs.Rolled.{value_count}
use Rattle.olap_meaning.proofs.Lists.{position_there}
use Rattle.olap_meaning.proofs.Loads.{some_and}
use Rattle.olap_catalog.specs.Columns.{column_leaves}
use Rattle.fact_versions.specs.FactRows.{FactRows}
use Rattle.fact_reader.specs.Reading.{place_of}
use Rattle.fact_reader.specs.BodyRows.{is_batch, is_valued}
use Rattle.fact_reader.proofs.RowFacts.{IsPlaced, placed}

-- a row of a cube has a value in each column of the cube's dimensions, where leaves have values
module _ (catalog : Catalog) (leaves : (column leaf : ℕ) → leaf < column_leaves catalog column → is_some_and (λ value. nat_lt value (length (values catalog column))) (leaf_value catalog column leaf) ≡ true) where
  pub row_valued : (cube : ℕ) (own : Cube) (row : Row) (column : ℕ) → slice_get catalog.cubes cube ≡ Some own → IsTrue (is_row catalog cube row) → IsTrue (is_column_of catalog own.dimensions column) → IsTrue (is_valued catalog cube row column)
  row_valued cube own row column known fit of =
      let there = some_and (λ c. among own.dimensions c.dimension) (slice_get catalog.columns column) of in
      let place = position_there (λ d. d == there.0.dimension) own.dimensions there.2 in
      let batch : FactRows = record { dimensions = length own.dimensions; columns = length (fact_columns own); rows = row ∷ [] } in
      let at : place_of catalog cube column ≡ Some place.0 =
      ap (λ (o : Option Column). option_and_then (λ mine. option_and_then (λ c. position (λ d. d == mine.dimension) c.dimensions) (slice_get catalog.cubes cube)) o) there.1
      ∙ ap (λ (o : Option Cube). option_and_then (λ c. position (λ d. d == there.0.dimension) c.dimensions) o) known
      ∙ place.1 in
      let sizes : is_some_and (λ c. (length own.dimensions == length c.dimensions) && (length (fact_columns own) == length (fact_columns c))) (slice_get catalog.cubes cube) ≡ true = rw (known, eq-eqb (length own.dimensions) (length own.dimensions) refl, eq-eqb (length (fact_columns own)) (length (fact_columns own)) refl) refl in
      let counts : is_batch catalog cube batch ≡ true = and_from _ _ sizes (and_from (is_row catalog cube row) true fit refl) in
      let is : IsPlaced catalog cube batch 0 column place.0 = placed catalog cube batch 0 column place.0 (record { c = own; own = there.0; place = place.0; known = known; stands = there.1; found = place.1 }) at counts (omega arith) in
      let count : column_leaves catalog column ≡ length (records catalog is.own.dimension) = ap (λ (o : Option Column). option_map_or (λ c. length (records catalog c.dimension)) o 0) is.stands in
      ap (is_some_and (λ value. nat_lt value (value_count catalog column))) is.value ∙ leaves column is.leaf (omega (arith, is.known, count))
