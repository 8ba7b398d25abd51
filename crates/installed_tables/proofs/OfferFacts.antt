-- The tables that a history has built may be offered to a load from the present version of a cube.
use Rattle.std.proofs.Common.{◌≡◌, ◌∙◌, ◌≤◌, ◌==◌, ℕ, Bool, true, List, [], ◌∷◌, Option, None, Some, length, map, take, filter_map, refl, sym, ap, subst, arith, inl, inr, All}
use Rattle.std.specs.Prelude.{◌&&◌, nat_le, option_and_then, option_map, slice_get}
use Rattle.std.specs.List.{list_all, list_any, range_with_len}
use Rattle.std.proofs.lemmas.Bool.{and_parts, eqb-true, leb-true, or_cases}
use Rattle.std.proofs.lemmas.List.{length-take}
use Rattle.std.proofs.lemmas.List.Elements.{All-cons, All-nil}
use Rattle.olap_meaning.specs.declared.cells.Header.{Header}
use Rattle.olap_meaning.specs.declared.schema.SchemaAggregate.{SchemaAggregate}
use Rattle.olap_meaning.specs.declared.tables.Catalog.{Catalog}
use Rattle.olap_meaning.specs.declared.tables.Row.{Row}
use Rattle.olap_meaning.specs.declared.tables.Setting.{Setting}
use Rattle.olap_meaning.specs.Catalog.{table_cube}
use Rattle.olap_meaning.specs.History.{Entry, rows_of, version}
use Rattle.olap_meaning.specs.Legal.{Legal}
use Rattle.olap_meaning.specs.Rolled.{adds_up}
use Rattle.olap_meaning.proofs.Lists.{mapped_from}
use Rattle.fact_versions.specs.FactRows.{FactRows}
use Rattle.fact_reader.specs.BodyRows.{rows_in}
use Rattle.agg_tables.specs.declared.declared.Declared.{Declared}
use Rattle.agg_tables.specs.declared.declared.Fold.{Fold}
use Rattle.agg_tables.specs.Costs.{has_column_of, is_usable, serves}
use Rattle.agg_tables.specs.Declarations.{declared_for, declared_table}
use Rattle.agg_tables.specs.Tables.{TableOf, built, built_over, fold_over, folds_of, table_over}
use Rattle.agg_tables.proofs.FindFacts.{gone_on}
use Rattle.load_costs.specs.Costs.{last_built, table_built, tables_built}
use Rattle.segment_load.specs.Loads.{IsOffered}
use Rattle.load_costs.proofs.BuiltFacts.{built_place, built_reached, over_version}

first_of : (a b c d : Bool) → (a && b && c && d) ≡ true → a ≡ true
first_of a b c d h = (and_parts a b (and_parts (a && b) c (and_parts (a && b && c) d h).0).0).0

-- what serves a header among the bodies of a table is of the header's cube
served_cube : (catalog : Catalog) (declared : Declared) (rows : List Row) (header : Header) (folds : List Fold) → list_any (serves header) (map (fold_over catalog declared rows) folds) ≡ true → declared.cube ≡ header.cube
served_cube catalog declared rows header [] some = absurd (cc)
served_cube catalog declared rows header (fold ∷ folds) some =
    elim (or_cases (serves header (fold_over catalog declared rows fold)) (list_any (serves header) (map (fold_over catalog declared rows) folds)) some) [
      | inl here ↦ eqb-true declared.cube header.cube (first_of (declared.cube == header.cube) (fold.measure == header.measure) (adds_up fold.aggregator) (list_all (λ own. has_column_of (fold_over catalog declared rows fold).header own.0) header.columns) here)
      | inr there ↦ served_cube catalog declared rows header folds there
    ]

-- what is declared of a table of a cube is of that cube
declared_cube : (catalog : Catalog) (table cube : ℕ) (declared : Declared) → declared_table catalog table ≡ Some declared → table_cube catalog table ≡ Some cube → declared.cube ≡ cube
declared_cube catalog table cube declared is of =
    let own = gone_on (λ (own : SchemaAggregate). option_and_then (λ place. option_map (declared_for catalog own place) (slice_get catalog.cubes place)) (table_cube catalog table)) (slice_get catalog.schema.aggregates table) declared is in
    let place = gone_on (λ (place : ℕ). option_map (declared_for catalog own.0 place) (slice_get catalog.cubes place)) (table_cube catalog table) declared own.2 in
    let made = mapped_from (declared_for catalog own.0 place.0) (slice_get catalog.cubes place.0) declared place.2 in
    let same : Some place.0 ≡ Some cube = sym place.1 ∙ of in
    let place_is : place.0 ≡ cube = cc in
    sym (ap (λ (d : Declared). d.cube) made.2) ∙ place_is

-- a snapshot is the present version of a cube: it has as many batches, and its first ones have the rows of each version
pub record IsPresent (history : List Entry) (cube : ℕ) (snapshot : List FactRows) : Type 0 where
  pub version_is : length snapshot ≡ version history cube
  pub first : (v : ℕ) → rows_in (take v snapshot) ≡ rows_of history cube v

-- a table that was built may be offered for a load from it
offered_one : (setting : Setting) (history : List Entry) (header : Header) (snapshot : List FactRows) (i : ℕ) (table : TableOf) → Legal setting history → IsPresent history header.cube snapshot
    → table_built setting.catalog history i ≡ Some table → IsOffered setting.catalog header snapshot table
offered_one setting history header snapshot i table legal present is = λ may.
    let by_version = gone_on (λ v. option_and_then (over_version setting.catalog history i v) (table_cube setting.catalog i)) (last_built i history) table is in
    let by_cube = gone_on (over_version setting.catalog history i by_version.0) (table_cube setting.catalog i) table by_version.2 in
    let v = by_version.0 in
    let cube = by_cube.0 in
    let made = mapped_from (table_over setting.catalog i v (rows_of history cube v)) (declared_table setting.catalog i) table by_cube.2 in
    let usable = (and_parts (is_usable header table) (nat_le table.version (length snapshot)) may).0 in
    let serving : list_any (serves header) table.bodies ≡ true = (and_parts table.measured (list_any (serves header) table.bodies) usable).1 in
    let bodies : table.bodies ≡ map (fold_over setting.catalog made.0 (rows_of history cube v)) (folds_of made.0.measures) = sym (ap (λ (t : TableOf). t.bodies) made.2) in
    let of_header : made.0.cube ≡ header.cube = served_cube setting.catalog made.0 (rows_of history cube v) header (folds_of made.0.measures) (ap (list_any (serves header)) (sym bodies) ∙ serving) in
    let own_cube : made.0.cube ≡ cube = declared_cube setting.catalog i cube made.0 made.1 by_cube.1 in
    let cube_is : cube ≡ header.cube = sym own_cube ∙ of_header in
    let reached : v ≤ version history cube = built_reached setting history i v cube legal by_version.1 by_cube.1 in
    let few : v ≤ version history header.cube = subst (λ (c : ℕ). v ≤ version history c) cube_is reached in
    let rows : rows_in (take v snapshot) ≡ rows_of history cube v = present.first v ∙ ap (λ (c : ℕ). rows_of history c v) (sym cube_is) in
    let many : length (take v snapshot) ≡ v = taken v snapshot (omega (arith, few, present.version_is)) in
    let place : table.table ≡ i = built_place setting.catalog history i table is in
    let version_is : table.version ≡ v = sym (ap (λ (t : TableOf). t.version) made.2) in
    ap (λ (k : ℕ). built setting.catalog k (take table.version snapshot)) place
    ∙ ap (λ (n : ℕ). built setting.catalog i (take n snapshot)) version_is
    ∙ ap (λ (n : ℕ). built_over setting.catalog i n (rows_in (take v snapshot))) many
    ∙ ap (built_over setting.catalog i v) rows
    ∙ by_cube.2
  where
    taken : {A : Type 0} (n : ℕ) (xs : List A) → n ≤ length xs → length (take n xs) ≡ n
    taken n xs l = omega (arith, length-take n xs, l)

pub all_offered : (setting : Setting) (history : List Entry) (header : Header) (snapshot : List FactRows) → Legal setting history → IsPresent history header.cube snapshot → All (IsOffered setting.catalog header snapshot) (tables_built setting.catalog history)
all_offered setting history header snapshot legal present = by (range_with_len 0 (length setting.catalog.schema.aggregates))
  where
    by : (places : List ℕ) → All (IsOffered setting.catalog header snapshot) (filter_map (table_built setting.catalog history) places)
    by [] = All-nil (IsOffered setting.catalog header snapshot)
    by (i ∷ is) = one (table_built setting.catalog history i) refl (by is)
      where
        one : (o : Option TableOf) → table_built setting.catalog history i ≡ o → All (IsOffered setting.catalog header snapshot) (filter_map (table_built setting.catalog history) is) → All (IsOffered setting.catalog header snapshot) (filter_map (table_built setting.catalog history) (i ∷ is))
        one None e rest = rw e rest
        one (Some table) e rest = rw e (All-cons (IsOffered setting.catalog header snapshot) table (filter_map (table_built setting.catalog history) is) (offered_one setting history header snapshot i table legal present e) rest)
