-- What a load reads of an aggregate table are the rows that it would read of the facts.
use Rattle.std.proofs.Common.{◌≡◌, ◌∙◌, ◌<◌, ◌≤◌, ◌+◌, ◌==◌, ℕ, ℤ, zero, suc, Bool, true, List, [], ◌∷◌, ◌++◌, Option, None, Some, length, length-append, map, take, drop, get_or, bytes_eq, refl, sym, ap, subst, arith, All}
use Rattle.std.specs.Prelude.{◌&&◌, IsTrue, Contains, filter_map, nat_lt, option_and_then, option_map, position, slice_get}
use Rattle.std.specs.List.{cons_option, list_all, list_any}
use Rattle.std.specs.List.Sorted.{IsPermutation}
use Rattle.std.proofs.lemmas.Bool.{and_from, and_parts, eqb-true}
use Rattle.std.proofs.lemmas.List.Elements.{All-cons, All-contains, All-head, All-nil, All-tail}
use Rattle.std.proofs.lemmas.List.Folds.{list_all-append}
use Rattle.std.proofs.lemmas.List.Quantifiers.{position-Some}
use Rattle.std.proofs.lemmas.List.Sorted.{IsPermutation-append_left, length_permutation}
use Rattle.olap_meaning.specs.declared.Aggregator.{Aggregator}
use Rattle.olap_meaning.specs.declared.Aggregator.TheVariants.{DistinctCount}
use Rattle.olap_meaning.specs.declared.cells.Allowed.{Allowed}
use Rattle.olap_meaning.specs.declared.cells.Allowed.TheVariants.{Any}
use Rattle.olap_meaning.specs.declared.cells.Header.{Header}
use Rattle.olap_meaning.specs.declared.schema.AggregateMeasure.{AggregateMeasure}
use Rattle.olap_meaning.specs.declared.schema.SchemaAggregate.{SchemaAggregate}
use Rattle.olap_meaning.specs.declared.tables.Catalog.{Catalog}
use Rattle.olap_meaning.specs.declared.tables.Cube.{Cube}
use Rattle.olap_meaning.specs.declared.tables.Measure.{Measure}
use Rattle.olap_meaning.specs.declared.tables.Row.{Row}
use Rattle.olap_meaning.specs.Catalog.{table_cube}
use Rattle.olap_meaning.specs.History.{is_some_and}
use Rattle.olap_meaning.specs.Legal.{is_column_of, is_row}
use Rattle.olap_meaning.specs.Rolled.{adds_up, value_count}
use Rattle.olap_meaning.specs.Worth.{row_value}
use Rattle.olap_meaning.proofs.Lists.{mapped_from}
use Rattle.fact_versions.specs.FactRows.{FactRows}
use Rattle.segment_body.specs.BodyOf.{BodyOf}
use Rattle.segment_body.specs.Narrowed.{IsNarrowed, narrowed_row, narrowed_values, value_in}
use Rattle.olap_meaning.specs.Budget.{allowed_values, if_allowed, row_values}
use Rattle.segment_body.proofs.Places.{missed}
use Rattle.segment_body.proofs.ValueFacts.{first_allowed}
use Rattle.fact_reader.specs.BodyRows.{HoldsRows, are_batches, body_rows, is_batch, row_number, rows_in}
use Rattle.fact_reader.specs.Laws.{RowsAreValued}
use Rattle.fact_reader.proofs.BatchFacts.{body_rows-append, body_rows-fit}
use Rattle.agg_tables.specs.declared.declared.Declared.{Declared}
use Rattle.agg_tables.specs.declared.declared.Fold.{Fold}
use Rattle.agg_tables.specs.declared.declared.TableMeasure.{TableMeasure}
use Rattle.agg_tables.specs.Bound.{IsPlaced}
use Rattle.agg_tables.specs.Costs.{IsTableOver, has_column_of, is_usable, serves, table_cost}
use Rattle.agg_tables.specs.Declarations.{columns_below, declared_for, declared_table, measure_with, measures_of, table_measure}
use Rattle.agg_tables.specs.Tables.{TableOf, fold_over, folds_of, groups_in, table_header, table_over}
use Rattle.agg_tables.proofs.ColumnFacts.{columns_pass}
use Rattle.agg_tables.proofs.FindFacts.{gone_on}

-- what a column has, of values on columns that were read by a function
at_place : (f : ℕ → Option ℕ) (columns : List (ℕ × Allowed)) (vs : List ℕ) (i : ℕ) (d : ℕ × Allowed) → allowed_values f columns ≡ Some vs → i < length columns → slice_get vs i ≡ f (get_or columns i d).0
at_place f [] vs i d h within = absurd (omega arith)
at_place f (c ∷ cs) vs zero d h within =
    let parts = first_allowed c.1 (f c.0) (allowed_values f cs) vs h in
    rw parts.5 (sym parts.2)
at_place f (c ∷ cs) vs (suc i) d h within =
    let parts = first_allowed c.1 (f c.0) (allowed_values f cs) vs h in
    rw parts.5 (at_place f cs parts.1 i d parts.4 (omega arith))

pub value_read : (f : ℕ → Option ℕ) (columns : List (ℕ × Allowed)) (vs : List ℕ) (column : ℕ) → allowed_values f columns ≡ Some vs → list_any (λ own. own.0 == column) columns ≡ true → value_in columns vs column ≡ f column
value_read f columns vs column h there = by (position (λ own. own.0 == column) columns) refl
  where
    by : (o : Option ℕ) → position (λ own. own.0 == column) columns ≡ o → option_and_then (slice_get vs) o ≡ f column
    by None e = let none = missed (λ (own : ℕ × Allowed). own.0 == column) columns e in absurd (cc)
    by (Some i) e =
        let first = position-Some (λ (own : ℕ × Allowed). own.0 == column) columns i (column, Any) e in
        at_place f columns vs i (column, Any) h first.0 ∙ ap f (eqb-true _ _ first.1)

-- values that are read alike
alike_values : (f g : ℕ → Option ℕ) (p : ℕ → Bool) → ((column : ℕ) → p column ≡ true → g column ≡ f column) → (columns : List (ℕ × Allowed)) → list_all (λ own. p own.0) columns ≡ true → allowed_values g columns ≡ allowed_values f columns
alike_values f g p alike [] all = refl
alike_values f g p alike (c ∷ cs) all =
    let parts = and_parts (p c.0) (list_all (λ own. p own.0) cs) all in
    rw (alike c.0 parts.0, alike_values f g p alike cs parts.1) refl

-- columns that allow any value have one where there is one
any_values : (f : ℕ → Option ℕ) (test : ℕ → ℕ → Bool) (columns : List ℕ) → list_all (λ column. is_some_and (test column) (f column)) columns ≡ true → (vs : List ℕ) × (allowed_values f (map (λ column. (column, Any)) columns) ≡ Some vs)
any_values f test [] all = ([], refl)
any_values f test (c ∷ cs) all =
    let parts = and_parts (is_some_and (test c) (f c)) (list_all (λ column. is_some_and (test column) (f column)) cs) all in
    by (f c) parts.0 (any_values f test cs parts.1)
  where
    by : (o : Option ℕ) → is_some_and (test c) o ≡ true → (vs : List ℕ) × (allowed_values f (map (λ column. (column, Any)) cs) ≡ Some vs)
        → (vs : List ℕ) × (option_and_then (λ value. option_map (λ values. value ∷ values) (allowed_values f (map (λ column. (column, Any)) cs))) (option_and_then (if_allowed Any) o) ≡ Some vs)
    by None some rest = absurd (cc)
    by (Some v) some rest = (v ∷ rest.0, rw rest.1 refl)

-- rows of batches of a cube, and of the first of them
rows_are : (catalog : Catalog) (cube : ℕ) (batches : List FactRows) (n : ℕ) → IsTrue (are_batches catalog cube batches) → list_all (is_row catalog cube) (rows_in (take n batches)) ≡ true
rows_are catalog cube batches zero fit = refl
rows_are catalog cube [] (suc n) fit = refl
rows_are catalog cube (batch ∷ batches) (suc n) fit =
    let parts = and_parts (is_batch catalog cube batch) (are_batches catalog cube batches) fit in
    let own = (and_parts _ (list_all (is_row catalog cube) batch.rows) parts.0).1 in
    list_all-append (is_row catalog cube) batch.rows (rows_in (take n batches)) ∙ and_from _ _ own (rows_are catalog cube batches n parts.1)

-- the rows of the first batches, and those after them
pub rows_split : (batches : List FactRows) (n : ℕ) → rows_in batches ≡ rows_in (take n batches) ++ rows_in (drop n batches)
rows_split batches zero = refl
rows_split [] (suc n) = refl
rows_split (batch ∷ batches) (suc n) = ap (λ (rows : List Row). batch.rows ++ rows) (rows_split batches n) ∙ sym (joined batch.rows (rows_in (take n batches)) (rows_in (drop n batches)))
  where
    joined : (xs ys zs : List Row) → (xs ++ ys) ++ zs ≡ xs ++ (ys ++ zs)
    joined [] ys zs = refl
    joined (x ∷ xs) ys zs = ap (λ (l : List Row). x ∷ l) (joined xs ys zs)

-- a fold of a table, and a header that it serves
module _ (catalog : Catalog) (declared : Declared) (header : Header) (placed : IsPlaced catalog declared) (valued : RowsAreValued catalog)
    (same : declared.cube ≡ header.cube) (has : list_all (λ own. has_column_of (table_header catalog declared header.measure) own.0) header.columns ≡ true) where
  abbrev wide : Header
  wide = table_header catalog declared header.measure

  columns_own : list_all (is_column_of catalog placed.cube.dimensions) (columns_below declared.levels (length catalog.columns)) ≡ true
  columns_own = columns_pass (is_column_of catalog placed.cube.dimensions) declared.levels (length catalog.columns) placed.own

  has_values : (row : Row) → is_row catalog declared.cube row ≡ true → (columns : List ℕ) → list_all (is_column_of catalog placed.cube.dimensions) columns ≡ true
      → list_all (λ column. is_some_and (λ value. nat_lt value (value_count catalog column)) (row_value catalog declared.cube row column)) columns ≡ true
  has_values row fit [] all = refl
  has_values row fit (c ∷ cs) all =
      let parts = and_parts (is_column_of catalog placed.cube.dimensions c) (list_all (is_column_of catalog placed.cube.dimensions) cs) all in
      and_from _ _ (valued declared.cube placed.cube row c placed.known fit parts.0) (has_values row fit cs parts.1)

  -- each row has values on the table's columns
  row_there : (row : Row) → is_row catalog declared.cube row ≡ true → (vs : List ℕ) × (row_values catalog wide row ≡ Some vs)
  row_there row fit = any_values (row_value catalog declared.cube row) (λ column value. nat_lt value (value_count catalog column)) (columns_below declared.levels (length catalog.columns)) (has_values row fit _ columns_own)

  -- a row that a table has, as the header has it
  row_narrowed : (row : Row) (vs : List ℕ) → row_values catalog wide row ≡ Some vs → narrowed_values wide header vs ≡ row_values catalog header row
  row_narrowed row vs is =
      alike_values (row_value catalog declared.cube row) (value_in wide.columns vs) (has_column_of wide) (λ column there. value_read (row_value catalog declared.cube row) wide.columns vs column is there) header.columns has
      ∙ ap (λ (cube : ℕ). allowed_values (row_value catalog cube row) header.columns) same

  number_same : (row : Row) → row_number catalog wide row ≡ row_number catalog header row
  number_same row = ap (λ (cube : ℕ). row_number catalog (record { cube = cube; measure = header.measure; columns = wide.columns }) row) same

  rows_narrowed : (rows : List Row) → list_all (is_row catalog declared.cube) rows ≡ true → filter_map (narrowed_row wide header) (body_rows catalog wide rows) ≡ body_rows catalog header rows
  rows_narrowed [] fit = refl
  rows_narrowed (row ∷ rows) fit =
      let parts = and_parts (is_row catalog declared.cube row) (list_all (is_row catalog declared.cube) rows) fit in
      let there = row_there row parts.0 in
      let rest = rows_narrowed rows parts.1 in
      rw (there.1, row_narrowed row there.0 there.1, number_same row, rest) refl

-- a measure of a table is summed up by what it is in its cube
measures_own : (cube : Cube) (ms : List AggregateMeasure) → All (λ (own : TableMeasure). option_map (λ (m : Measure). m.aggregator) (slice_get cube.measures own.measure) ≡ Some own.aggregator) (measures_of cube ms)
measures_own cube [] = All-nil _
measures_own cube (m ∷ ms) = by (table_measure cube m) refl (measures_own cube ms)
  where
    by : (o : Option TableMeasure) → table_measure cube m ≡ o → All (λ (own : TableMeasure). option_map (λ (m : Measure). m.aggregator) (slice_get cube.measures own.measure) ≡ Some own.aggregator) (measures_of cube ms) → All (λ (own : TableMeasure). option_map (λ (m : Measure). m.aggregator) (slice_get cube.measures own.measure) ≡ Some own.aggregator) (cons_option o (measures_of cube ms))
    by None e rest = rest
    by (Some own) e rest =
        let place = gone_on (λ (place : ℕ). option_map (measure_with place m) (slice_get cube.measures place)) (position (λ (measure : Measure). bytes_eq m.measure measure.name) cube.measures) own e in
        let measure = mapped_from (measure_with place.0 m) (slice_get cube.measures place.0) own place.2 in
        All-cons (λ (own : TableMeasure). option_map (λ (m : Measure). m.aggregator) (slice_get cube.measures own.measure) ≡ Some own.aggregator) own (measures_of cube ms) (there place.0 measure.0 own measure.1 measure.2) rest
      where
        there : (place : ℕ) (measure : Measure) (own : TableMeasure) → slice_get cube.measures place ≡ Some measure → measure_with place m measure ≡ own → option_map (λ (m : Measure). m.aggregator) (slice_get cube.measures own.measure) ≡ Some own.aggregator
        there place measure own at is = rw (← is, at) refl

-- a body of a table: a fold by a measure of its cube
record IsOwnFold (catalog : Catalog) (declared : Declared) (cube : Cube) (rows : List Row) (body : BodyOf) : Type 0 where
  fold : Fold
  is : body ≡ fold_over catalog declared rows fold
  own : option_map (λ (m : Measure). m.aggregator) (slice_get cube.measures fold.measure) ≡ Some fold.aggregator

own_folds : (catalog : Catalog) (declared : Declared) (cube : Cube) (rows : List Row) → All (λ (own : TableMeasure). option_map (λ (m : Measure). m.aggregator) (slice_get cube.measures own.measure) ≡ Some own.aggregator) declared.measures
    → nat_lt 0 (length declared.measures) ≡ true → All (IsOwnFold catalog declared cube rows) (map (fold_over catalog declared rows) (folds_of declared.measures))
own_folds catalog declared cube rows all some = by declared.measures all some
  where
    each : (ms : List TableMeasure) → All (λ (own : TableMeasure). option_map (λ (m : Measure). m.aggregator) (slice_get cube.measures own.measure) ≡ Some own.aggregator) ms
        → All (IsOwnFold catalog declared cube rows) (map (fold_over catalog declared rows) (map (λ (own : TableMeasure). record { measure = own.measure; aggregator = own.aggregator }) ms))
    each [] own = All-nil _
    each (m ∷ ms) own =
        let fold : Fold = record { measure = m.measure; aggregator = m.aggregator } in
        let measured : TableMeasure → Type 0 = λ (own : TableMeasure). option_map (λ (m : Measure). m.aggregator) (slice_get cube.measures own.measure) ≡ Some own.aggregator in
        let first : IsOwnFold catalog declared cube rows (fold_over catalog declared rows fold) = record { fold = fold; is = refl; own = All-head measured m ms own } in
        All-cons (IsOwnFold catalog declared cube rows) (fold_over catalog declared rows fold) (map (fold_over catalog declared rows) (map (λ (own : TableMeasure). record { measure = own.measure; aggregator = own.aggregator }) ms)) first (each ms (All-tail measured m ms own))

    by : (ms : List TableMeasure) → All (λ (own : TableMeasure). option_map (λ (m : Measure). m.aggregator) (slice_get cube.measures own.measure) ≡ Some own.aggregator) ms → nat_lt 0 (length ms) ≡ true
        → All (IsOwnFold catalog declared cube rows) (map (fold_over catalog declared rows) (folds_of ms))
    by [] own some = absurd (cc)
    by (m ∷ ms) own some = each (m ∷ ms) own

-- a declared table over the rows of a version
pub record IsOver (catalog : Catalog) (rows : List Row) (table : TableOf) : Type 0 where
  pub declared : Declared
  pub place : ℕ
  pub cube : Cube
  pub known : declared_table catalog table.table ≡ Some declared
  pub at : slice_get catalog.cubes declared.cube ≡ Some cube
  pub measures : All (λ (own : TableMeasure). option_map (λ (m : Measure). m.aggregator) (slice_get cube.measures own.measure) ≡ Some own.aggregator) declared.measures
  pub measured : table.measured ≡ nat_lt 0 (length declared.measures)
  pub counted : table.rows ≡ length rows
  pub bodies : table.bodies ≡ map (fold_over catalog declared rows) (folds_of declared.measures)

pub is_over : (catalog : Catalog) (snapshot : List FactRows) (table : TableOf) → IsTableOver catalog snapshot table → IsOver catalog (rows_in (take table.version snapshot)) table
is_over catalog snapshot table own =
    let rows = rows_in (take table.version snapshot) in
    let made = mapped_from (table_over catalog table.table (length (take table.version snapshot)) rows) (declared_table catalog table.table) table own in
    let aggregate = gone_on (λ (a : SchemaAggregate). option_and_then (λ place. option_map (declared_for catalog a place) (slice_get catalog.cubes place)) (table_cube catalog table.table)) (slice_get catalog.schema.aggregates table.table) made.0 made.1 in
    let place = gone_on (λ place. option_map (declared_for catalog aggregate.0 place) (slice_get catalog.cubes place)) (table_cube catalog table.table) made.0 aggregate.2 in
    let cube = mapped_from (declared_for catalog aggregate.0 place.0) (slice_get catalog.cubes place.0) made.0 place.2 in
    let is : table_over catalog table.table (length (take table.version snapshot)) rows made.0 ≡ table = made.2 in
    record {
      declared = made.0;
      place = place.0;
      cube = cube.0;
      known = made.1;
      at = ap (λ (d : Declared). slice_get catalog.cubes d.cube) (sym cube.2) ∙ cube.1;
      measures = subst (λ (d : Declared). All (λ (own : TableMeasure). option_map (λ (m : Measure). m.aggregator) (slice_get cube.0.measures own.measure) ≡ Some own.aggregator) d.measures) cube.2 (measures_own cube.0 aggregate.0.measures);
      measured = ap (λ (t : TableOf). t.measured) (sym is);
      counted = ap (λ (t : TableOf). t.rows) (sym is);
      bodies = ap (λ (t : TableOf). t.bodies) (sym is);
    }

taken_few : {A : Type 0} (xs : List A) (n : ℕ) → length (take n xs) ≤ length xs
taken_few xs zero = omega arith
taken_few [] (suc n) = omega arith
taken_few (x ∷ xs) (suc n) = omega (arith, taken_few xs n)

-- its version is one of the snapshot's
pub not_newer : (catalog : Catalog) (snapshot : List FactRows) (table : TableOf) → IsTableOver catalog snapshot table → table.version ≤ length snapshot
not_newer catalog snapshot table own =
    let made = mapped_from (table_over catalog table.table (length (take table.version snapshot)) (rows_in (take table.version snapshot))) (declared_table catalog table.table) table own in
    let version : length (take table.version snapshot) ≡ table.version = ap (λ (t : TableOf). t.version) made.2 in
    omega (arith, version, taken_few snapshot table.version)

-- what reading it costs: its groups, and the rows that come after
pub cost_split : (catalog : Catalog) (snapshot : List FactRows) (table : TableOf) → IsTableOver catalog snapshot table → table_cost (length (rows_in snapshot)) table ≡ length (groups_in table.bodies) + length (rows_in (drop table.version snapshot))
cost_split catalog snapshot table own =
    let counted = (is_over catalog snapshot table own).counted in
    let whole = ap (λ (rows : List Row). length rows) (rows_split snapshot table.version) ∙ length-append (rows_in (take table.version snapshot)) (rows_in (drop table.version snapshot)) in
    omega (arith, counted, whole)

record ServesHeader (header : Header) (body : BodyOf) : Type 0 where
  cube : body.header.cube ≡ header.cube
  measure : body.header.measure ≡ header.measure
  adds : adds_up body.aggregator ≡ true
  has : list_all (λ own. has_column_of body.header own.0) header.columns ≡ true

serves_header : (header : Header) (body : BodyOf) → IsTrue (serves header body) → ServesHeader header body
serves_header header body is =
    let all = list_all (λ own. has_column_of body.header own.0) header.columns in
    let one = and_parts (((body.header.cube == header.cube) && (body.header.measure == header.measure)) && adds_up body.aggregator) all is in
    let two = and_parts ((body.header.cube == header.cube) && (body.header.measure == header.measure)) (adds_up body.aggregator) one.0 in
    let three = and_parts (body.header.cube == header.cube) (body.header.measure == header.measure) two.0 in
    record { cube = eqb-true _ _ three.0; measure = eqb-true _ _ three.1; adds = two.1; has = one.1 }

-- what serves adds up
pub serving_adds : (header : Header) (body : BodyOf) → IsTrue (serves header body) → body.aggregator ≡ DistinctCount → ⊥
serving_adds header body is distinct = let adds = rw distinct at (serves_header header body is).adds in absurd (cc)

module _ (catalog : Catalog) (header : Header) (snapshot : List FactRows) (table : TableOf) (wide narrowed : BodyOf)
    (placed : (t : ℕ) (declared : Declared) → declared_table catalog t ≡ Some declared → IsPlaced catalog declared) (valued : RowsAreValued catalog)
    (fit : IsTrue (are_batches catalog header.cube snapshot)) (own : IsTableOver catalog snapshot table) (usable : IsTrue (is_usable header table))
    (inside : Contains table.bodies wide) (serving : IsTrue (serves header wide)) (is : IsNarrowed wide header narrowed) where
  over : IsOver catalog (rows_in (take table.version snapshot)) table
  over = is_over catalog snapshot table own

  fold : IsOwnFold catalog over.declared over.cube (rows_in (take table.version snapshot)) wide
  fold =
      let measured = (and_parts table.measured (list_any (serves header) table.bodies) usable).0 in
      let all = own_folds catalog over.declared over.cube (rows_in (take table.version snapshot)) over.measures (sym over.measured ∙ measured) in
      All-contains (IsOwnFold catalog over.declared over.cube (rows_in (take table.version snapshot))) table.bodies wide (subst (All (IsOwnFold catalog over.declared over.cube (rows_in (take table.version snapshot)))) (sym over.bodies) all) inside

  -- the rows of the table's version, as the header has them
  rows_read : filter_map (narrowed_row wide.header header) wide.rows ≡ body_rows catalog header (rows_in (take table.version snapshot))
  rows_read =
      let of = serves_header header wide serving in
      let measure : fold.fold.measure ≡ header.measure = ap (λ (b : BodyOf). b.header.measure) (sym fold.is) ∙ of.measure in
      let cube : over.declared.cube ≡ header.cube = ap (λ (b : BodyOf). b.header.cube) (sym fold.is) ∙ of.cube in
      let same : wide.header ≡ table_header catalog over.declared header.measure = ap (λ (b : BodyOf). b.header) fold.is ∙ ap (table_header catalog over.declared) measure in
      let rows : wide.rows ≡ body_rows catalog (table_header catalog over.declared header.measure) (rows_in (take table.version snapshot)) =
      ap (λ (b : BodyOf). b.rows) fold.is ∙ ap (λ (m : ℕ). body_rows catalog (table_header catalog over.declared m) (rows_in (take table.version snapshot))) measure in
      let has = subst (λ (h : Header). list_all (λ own. has_column_of h own.0) header.columns ≡ true) same of.has in
      let known = subst (λ (c : ℕ). list_all (is_row catalog c) (rows_in (take table.version snapshot)) ≡ true) (sym cube) (rows_are catalog header.cube snapshot table.version fit) in
      ap (λ (h : Header). filter_map (narrowed_row h header) wide.rows) same
      ∙ ap (filter_map (narrowed_row (table_header catalog over.declared header.measure) header)) rows
      ∙ rows_narrowed catalog over.declared header (placed table.table over.declared over.known) valued cube has (rows_in (take table.version snapshot)) known

  pub few_rows : length narrowed.rows ≤ length (rows_in (take table.version snapshot))
  few_rows =
      let same = length_permutation _ _ is.own_rows in
      let read = ap (λ (rows : List (List ℕ × Option ℤ)). length rows) rows_read in
      omega (arith, same, read, body_rows-fit catalog header (rows_in (take table.version snapshot)))

  -- what a load makes of a table holds the rows of the snapshot
  pub table_holds : HoldsRows catalog header (rows_in snapshot) (record narrowed { rows = narrowed.rows ++ body_rows catalog header (rows_in (drop table.version snapshot)) })
  table_holds =
      let of = serves_header header wide serving in
      let measure : fold.fold.measure ≡ header.measure = ap (λ (b : BodyOf). b.header.measure) (sym fold.is) ∙ of.measure in
      let cube : over.declared.cube ≡ header.cube = ap (λ (b : BodyOf). b.header.cube) (sym fold.is) ∙ of.cube in
      let at : slice_get catalog.cubes header.cube ≡ Some over.cube = ap (slice_get catalog.cubes) (sym cube) ∙ over.at in
      let aggregator : wide.aggregator ≡ fold.fold.aggregator = ap (λ (b : BodyOf). b.aggregator) fold.is in
      let all = ap (body_rows catalog header) (rows_split snapshot table.version) ∙ body_rows-append catalog header (rows_in (take table.version snapshot)) (rows_in (drop table.version snapshot)) in
      let first = subst (λ (rows : List (List ℕ × Option ℤ)). IsPermutation rows narrowed.rows) rows_read is.own_rows in
      record {
        own_header = is.own_header;
        own_aggregator =
            ap (λ (o : Option Cube). option_map (λ (m : Measure). m.aggregator) (option_and_then (λ (c : Cube). slice_get c.measures header.measure) o)) at
            ∙ ap (λ (m : ℕ). option_map (λ (m : Measure). m.aggregator) (slice_get over.cube.measures m)) (sym measure)
            ∙ fold.own ∙ ap (λ (a : Aggregator). Some a) (sym aggregator ∙ sym is.own_aggregator);
        own_rows = subst (λ (rows : List (List ℕ × Option ℤ)). IsPermutation rows (narrowed.rows ++ body_rows catalog header (rows_in (drop table.version snapshot)))) (sym all)
            (IsPermutation-append_left (body_rows catalog header (rows_in (drop table.version snapshot))) _ _ first);
      }
