-- The rows of a body that are in a cell are the loaded rows that are in it.
use Rattle.std.proofs.Common.{◌≡◌, ◌∙◌, ◌<◌, ℕ, ℤ, zero, suc, Bool, true, false, List, [], ◌∷◌, Option, Some, None, length, map, filter, get_or, refl, sym, ap, subst, arith, inl, inr}
use Rattle.std.specs.Prelude.{◌&&◌, ◌||◌, ◌==◌, IsTrue, option_map, option_and_then, slice_get}
use Rattle.std.specs.List.{list_any, list_all, zip}
use Rattle.std.specs.Option.{option_map_or}
use Rattle.std.proofs.lemmas.Bool.{and_from, and_parts, cases_Bool, eqb-true}
use Rattle.olap_meaning.specs.declared.Aggregator.{Aggregator}
use Rattle.olap_meaning.specs.declared.CellValue.TheVariants.{Empty}
use Rattle.olap_meaning.specs.declared.cells.Allowed.{Allowed}
use Rattle.olap_meaning.specs.declared.cells.Cell.{Cell}
use Rattle.olap_meaning.specs.declared.cells.Header.{Header}
use Rattle.olap_meaning.specs.declared.tables.Catalog.{Catalog}
use Rattle.olap_meaning.specs.declared.tables.Measure.{Measure}
use Rattle.olap_meaning.specs.declared.tables.Row.{Row}
use Rattle.olap_meaning.specs.Covering.{allows, among, header_covers, just_covers, names_column}
use Rattle.olap_meaning.specs.History.{Entry, rows_of, is_some_and}
use Rattle.olap_meaning.specs.Legal.{rise}
use Rattle.olap_meaning.specs.Values.{aggregate}
use Rattle.olap_meaning.specs.Worth.{fact, measure_of, row_in, row_value, value, value_over}
use Rattle.segment_header.specs.Headers.{is_header, is_set}
use Rattle.segment_header.proofs.RiseFacts.{all_at, found_at, key_told}
use Rattle.segment_body.specs.BodyOf.{BodyOf, body_row_in}
use Rattle.list_orders.proofs.Aggregates.{aggregate_permutes}
use Rattle.list_orders.proofs.Permutations.{IsPermutation-filter}
use Rattle.std.proofs.lemmas.List.Sorted.{IsPermutation-map, IsPermutation-refl}
use Rattle.olap_meaning.specs.Budget.{allowed_values, if_allowed, row_values}
use Rattle.segment_body.proofs.ValueFacts.{first_allowed}
use Rattle.fact_reader.specs.BodyRows.{HoldsRows, row_number, header_measure, body_rows, body_of, body_value}

-- a column allows the value that it has
abbrev pub is_kept : (ℕ → Option ℕ) → ℕ × Allowed → Bool
is_kept f column = is_some_and (allows column.1) (f column.0)

or_twice : (a b : Bool) → (b || (a && b)) ≡ b
or_twice a true = refl
or_twice true false = refl
or_twice false false = refl

module _ (f : ℕ → Option ℕ) where
  -- a value that passes a test stands in a column where the column is one of them and has such a value
  pub stands_where : (test : ℕ → Bool) (columns : List (ℕ × Allowed)) (vs : List ℕ) (x : ℕ) → allowed_values f columns ≡ Some vs
      → list_any (λ own. (own.0.0 == x) && test own.1) (zip columns vs) ≡ (among (map (λ column. column.0) columns) x && is_some_and test (f x))
  stands_where test [] vs x h = refl
  stands_where test (c ∷ cs) vs x h =
      let parts = first_allowed c.1 (f c.0) (allowed_values f cs) vs h in
      let rest = stands_where test cs parts.1 x parts.4 in
      elim (cases_Bool (c.0 == x)) [
        | inl same ↦
            let here : f x ≡ Some parts.0 = rw (← eqb-true c.0 x same) parts.2 in
            rw (parts.5, same, rest, here) (or_twice (among (map (λ column. column.0) cs) x) (test parts.0))
        | inr other ↦ rw (parts.5, other) rest
      ]

  -- values on columns are those of a cell where the cell's columns have the cell's values
  pub all_stand : (columns : List (ℕ × Allowed)) (vs : List ℕ) (at : List (ℕ × ℕ)) → allowed_values f columns ≡ Some vs
      → list_all (λ pair. list_any (λ column. (column.0 == pair.0) && allows column.1 pair.1) columns) at ≡ true
      → list_all (λ pair. list_any (λ own. (own.0.0 == pair.0) && (own.1 == pair.1)) (zip columns vs)) at ≡ list_all (λ pair. is_some_and (λ value. value == pair.1) (f pair.0)) at
  all_stand columns vs [] h covered = refl
  all_stand columns vs (p ∷ ps) h covered =
      let parts = and_parts (list_any (λ column. (column.0 == p.0) && allows column.1 p.1) columns) (list_all (λ pair. list_any (λ column. (column.0 == pair.0) && allows column.1 pair.1) columns) ps) covered in
      rw (stands_where (λ v. v == p.1) columns vs p.0 h, known columns p parts.0, all_stand columns vs ps h parts.1) refl
    where
      known : (cs : List (ℕ × Allowed)) (pair : ℕ × ℕ) → list_any (λ column. (column.0 == pair.0) && allows column.1 pair.1) cs ≡ true → among (map (λ column. column.0) cs) pair.0 ≡ true
      known [] pair found = absurd (cc)
      known (c ∷ cs) pair found =
          elim (cases_Bool (c.0 == pair.0)) [ inl same ↦ rw same refl | inr other ↦ rw other (known cs pair (rw other at found)) ]

  -- where no values are allowed, some column has none that it allows
  pub missed : (columns : List (ℕ × Allowed)) → allowed_values f columns ≡ None → list_all (is_kept f) columns ≡ false
  missed [] h = absurd (cc)
  missed (c ∷ cs) h = by (f c.0) (allowed_values f cs) h (missed cs)
    where
      by : (value : Option ℕ) (rest : Option (List ℕ)) → option_and_then (λ v. option_map (λ values. v ∷ values) rest) (option_and_then (if_allowed c.1) value) ≡ None
          → (rest ≡ None → list_all (is_kept f) cs ≡ false) → (is_some_and (allows c.1) value && list_all (is_kept f) cs) ≡ false
      by None rest e others = refl
      by (Some v) rest e others =
          elim (cases_Bool (allows c.1 v)) [
            | inl passes ↦ rw passes (none rest (rw passes at e) others)
            | inr fails ↦ rw fails refl
          ]
        where
          none : (rest : Option (List ℕ)) → option_map (λ values. v ∷ values) rest ≡ None → (rest ≡ None → list_all (is_kept f) cs ≡ false) → list_all (is_kept f) cs ≡ false
          none None e others = others refl
          none (Some values) e others = absurd (cc)

  -- one of a cell's pairs, which are all covered and have the row's values, is in a column that the cell names
  found : (columns : List (ℕ × Allowed)) (at : List (ℕ × ℕ)) (x : ℕ) → list_any (λ pair. pair.0 == x) at ≡ true
      → list_all (λ pair. list_any (λ column. (column.0 == pair.0) && allows column.1 pair.1) columns) at ≡ true
      → list_all (λ pair. is_some_and (λ value. value == pair.1) (f pair.0)) at ≡ true
      → (pair : ℕ × ℕ) × (pair.0 ≡ x) × (list_any (λ column. (column.0 == pair.0) && allows column.1 pair.1) columns ≡ true) × (f pair.0 ≡ Some pair.1)
  found columns [] x named covered inside = absurd (cc)
  found columns (p ∷ ps) x named covered inside =
      let covers = and_parts (list_any (λ column. (column.0 == p.0) && allows column.1 p.1) columns) (list_all (λ pair. list_any (λ column. (column.0 == pair.0) && allows column.1 pair.1) columns) ps) covered in
      let has = and_parts (is_some_and (λ value. value == p.1) (f p.0)) (list_all (λ pair. is_some_and (λ value. value == pair.1) (f pair.0)) ps) inside in
      elim (cases_Bool (p.0 == x)) [
        | inl same ↦ (p, eqb-true p.0 x same, covers.0, some_is (f p.0) p.1 has.0)
        | inr other ↦ found columns ps x (rw other at named) covers.1 has.1
      ]
    where
      some_is : (o : Option ℕ) (n : ℕ) → is_some_and (λ value. value == n) o ≡ true → o ≡ Some n
      some_is None n h = absurd (cc)
      some_is (Some v) n h = ap (λ (m : ℕ). Some m) (eqb-true v n h)

  -- a column that the cell names allows the value that it has
  kept_at : (columns : List (ℕ × Allowed)) (at : List (ℕ × ℕ)) (i : ℕ) (d : ℕ × Allowed) → i < length columns → rise (map (λ column. column.0) columns) ≡ true
      → list_all (λ column. list_any (λ pair. pair.0 == column.0) at) columns ≡ true
      → list_all (λ pair. list_any (λ column. (column.0 == pair.0) && allows column.1 pair.1) columns) at ≡ true
      → list_all (λ pair. is_some_and (λ value. value == pair.1) (f pair.0)) at ≡ true
      → is_kept f (get_or columns i d) ≡ true
  kept_at columns at i d within up named covered inside =
      let here = found columns at (get_or columns i d).0 (all_at (λ column. list_any (λ pair. pair.0 == column.0) at) columns i d named within) covered inside in
      let pair = here.0 in
      let only = found_at (λ column. column.0) pair.0 (λ column. (column.0 == pair.0) && allows column.1 pair.1) (λ column. key_told column.0 pair.0 (allows column.1 pair.1)) columns i d up within (sym here.1) in
      let passes : allows (get_or columns i d).1 pair.1 ≡ true = (and_parts ((get_or columns i d).0 == pair.0) (allows (get_or columns i d).1 pair.1) (sym only ∙ here.2)).1 in
      rw (← here.1, here.3) passes

  kept_all : (p : ℕ × Allowed → Bool) (columns : List (ℕ × Allowed)) → ((i : ℕ) (d : ℕ × Allowed) → i < length columns → p (get_or columns i d) ≡ true) → list_all p columns ≡ true
  kept_all p [] each = refl
  kept_all p (c ∷ cs) each = and_from _ _ (each zero c (omega arith)) (kept_all p cs (λ i d within. each (suc i) d (omega arith)))

  -- where no values are allowed, a cell that the columns just cover has some other value
  none_inside : (columns : List (ℕ × Allowed)) (at : List (ℕ × ℕ)) → allowed_values f columns ≡ None → rise (map (λ column. column.0) columns) ≡ true
      → list_all (λ column. list_any (λ pair. pair.0 == column.0) at) columns ≡ true
      → list_all (λ pair. list_any (λ column. (column.0 == pair.0) && allows column.1 pair.1) columns) at ≡ true
      → list_all (λ pair. is_some_and (λ value. value == pair.1) (f pair.0)) at ≡ false
  none_inside columns at none up named covered =
      elim (cases_Bool (list_all (λ pair. is_some_and (λ value. value == pair.1) (f pair.0)) at)) [
        | inl inside ↦
            let all : list_all (is_kept f) columns ≡ true = kept_all (is_kept f) columns (λ i d within. kept_at columns at i d within up named covered inside) in
            let not_all = missed columns none in
            absurd (cc)
        | inr outside ↦ outside
      ]

-- what a header that just covers a cell says of its columns and the cell's
record Covers (header : Header) (cell : Cell) : Type 0 where
  cube : header.cube ≡ cell.cube
  measure : header.measure ≡ cell.measure
  rising : rise (map (λ column. column.0) header.columns) ≡ true
  named : list_all (λ column. list_any (λ pair. pair.0 == column.0) cell.at) header.columns ≡ true
  covered : list_all (λ pair. list_any (λ column. (column.0 == pair.0) && allows column.1 pair.1) header.columns) cell.at ≡ true

covers_of : (header : Header) (cell : Cell) → IsTrue (is_header header) → IsTrue (just_covers header cell) → Covers header cell
covers_of header cell holds covers =
    let allowed : Bool = list_all (λ pair. list_any (λ column. (column.0 == pair.0) && allows column.1 pair.1) header.columns) cell.at in
    let parts = and_parts (header_covers header cell) (list_all (λ column. names_column cell column.0) header.columns) covers in
    let own = and_parts ((header.cube == cell.cube) && (header.measure == cell.measure)) allowed parts.0 in
    let same = and_parts (header.cube == cell.cube) (header.measure == cell.measure) own.0 in
    let rises = and_parts (rise (map (λ column. column.0) header.columns)) (list_all (λ column. is_set column.1) header.columns) holds in
    record { cube = eqb-true _ _ same.0; measure = eqb-true _ _ same.1; rising = rises.0; named = parts.1; covered = own.1 }

module _ (catalog : Catalog) (header : Header) (cell : Cell) (is : Covers header cell) where
  -- a row that the body has is in the cell where the loaded row is
  has_row_in : (row : Row) (vs : List ℕ) → row_values catalog header row ≡ Some vs → body_row_in header cell (vs, row_number catalog header row) ≡ row_in catalog cell row
  has_row_in row vs h = all_stand (row_value catalog header.cube row) header.columns vs cell.at h is.covered ∙ ap (λ (cube : ℕ). list_all (λ pair. is_some_and (λ value. value == pair.1) (row_value catalog cube row pair.0)) cell.at) is.cube

  -- a row that the body has not is in no such cell
  no_row_in : (row : Row) → row_values catalog header row ≡ None → row_in catalog cell row ≡ false
  no_row_in row h =
      ap (λ (cube : ℕ). list_all (λ pair. is_some_and (λ value. value == pair.1) (row_value catalog cube row pair.0)) cell.at) (sym is.cube)
      ∙ none_inside (row_value catalog header.cube row) header.columns cell.at h is.rising is.named is.covered

  -- the numbers of the body's rows in the cell are those of the loaded rows in it
  numbers_inside : (rows : List Row) → map (λ row. row.1) (filter (body_row_in header cell) (body_rows catalog header rows)) ≡ map (row_number catalog header) (filter (row_in catalog cell) rows)
  numbers_inside [] = refl
  numbers_inside (row ∷ rows) = by (row_values catalog header row) refl (numbers_inside rows)
    where
      by : (values : Option (List ℕ)) → row_values catalog header row ≡ values
          → map (λ row. row.1) (filter (body_row_in header cell) (body_rows catalog header rows)) ≡ map (row_number catalog header) (filter (row_in catalog cell) rows)
          → map (λ row. row.1) (filter (body_row_in header cell) (body_rows catalog header (row ∷ rows))) ≡ map (row_number catalog header) (filter (row_in catalog cell) (row ∷ rows))
      by None e rest = rw (e, no_row_in row e) rest
      by (Some vs) e rest =
          let same = has_row_in row vs e in
          elim (cases_Bool (row_in catalog cell row)) [
            | inl inside ↦ rw (e, same, inside, rest) refl
            | inr outside ↦ rw (e, same, outside) rest
          ]

-- the numbers that a body has of a cell that its header just covers are those of the rows in the cell
pub numbers_loaded : (catalog : Catalog) (header : Header) (cell : Cell) (rows : List Row) → IsTrue (is_header header) → IsTrue (just_covers header cell)
    → map (λ row. row.1) (filter (body_row_in header cell) (body_rows catalog header rows)) ≡ map (row_number catalog header) (filter (row_in catalog cell) rows)
numbers_loaded catalog header cell rows holds covers = numbers_inside catalog header cell (covers_of header cell holds covers) rows

-- what the body of a load says of a cell that its header just covers is the value of the cell over the rows
pub body_value-body_of : (catalog : Catalog) (header : Header) (rows : List Row) (body : BodyOf) (cell : Cell) → IsTrue (is_header header) → IsTrue (just_covers header cell) → body_of catalog header rows ≡ Some body
    → body_value body cell ≡ value_over catalog cell rows
body_value-body_of catalog header rows body cell holds covers made = by (header_measure catalog header) refl
  where
    is : Covers header cell
    is = covers_of header cell holds covers

    inside : List Row
    inside = filter (row_in catalog cell) rows

    same : header_measure catalog header ≡ measure_of catalog cell
    same = ap (λ (m : ℕ). option_and_then (λ cube. slice_get cube.measures m) (slice_get catalog.cubes header.cube)) is.measure ∙ ap (λ (n : ℕ). option_and_then (λ cube. slice_get cube.measures cell.measure) (slice_get catalog.cubes n)) is.cube

    by : (measure : Option Measure) → header_measure catalog header ≡ measure → body_value body cell ≡ value_over catalog cell rows
    by None e = let none = rw e at made in absurd (cc)
    by (Some measure) e =
        let some : ◌≡◌ {A = Option BodyOf} (Some (record { header = header; aggregator = measure.aggregator; rows = body_rows catalog header rows })) (Some body) = rw e at made in
        let body_is : ◌≡◌ {A = BodyOf} (record { header = header; aggregator = measure.aggregator; rows = body_rows catalog header rows }) body = cc in
        let here : measure_of catalog cell ≡ Some measure = sym same ∙ e in
        let numbers : map (row_number catalog header) inside ≡ map (fact catalog cell.cube measure.column) inside =
        ap (λ (m : Option Measure). map (λ row. option_and_then (λ own. fact catalog header.cube own.column row) m) inside) e
        ∙ ap (λ (n : ℕ). map (fact catalog n measure.column) inside) is.cube in
        ap (λ (b : BodyOf). body_value b cell) (sym body_is)
        ∙ ap (λ (ns : List (Option ℤ)). aggregate measure.aggregator ns) (numbers_loaded catalog header cell rows holds covers ∙ numbers)
        ∙ sym (ap (λ (m : Option Measure). option_map_or (λ own. aggregate own.aggregator (map (fact catalog cell.cube own.column) inside)) m Empty) here)

-- and over the rows of a version, its value in that version
pub body_value-version : (catalog : Catalog) (history : List Entry) (header : Header) (version : ℕ) (body : BodyOf) (cell : Cell) → IsTrue (is_header header) → IsTrue (just_covers header cell)
    → body_of catalog header (rows_of history header.cube version) ≡ Some body → body_value body cell ≡ value catalog history cell version
body_value-version catalog history header version body cell holds covers made =
    body_value-body_of catalog header (rows_of history header.cube version) body cell holds covers made
    ∙ ap (λ (n : ℕ). value_over catalog cell (rows_of history n version)) (covers_of header cell holds covers).cube

-- the body of a load holds the rows
pub loads_hold_rows : (catalog : Catalog) (header : Header) (rows : List Row) (body : BodyOf) → body_of catalog header rows ≡ Some body → HoldsRows catalog header rows body
loads_hold_rows catalog header rows body made = by (header_measure catalog header) refl made
  where
    by : (measure : Option Measure) → header_measure catalog header ≡ measure
        → option_map (λ own. record { header = header; aggregator = own.aggregator; rows = body_rows catalog header rows }) measure ≡ Some body → HoldsRows catalog header rows body
    by None e h = absurd (cc)
    by (Some measure) e h =
        let is : ◌≡◌ {A = BodyOf} (record { header = header; aggregator = measure.aggregator; rows = body_rows catalog header rows }) body = cc in
        subst (λ (b : BodyOf). HoldsRows catalog header rows b) is
        (record { own_header = refl; own_aggregator = ap (option_map (λ (m : Measure). m.aggregator)) e; own_rows = IsPermutation-refl (body_rows catalog header rows) })

-- in whatever order a body has the rows, it says of a cell what the body of a load of them says
same_worth : (catalog : Catalog) (header : Header) (rows : List Row) (body : BodyOf) (cell : Cell) (measure : Measure) → HoldsRows catalog header rows body → header_measure catalog header ≡ Some measure
    → body_value body cell ≡ body_value (record { header = header; aggregator = measure.aggregator; rows = body_rows catalog header rows }) cell
same_worth catalog header rows body cell measure holds e =
    ap (λ (h : Header). aggregate body.aggregator (map (λ row. row.1) (filter (body_row_in h cell) body.rows))) holds.own_header
    ∙ sym (aggregate_permutes body.aggregator _ _ (IsPermutation-map (λ row. row.1) _ _ (IsPermutation-filter (body_row_in header cell) _ _ holds.own_rows)))
    ∙ ap (λ (a : Aggregator). aggregate a (map (λ row. row.1) (filter (body_row_in header cell) (body_rows catalog header rows)))) (sym same)
  where
    same : measure.aggregator ≡ body.aggregator
    same = let both : Some measure.aggregator ≡ Some body.aggregator = sym (ap (option_map (λ (m : Measure). m.aggregator)) e) ∙ holds.own_aggregator in cc

-- what a body that holds rows says of a cell that its header just covers is the value of the cell over the rows
pub held_rows_are_worth : (catalog : Catalog) (header : Header) (rows : List Row) (body : BodyOf) (cell : Cell) → IsTrue (is_header header) → IsTrue (just_covers header cell) → HoldsRows catalog header rows body
    → body_value body cell ≡ value_over catalog cell rows
held_rows_are_worth catalog header rows body cell formed covers holds = by (header_measure catalog header) refl
  where
    by : (measure : Option Measure) → header_measure catalog header ≡ measure → body_value body cell ≡ value_over catalog cell rows
    by None e = let none : None ≡ Some body.aggregator = sym (ap (option_map (λ (m : Measure). m.aggregator)) e) ∙ holds.own_aggregator in absurd (cc)
    by (Some measure) e =
        same_worth catalog header rows body cell measure holds e
        ∙ body_value-body_of catalog header rows (record { header = header; aggregator = measure.aggregator; rows = body_rows catalog header rows }) cell formed covers
        (ap (option_map (λ (own : Measure). record { header = header; aggregator = own.aggregator; rows = body_rows catalog header rows })) e)

-- and over the rows of a version, its value in that version
pub held_rows_are_worth_in_versions : (catalog : Catalog) (history : List Entry) (header : Header) (version : ℕ) (body : BodyOf) (cell : Cell) → IsTrue (is_header header) → IsTrue (just_covers header cell)
    → HoldsRows catalog header (rows_of history header.cube version) body → body_value body cell ≡ value catalog history cell version
held_rows_are_worth_in_versions catalog history header version body cell formed covers holds =
    held_rows_are_worth catalog header (rows_of history header.cube version) body cell formed covers holds
    ∙ ap (λ (n : ℕ). value_over catalog cell (rows_of history n version)) (covers_of header cell formed covers).cube
