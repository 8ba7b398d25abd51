-- What a load gives of a cell: the rows of the cell whose value in the split is the load's own.
use Rattle.std.proofs.Common.{◌≡◌, ◌∙◌, ℕ, ℤ, Bool, true, false, List, [], ◌∷◌, Option, None, Some, map, filter, refl, sym, ap, subst, inl, inr, eq-eqb}
use Rattle.std.specs.Prelude.{◌&&◌, ◌||◌, ◌==◌, Contains, nat_lt, option_and_then, option_map, slice_get}
use Rattle.std.specs.List.{list_any, list_all}
use Rattle.std.specs.List.Sorted.{IsPermutation}
use Rattle.std.proofs.lemmas.Bool.{and_parts, cases_Bool, eqb-true}
use Rattle.std.proofs.lemmas.List.Sorted.{IsPermutation-map}
use Rattle.olap_meaning.specs.declared.cells.Allowed.{Allowed}
use Rattle.olap_meaning.specs.declared.cells.Cell.{Cell}
use Rattle.olap_meaning.specs.declared.cells.Header.{Header}
use Rattle.olap_meaning.specs.declared.tables.Catalog.{Catalog}
use Rattle.olap_meaning.specs.declared.tables.Measure.{Measure}
use Rattle.olap_meaning.specs.declared.tables.Row.{Row}
use Rattle.olap_meaning.specs.Covering.{allows, among, header_covers, names_column}
use Rattle.olap_meaning.specs.History.{is_some_and}
use Rattle.olap_meaning.specs.Legal.{rise}
use Rattle.olap_meaning.specs.Rolled.{allows_in, header_columns, is_any, is_open_but, value_count}
use Rattle.olap_meaning.specs.Worth.{fact, measure_of, row_in, row_value}
use Rattle.olap_meaning.proofs.Members.{all_member, any_member, map_member, member_all, member_any}
use Rattle.olap_meaning.proofs.Rolling.{open_allows}
use Rattle.list_orders.proofs.Permutations.{IsPermutation-filter}
use Rattle.segment_header.specs.Headers.{is_header, is_set}
use Rattle.segment_header.proofs.RiseFacts.{found_at, key_told, key_here}
use Rattle.segment_body.specs.AllFolds.{FoldOf, fold_numbers}
use Rattle.segment_body.specs.Folds.{body_row_within, has_allowed, numbers_where}
use Rattle.segment_body.specs.BodyOf.{body_row_in}
use Rattle.olap_meaning.specs.Budget.{allowed_values, row_values}
use Rattle.fact_reader.specs.BodyRows.{HoldsRows, body_rows, header_measure, row_number}
use Rattle.fact_reader.proofs.LawFacts.{all_stand, is_kept, missed, stands_where}
use Rattle.fact_reader.specs.BodyRows.{is_valued}

-- a row's value in a column is one that is allowed
abbrev pub is_owned : Catalog → ℕ → ℕ → Allowed → Row → Bool
is_owned catalog cube split own row = is_some_and (allows own) (row_value catalog cube row split)

pub some_passes : (test : ℕ → Bool) (o : Option ℕ) → is_some_and test o ≡ true → (v : ℕ) × (o ≡ Some v) × (test v ≡ true)
some_passes test None h = absurd (cc)
some_passes test (Some v) h = (v, refl, h)

-- what a load has that makes part of a cell along a split, with rows after it
pub record Serves (catalog : Catalog) (cell : Cell) (split : ℕ) (rows : List Row) (fold : FoldOf) : Type 0 where
  pub formed : is_header fold.body.header ≡ true
  pub covering : header_covers fold.body.header cell ≡ true
  pub having : Contains (header_columns fold.body.header) split
  pub opened : is_open_but cell split fold.body.header ≡ true
  pub within : (value : ℕ) → allows fold.own value ≡ true → allows_in fold.body.header split value ≡ true
  pub holds : HoldsRows catalog fold.body.header rows fold.body
  pub valued : list_all (λ row. list_all (is_valued catalog cell.cube row) (header_columns fold.body.header)) rows ≡ true
  pub along : fold.column ≡ split

module _ (catalog : Catalog) (cell : Cell) (split : ℕ) (rows : List Row) (fold : FoldOf) (serves : Serves catalog cell split rows fold) where
  abbrev h : Header
  h = fold.body.header

  -- each pair of the cell is covered
  covered : list_all (λ pair. list_any (λ own. (own.0 == pair.0) && allows own.1 pair.1) h.columns) cell.at ≡ true
  covered = (and_parts ((h.cube == cell.cube) && (h.measure == cell.measure)) (list_all (λ pair. list_any (λ own. (own.0 == pair.0) && allows own.1 pair.1) h.columns) cell.at) serves.covering).1

  same : ((h.cube == cell.cube) ≡ true) × ((h.measure == cell.measure) ≡ true)
  same = let own = and_parts (h.cube == cell.cube) (h.measure == cell.measure) (and_parts ((h.cube == cell.cube) && (h.measure == cell.measure)) (list_all (λ pair. list_any (λ own. (own.0 == pair.0) && allows own.1 pair.1) h.columns) cell.at) serves.covering).0 in (own.0, own.1)

  cube_same : h.cube ≡ cell.cube
  cube_same = eqb-true h.cube cell.cube same.0

  measure_same : h.measure ≡ cell.measure
  measure_same = eqb-true h.measure cell.measure same.1

  -- the measure of the header is the cell's
  pub measures_same : header_measure catalog h ≡ measure_of catalog cell
  measures_same =
      ap (λ (m : ℕ). option_and_then (λ cube. slice_get cube.measures m) (slice_get catalog.cubes h.cube)) measure_same
      ∙ ap (λ (n : ℕ). option_and_then (λ cube. slice_get cube.measures cell.measure) (slice_get catalog.cubes n)) cube_same

  rising : rise (map (λ own. own.0) h.columns) ≡ true
  rising = (and_parts (rise (map (λ own. own.0) h.columns)) (list_all (λ own. is_set own.1) h.columns) serves.formed).0

  -- a column stands once
  only : (test : Allowed → Bool) (x : ℕ) (own : ℕ × Allowed) → Contains h.columns own → own.0 ≡ x → list_any (λ mine. (mine.0 == x) && test mine.1) h.columns ≡ true → test own.1 ≡ true
  only test x own (k, inside, at) here found =
      let first = found_at (λ (mine : ℕ × Allowed). mine.0) x (λ mine. (mine.0 == x) && test mine.1) (λ mine. key_told mine.0 x (test mine.1)) h.columns k own rising inside (ap (λ (mine : ℕ × Allowed). mine.0) at ∙ here) in
      sym (key_here own.0 x (test own.1) here) ∙ sym (ap (λ (mine : ℕ × Allowed). (mine.0 == x) && test mine.1) at) ∙ sym first ∙ found

  has_split : among (map (λ column. column.0) h.columns) split ≡ true
  has_split = any_member (λ column. column == split) (header_columns h) split serves.having (eq-eqb split split refl)

  module _ (row : Row) (valued : list_all (is_valued catalog cell.cube row) (header_columns h) ≡ true) where
    abbrev value_on : ℕ → Option ℕ
    value_on = row_value catalog cell.cube row

    -- each column allows the value of a row that is in the cell and is the load's own
    column_keeps : row_in catalog cell row ≡ true → is_owned catalog cell.cube split fold.own row ≡ true → (mine : ℕ × Allowed) → Contains h.columns mine → is_kept value_on mine ≡ true
    column_keeps inside owned mine held =
        elim (cases_Bool (mine.0 == split)) [
          | inl same ↦
              let here : mine.0 ≡ split = eqb-true mine.0 split same in
              let own = some_passes (allows fold.own) (value_on split) owned in
              let allowed = only (λ a. allows a own.0) split mine held here (serves.within own.0 own.2) in
              let at : value_on mine.0 ≡ Some own.0 = ap value_on here ∙ own.1 in
              rw at allowed
          | inr other ↦
              elim (cases_Bool (names_column cell mine.0)) [
                | inl named ↦
                    let found = member_any (λ pair. pair.0 == mine.0) cell.at named in
                    let same : found.0.0 ≡ mine.0 = eqb-true found.0.0 mine.0 found.2 in
                    let has = some_passes (λ value. value == found.0.1) (value_on found.0.0) (all_member (λ pair. is_some_and (λ value. value == pair.1) (value_on pair.0)) cell.at found.0 inside found.1) in
                    let covers = all_member (λ pair. list_any (λ own. (own.0 == pair.0) && allows own.1 pair.1) h.columns) cell.at found.0 covered found.1 in
                    let allowed : allows mine.1 found.0.1 ≡ true = only (λ a. allows a found.0.1) found.0.0 mine held (sym same) covers in
                    let at : value_on mine.0 ≡ Some found.0.1 = ap value_on (sym same) ∙ has.1 ∙ ap (λ (v : ℕ). Some v) (eqb-true has.0 found.0.1 has.2) in
                    rw at allowed
                | inr lacked ↦
                    let told = all_member (λ own. (own.0 == split) || names_column cell own.0 || is_any own.1) h.columns mine serves.opened held in
                    let is : is_any mine.1 ≡ true = rw (other, lacked) at told in
                    let has = some_passes (λ value. nat_lt value (value_count catalog mine.0)) (value_on mine.0) (all_member (is_valued catalog cell.cube row) (header_columns h) mine.0 valued (map_member (λ (own : ℕ × Allowed). own.0) h.columns mine held)) in
                    rw has.1 (open_allows mine.1 has.0 is)
              ]
        ]

    -- where some column does not, the row is not in the cell or not the load's own
    none_owned : allowed_values value_on h.columns ≡ None → (row_in catalog cell row && is_owned catalog cell.cube split fold.own row) ≡ false
    none_owned none =
        elim (cases_Bool (row_in catalog cell row)) [
          | inr outside ↦ rw outside refl
          | inl inside ↦
              elim (cases_Bool (is_owned catalog cell.cube split fold.own row)) [
                | inr others' ↦ rw (inside, others') refl
                | inl owned ↦
                    let all : list_all (is_kept value_on) h.columns ≡ true = member_all (is_kept value_on) h.columns (column_keeps inside owned) in
                    let not_all = missed value_on h.columns none in
                    absurd (cc)
              ]
        ]

    -- a row that the body has is folded where it is in the cell and the load's own
    folded_same : (vs : List ℕ) (number : Option ℤ) → allowed_values value_on h.columns ≡ Some vs
        → body_row_within h cell split fold.own (vs, number) ≡ (row_in catalog cell row && is_owned catalog cell.cube split fold.own row)
    folded_same vs number some =
        let inside : body_row_in h cell (vs, number) ≡ row_in catalog cell row = all_stand value_on h.columns vs cell.at some covered in
        let owned : has_allowed h.columns split fold.own vs ≡ is_owned catalog cell.cube split fold.own row = stands_where value_on (allows fold.own) h.columns vs split some ∙ rw has_split refl in
        rw (inside, owned) refl

  -- the numbers of the rows that are folded are those of the rows of the cell that are the load's own
  numbers_owned : (some : List Row) → list_all (λ row. list_all (is_valued catalog cell.cube row) (header_columns h)) some ≡ true
      → numbers_where (body_row_within h cell split fold.own) (body_rows catalog h some) ≡ map (row_number catalog h) (filter (λ row. row_in catalog cell row && is_owned catalog cell.cube split fold.own row) some)
  numbers_owned [] valued = refl
  numbers_owned (row ∷ some) valued =
      let parts = and_parts (list_all (is_valued catalog cell.cube row) (header_columns h)) (list_all (λ row. list_all (is_valued catalog cell.cube row) (header_columns h)) some) valued in
      by (allowed_values (row_value catalog cell.cube row) h.columns) refl parts.0 (numbers_owned some parts.1)
    where
      by : (values : Option (List ℕ)) → allowed_values (row_value catalog cell.cube row) h.columns ≡ values → list_all (is_valued catalog cell.cube row) (header_columns h) ≡ true
          → numbers_where (body_row_within h cell split fold.own) (body_rows catalog h some) ≡ map (row_number catalog h) (filter (λ row. row_in catalog cell row && is_owned catalog cell.cube split fold.own row) some)
          → numbers_where (body_row_within h cell split fold.own) (body_rows catalog h (row ∷ some)) ≡ map (row_number catalog h) (filter (λ row. row_in catalog cell row && is_owned catalog cell.cube split fold.own row) (row ∷ some))
      by None none valued rest =
          let values : row_values catalog h row ≡ None = ap (λ (n : ℕ). allowed_values (row_value catalog n row) h.columns) cube_same ∙ none in
          rw (values, none_owned row valued none) rest
      by (Some vs) is valued rest =
          let values : row_values catalog h row ≡ Some vs = ap (λ (n : ℕ). allowed_values (row_value catalog n row) h.columns) cube_same ∙ is in
          let same = folded_same row valued vs (row_number catalog h row) is in
          elim (cases_Bool (row_in catalog cell row && is_owned catalog cell.cube split fold.own row)) [
            | inl passes ↦ rw (values, same, passes, rest) refl
            | inr fails ↦ rw (values, same, fails) rest
          ]

  module _ (measure : Measure) (is_measure : measure_of catalog cell ≡ Some measure) where
    number_same : (row : Row) → row_number catalog h row ≡ fact catalog cell.cube measure.column row
    number_same row =
        ap (λ (m : Option Measure). option_and_then (λ own. fact catalog h.cube own.column row) m) (measures_same ∙ is_measure)
        ∙ ap (λ (n : ℕ). fact catalog n measure.column row) cube_same

    -- the numbers of a fold are those of the rows of the cell that are the load's own, in some order
    pub fold_permutes : IsPermutation (map (fact catalog cell.cube measure.column) (filter (λ row. row_in catalog cell row && is_owned catalog cell.cube split fold.own row) rows)) (fold_numbers cell fold)
    fold_permutes =
        let test : List ℕ × Option ℤ → Bool = body_row_within h cell split fold.own in
        let kept = IsPermutation-filter test (body_rows catalog h rows) fold.body.rows serves.holds.own_rows in
        let numbers = IsPermutation-map (λ (row : List ℕ × Option ℤ). row.1) _ _ kept in
        let same : map (λ (row : List ℕ × Option ℤ). row.1) (filter test (body_rows catalog h rows)) ≡ map (fact catalog cell.cube measure.column) (filter (λ row. row_in catalog cell row && is_owned catalog cell.cube split fold.own row) rows) =
        numbers_owned rows serves.valued ∙ map_agree (row_number catalog h) (fact catalog cell.cube measure.column) number_same (filter (λ row. row_in catalog cell row && is_owned catalog cell.cube split fold.own row) rows) in
        subst (λ (ns : List (Option ℤ)). IsPermutation ns (fold_numbers cell fold)) same (rw serves.along numbers)
      where
        map_agree : {A B : Type 0} (f g : A → B) → ((x : A) → f x ≡ g x) → (xs : List A) → map f xs ≡ map g xs
        map_agree f g agree [] = refl
        map_agree f g agree (x ∷ xs) = let first = agree x in let rest = map_agree f g agree xs in cc

    -- the aggregator of the body is that of the measure
    pub aggregator_same : fold.body.aggregator ≡ measure.aggregator
    aggregator_same =
        let both : Some measure.aggregator ≡ Some fold.body.aggregator = sym (ap (option_map (λ (m : Measure). m.aggregator)) (measures_same ∙ is_measure)) ∙ serves.holds.own_aggregator in
        cc
