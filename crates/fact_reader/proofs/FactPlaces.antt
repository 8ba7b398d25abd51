-- The place of a column among the fact columns of some measures.
use Rattle.std.proofs.Common.{◌≡◌, ◌∙◌, ◌<◌, ◌≤◌, ◌+◌, ℕ, zero, suc, Bool, true, false, not, cond, List, [], ◌∷◌, ◌++◌, Option, None, Some, length, map, take, drop, get_or, bytes_eq, refl, sym, ap, arith, add-one}
use Rattle.std.specs.Prelude.{◌==◌, position}
use Rattle.std.specs.List.{list_any, list_all}
use Rattle.std.proofs.lemmas.List.{map_push, take_more}
use Rattle.std.proofs.lemmas.List.Folds.{list_any-append}
use Rattle.olap_meaning.specs.declared.tables.Measure.{Measure}
use Rattle.olap_meaning.specs.Catalog.{first_appearances}
use Rattle.olap_meaning.proofs.Appearances.{count_push, number_here, number_none}
use Rattle.std.specs.Prelude.{IsTrue, option_and_then, slice_get}
use Rattle.std.proofs.lemmas.Bool.{and_parts}
use Rattle.std.proofs.lemmas.Option.{slice_get-map, slice_get-get_or, slice_get_within}
use Rattle.olap_meaning.specs.declared.cells.Header.{Header}
use Rattle.olap_meaning.specs.declared.tables.Catalog.{Catalog}
use Rattle.olap_meaning.specs.declared.tables.Column.{Column}
use Rattle.olap_meaning.specs.declared.tables.Cube.{Cube}
use Rattle.olap_meaning.specs.Catalog.{fact_columns}
use Rattle.olap_meaning.specs.History.{is_some_and}
use Rattle.olap_meaning.specs.Legal.{is_column_of}
use Rattle.olap_meaning.proofs.Appearances.{any-same}
use Rattle.olap_meaning.proofs.Lists.{any_at, position_there, text_self}
use Rattle.olap_meaning.proofs.Loads.{some_and}
use Rattle.catalog_tables.proofs.SeenFacts.{list_any-map}
use Rattle.fact_reader.specs.Reading.{fact_place, place_of}
use Rattle.fact_reader.specs.BodyRows.{header_measure, is_loadable}

-- the columns of some measures
abbrev pub columns : List Measure → List (List ℕ)
columns measures = map (λ measure. measure.column) measures

columns_at : (measures : List Measure) (i : ℕ) (measure : Measure) → i < length measures → measure ≡ get_or measures i measure → columns measures ≡ columns (take i measures) ++ measure.column ∷ columns (drop (suc i) measures)
columns_at [] i measure within is = absurd (omega arith)
columns_at (m ∷ ms) zero measure within is = rw is refl
columns_at (m ∷ ms) (suc i) measure within is = ap (λ (rest : List (List ℕ)). m.column ∷ rest) (columns_at ms i measure (omega arith) is)

columns_suc : (measures : List Measure) (i : ℕ) (measure : Measure) → i < length measures → measure ≡ get_or measures i measure → columns (take (suc i) measures) ≡ columns (take i measures) ++ measure.column ∷ []
columns_suc [] i measure within is = absurd (omega arith)
columns_suc (m ∷ ms) zero measure within is = rw is refl
columns_suc (m ∷ ms) (suc i) measure within is = ap (λ (rest : List (List ℕ)). m.column ∷ rest) (columns_suc ms i measure (omega arith) is)

pub columns_next : (measures : List Measure) (i : ℕ) (measure : Measure) → i < length measures → measure ≡ get_or measures i measure → columns (take (i + 1) measures) ≡ columns (take i measures) ++ measure.column ∷ []
columns_next measures i measure within is = ap (λ (n : ℕ). columns (take n measures)) (add-one i) ∙ columns_suc measures i measure within is

-- the first measure with a column has the place after the different columns before it
pub place_here : (measures : List Measure) (i : ℕ) (measure : Measure) (column : List ℕ) (place : ℕ) → i < length measures → measure ≡ get_or measures i measure → bytes_eq column measure.column ≡ true
    → place ≡ length (first_appearances (columns (take i measures))) → list_any (bytes_eq column) (columns (take i measures)) ≡ false
    → Some place ≡ position (bytes_eq column) (first_appearances (columns measures))
place_here measures i measure column place within is same counted unseen =
    ap (λ (n : ℕ). Some n) counted
    ∙ sym (number_here (columns (take i measures)) (columns (drop (suc i) measures)) measure.column column unseen same)
    ∙ ap (λ (texts : List (List ℕ)). position (bytes_eq column) (first_appearances texts)) (sym (columns_at measures i measure within is))

-- the different columns with one measure more
pub counted_next : (measures : List Measure) (i : ℕ) (measure : Measure) (place : ℕ) (seen : Bool) → i < length measures → measure ≡ get_or measures i measure → seen ≡ list_any (λ m. bytes_eq measure.column m.column) (take i measures)
    → place ≡ length (first_appearances (columns (take i measures))) → place + cond (not seen) 1 0 ≡ length (first_appearances (columns (take (i + 1) measures)))
counted_next measures i measure place seen within is told counted =
    let any : seen ≡ list_any (bytes_eq measure.column) (columns (take i measures)) = told ∙ sym (list_any-map (λ m. m.column) (bytes_eq measure.column) (take i measures)) in
    rw (counted, any)
    (sym (count_push (columns (take i measures)) measure.column) ∙ ap (λ (texts : List (List ℕ)). length (first_appearances texts)) (sym (columns_next measures i measure within is)))

-- a column that is not there so far and is not the next is not there then
pub unseen_next : (measures : List Measure) (i : ℕ) (measure : Measure) (column : List ℕ) → i < length measures → measure ≡ get_or measures i measure → bytes_eq column measure.column ≡ false
    → list_any (bytes_eq column) (columns (take i measures)) ≡ false → list_any (bytes_eq column) (columns (take (i + 1) measures)) ≡ false
unseen_next measures i measure column within is other unseen =
    rw (columns_next measures i measure within is, list_any-append (bytes_eq column) (columns (take i measures)) (measure.column ∷ []), unseen, other) refl

-- a header's measure in its cube, and the place of its fact column
pub record HasMeasure (catalog : Catalog) (header : Header) : Type 0 where
  pub c : Cube
  pub measure : Measure
  pub place : ℕ
  pub known : slice_get catalog.cubes header.cube ≡ Some c
  pub has : slice_get c.measures header.measure ≡ Some measure
  pub found : position (bytes_eq measure.column) (fact_columns c) ≡ Some place

pub measure_there : (catalog : Catalog) (header : Header) → IsTrue (is_loadable catalog header) → HasMeasure catalog header
measure_there catalog header loadable =
    let parts = and_parts (is_some_and (λ measure. true) (header_measure catalog header)) (is_some_and (λ cube. list_all (λ own. is_column_of catalog cube.dimensions own.0) header.columns) (slice_get catalog.cubes header.cube)) loadable in
    let cube = some_and (λ cube. list_all (λ own. is_column_of catalog cube.dimensions own.0) header.columns) (slice_get catalog.cubes header.cube) parts.1 in
    let c = cube.0 in
    let own = some_and (λ (measure : Measure). true) (header_measure catalog header) parts.0 in
    let has : slice_get c.measures header.measure ≡ Some own.0 = ap (λ (o : Option Cube). option_and_then (λ k. slice_get k.measures header.measure) o) (sym cube.1) ∙ own.1 in
    let at : slice_get (columns c.measures) header.measure ≡ Some own.0.column = rw (slice_get-map (λ (m : Measure). m.column) c.measures header.measure, has) refl in
    let any : list_any (bytes_eq own.0.column) (columns c.measures) ≡ true = any_at (bytes_eq own.0.column) (columns c.measures) header.measure own.0.column at (text_self own.0.column) in
    let place = position_there (bytes_eq own.0.column) (fact_columns c) (any-same (bytes_eq own.0.column) (columns c.measures) ∙ any) in
    record { c = c; measure = own.0; place = place.0; known = cube.1; has = has; found = place.1 }

-- the measure and the cube that look-ups give are those
pub measure_same : (catalog : Catalog) (header : Header) (c : Cube) (measure : Measure) → IsTrue (is_loadable catalog header) → slice_get catalog.cubes header.cube ≡ Some c → measure ≡ get_or c.measures header.measure measure
    → (place : ℕ) × (position (bytes_eq measure.column) (fact_columns c) ≡ Some place) × (fact_place catalog header ≡ Some place)
measure_same catalog header c measure loadable known is =
    let there = measure_there catalog header loadable in
    let cubes : Some there.c ≡ Some c = sym there.known ∙ known in
    let same : there.c ≡ c = cc in
    let within : header.measure < length c.measures = slice_get_within c.measures header.measure there.measure (ap (λ (k : Cube). slice_get k.measures header.measure) (sym same) ∙ there.has) in
    let here : slice_get c.measures header.measure ≡ Some measure = slice_get-get_or c.measures header.measure measure within ∙ ap (λ (m : Measure). Some m) (sym is) in
    let both : Some there.measure ≡ Some measure = sym there.has ∙ ap (λ (k : Cube). slice_get k.measures header.measure) same ∙ here in
    let same' : there.measure ≡ measure = cc in
    let found : position (bytes_eq measure.column) (fact_columns c) ≡ Some there.place =
    ap (λ (k : Cube). position (bytes_eq measure.column) (fact_columns k)) (sym same) ∙ ap (λ (m : Measure). position (bytes_eq m.column) (fact_columns there.c)) (sym same') ∙ there.found in
    let own : header_measure catalog header ≡ Some measure = ap (λ (o : Option Cube). option_and_then (λ k. slice_get k.measures header.measure) o) known ∙ here in
    let all : fact_place catalog header ≡ Some there.place =
    ap (λ (o : Option Measure). option_and_then (λ m. option_and_then (λ k. position (bytes_eq m.column) (fact_columns k)) (slice_get catalog.cubes header.cube)) o) own
    ∙ ap (λ (o : Option Cube). option_and_then (λ k. position (bytes_eq measure.column) (fact_columns k)) o) known
    ∙ found in
    (there.place, found, all)

-- a column that is none of all measures has no place
pub place_none : (measures : List Measure) (i : ℕ) (column : List ℕ) → length measures ≤ i → list_any (bytes_eq column) (columns (take i measures)) ≡ false → None ≡ position (bytes_eq column) (first_appearances (columns measures))
place_none measures i column past unseen =
    let all : take i measures ≡ measures = take-all measures i past in
    sym (number_none (columns measures) column (rw all at unseen))
  where
    take-all : {A : Type 0} (xs : List A) (n : ℕ) → length xs ≤ n → take n xs ≡ xs
    take-all [] zero le = refl
    take-all [] (suc n) le = refl
    take-all (x ∷ xs) zero le = absurd (omega arith)
    take-all (x ∷ xs) (suc n) le = ap (λ (zs : List _). x ∷ zs) (take-all xs n (omega arith))

-- the place of a column's dimension, where its cube and the column are known
pub place_given : (catalog : Catalog) (cube column : ℕ) (c : Cube) (own : Column) (place : ℕ) → slice_get catalog.cubes cube ≡ Some c → slice_get catalog.columns column ≡ Some own → position (λ d. d == own.dimension) c.dimensions ≡ Some place
    → place_of catalog cube column ≡ Some place
place_given catalog cube column c own place known stands found = rw (stands, known) found

-- one place more
pub placed_next : {A : Type 0} (f : A → Option ℕ) (places : List ℕ) (xs : List A) (i : ℕ) (x : A) (place : ℕ) → i < length xs → x ≡ get_or xs i x → f x ≡ Some place → map Some places ≡ map f (take i xs)
    → map Some (places ++ place ∷ []) ≡ map f (take (i + 1) xs)
placed_next {A} f places xs i x place within is at so_far =
    let next = take_more xs i x within ∙ ap (λ (y : A). take i xs ++ y ∷ []) (sym is) in
    map_push Some places place ∙ (λ j. so_far j ++ sym at j ∷ []) ∙ sym (ap (map f) next ∙ map_push f (take i xs) x)
