-- What the rows of a cube's batches have on a header's columns.
use Rattle.std.proofs.Common.{◌≡◌, ◌∙◌, ◌<◌, ℕ, zero, suc, true, List, [], ◌∷◌, Option, Some, length, map, get_or, refl, sym, ap, arith}
use Rattle.std.specs.Prelude.{◌&&◌, ◌==◌, IsTrue, option_and_then, position, slice_get}
use Rattle.std.specs.List.{list_all, zip}
use Rattle.std.proofs.lemmas.Bool.{and_parts, eqb-true, ltb-true}
use Rattle.std.proofs.lemmas.List.Quantifiers.{position-Some}
use Rattle.std.proofs.lemmas.Option.{slice_get-get_or}
use Rattle.olap_meaning.specs.declared.cells.Allowed.{Allowed}
use Rattle.olap_meaning.specs.declared.cells.Header.{Header}
use Rattle.olap_meaning.specs.declared.tables.Catalog.{Catalog}
use Rattle.olap_meaning.specs.declared.tables.Column.{Column}
use Rattle.olap_meaning.specs.declared.tables.Cube.{Cube}
use Rattle.olap_meaning.specs.declared.tables.Row.{Row}
use Rattle.olap_meaning.specs.Catalog.{fact_columns, leaf_value, records}
use Rattle.olap_meaning.specs.Covering.{among}
use Rattle.olap_meaning.specs.History.{is_some_and}
use Rattle.olap_meaning.specs.Legal.{is_column_of, is_leaf, is_row}
use Rattle.olap_meaning.specs.Worth.{leaf_in, row_value}
use Rattle.olap_meaning.proofs.Lists.{passes_at, position_there}
use Rattle.olap_meaning.proofs.Loads.{some_and}
use Rattle.fact_versions.specs.FactRows.{FactRows}
use Rattle.segment_header.proofs.RiseFacts.{all_at}
use Rattle.catalog_tables.specs.Tables.{number_of}
use Rattle.olap_catalog.specs.Columns.{column_leaves, column_texts}
use Rattle.fact_reader.specs.Reading.{IsReader, place_of, row_at}
use Rattle.fact_reader.specs.BodyRows.{header_measure, is_batch, is_loadable}

zip_at : {A B : Type 0} (xs : List A) (ys : List B) (i : ℕ) (x : A) (y : B) → slice_get xs i ≡ Some x → slice_get ys i ≡ Some y → slice_get (zip xs ys) i ≡ Some (x, y)
zip_at [] ys i x y e f = absurd (cc)
zip_at (x' ∷ xs) [] i x y e f = absurd (cc)
zip_at (x' ∷ xs) (y' ∷ ys) zero x y e f = let a : x' ≡ x = cc in let b : y' ≡ y = cc in rw (a, b) refl
zip_at (x' ∷ xs) (y' ∷ ys) (suc i) x y e f = zip_at xs ys i x y e f

-- a column of a header that can be loaded, and the place of its dimension in the cube
pub record IsThere (catalog : Catalog) (cube column : ℕ) : Type 0 where
  pub c : Cube
  pub own : Column
  pub place : ℕ
  pub known : slice_get catalog.cubes cube ≡ Some c
  pub stands : slice_get catalog.columns column ≡ Some own
  pub found : position (λ d. d == own.dimension) c.dimensions ≡ Some place

pub column_there : (catalog : Catalog) (header : Header) (i : ℕ) (column : ℕ × Allowed) → IsTrue (is_loadable catalog header) → i < length header.columns → column ≡ get_or header.columns i column → IsThere catalog header.cube column.0
column_there catalog header i column loadable within is =
    let parts = and_parts (is_some_and (λ measure. true) (header_measure catalog header)) (is_some_and (λ cube. list_all (λ own. is_column_of catalog cube.dimensions own.0) header.columns) (slice_get catalog.cubes header.cube)) loadable in
    let cube = some_and (λ cube. list_all (λ own. is_column_of catalog cube.dimensions own.0) header.columns) (slice_get catalog.cubes header.cube) parts.1 in
    let here : is_column_of catalog cube.0.dimensions column.0 ≡ true = rw is (all_at (λ own. is_column_of catalog cube.0.dimensions own.0) header.columns i column cube.2 within) in
    let own = some_and (λ c. among cube.0.dimensions c.dimension) (slice_get catalog.columns column.0) here in
    let place = position_there (λ d. d == own.0.dimension) cube.0.dimensions own.2 in
    record { c = cube.0; own = own.0; place = place.0; known = cube.1; stands = own.1; found = place.1 }

-- what a batch of a cube is
record FitsCube (catalog : Catalog) (cube : ℕ) (batch : FactRows) (c : Cube) : Type 0 where
  dimensions : batch.dimensions ≡ length c.dimensions
  columns : batch.columns ≡ length (fact_columns c)
  rows : list_all (is_row catalog cube) batch.rows ≡ true

fits_cube : (catalog : Catalog) (cube : ℕ) (batch : FactRows) (c : Cube) → slice_get catalog.cubes cube ≡ Some c → IsTrue (is_batch catalog cube batch) → FitsCube catalog cube batch c
fits_cube catalog cube batch c known fit =
    let parts = and_parts (is_some_and (λ c. (batch.dimensions == length c.dimensions) && (batch.columns == length (fact_columns c))) (slice_get catalog.cubes cube)) (list_all (is_row catalog cube) batch.rows) fit in
    let counts : ((batch.dimensions == length c.dimensions) && (batch.columns == length (fact_columns c))) ≡ true = rw known at parts.0 in
    let each = and_parts (batch.dimensions == length c.dimensions) (batch.columns == length (fact_columns c)) counts in
    record { dimensions = eqb-true _ _ each.0; columns = eqb-true _ _ each.1; rows = parts.1 }

-- what a row of a cube is
record IsRowOf (catalog : Catalog) (c : Cube) (row : Row) : Type 0 where
  leaves : length row.leaves ≡ length c.dimensions
  leafs : list_all (λ pair. is_leaf catalog pair.0 pair.1) (zip c.dimensions row.leaves) ≡ true
  values : length row.values ≡ length (fact_columns c)

row_of : (catalog : Catalog) (cube : ℕ) (c : Cube) (row : Row) → slice_get catalog.cubes cube ≡ Some c → is_row catalog cube row ≡ true → IsRowOf catalog c row
row_of catalog cube c row known is =
    let here : (((length row.leaves == length c.dimensions) && list_all (λ pair. is_leaf catalog pair.0 pair.1) (zip c.dimensions row.leaves)) && (length row.values == length (fact_columns c))) ≡ true = rw known at is in
    let parts = and_parts ((length row.leaves == length c.dimensions) && list_all (λ pair. is_leaf catalog pair.0 pair.1) (zip c.dimensions row.leaves)) (length row.values == length (fact_columns c)) here in
    let more = and_parts (length row.leaves == length c.dimensions) (list_all (λ pair. is_leaf catalog pair.0 pair.1) (zip c.dimensions row.leaves)) parts.0 in
    record { leaves = eqb-true _ _ more.0; leafs = more.1; values = eqb-true _ _ parts.1 }

-- the leaf of a batch's row at the place of a column
pub record IsPlaced (catalog : Catalog) (cube : ℕ) (batch : FactRows) (i column place : ℕ) : Type 0 where
  pub own : Column
  pub stands : slice_get catalog.columns column ≡ Some own
  pub within : place < batch.dimensions
  pub leaf : ℕ
  pub here : slice_get (row_at batch i).leaves place ≡ Some leaf
  pub known : leaf < length (records catalog own.dimension)
  pub value : row_value catalog cube (row_at batch i) column ≡ leaf_value catalog column leaf

pub placed : (catalog : Catalog) (cube : ℕ) (batch : FactRows) (i column place : ℕ) (there : IsThere catalog cube column) → place_of catalog cube column ≡ Some place → IsTrue (is_batch catalog cube batch) → i < length batch.rows
    → IsPlaced catalog cube batch i column place
placed catalog cube batch i column place there at fit row =
    let c = there.c in
    let own = there.own in
    let found : position (λ d. d == own.dimension) c.dimensions ≡ Some place = rw (there.stands, there.known) at at in
    let fits = fits_cube catalog cube batch c there.known fit in
    let is = row_of catalog cube c (row_at batch i) there.known (all_at (is_row catalog cube) batch.rows i (record { leaves = []; values = [] }) fits.rows row) in
    let first = position-Some (λ d. d == own.dimension) c.dimensions place 0 found in
    let dimension : slice_get c.dimensions place ≡ Some own.dimension = slice_get-get_or c.dimensions place 0 first.0 ∙ ap (λ (d : ℕ). Some d) (eqb-true _ _ first.1) in
    let leaf : ℕ = get_or (row_at batch i).leaves place 0 in
    let here : slice_get (row_at batch i).leaves place ≡ Some leaf = slice_get-get_or (row_at batch i).leaves place 0 (omega (arith, is.leaves, first.0)) in
    let passes : is_leaf catalog own.dimension leaf ≡ true = passes_at (λ pair. is_leaf catalog pair.0 pair.1) (zip c.dimensions (row_at batch i).leaves) place (own.dimension, leaf) is.leafs (zip_at c.dimensions (row_at batch i).leaves place own.dimension leaf dimension here) in
    record {
      own = own;
      stands = there.stands;
      within = omega (arith, fits.dimensions, first.0);
      leaf = leaf;
      here = here;
      known = ltb-true _ _ passes;
      value =
          ap (λ (o : Option Column). option_and_then (λ own. option_and_then (leaf_value catalog column) (leaf_in catalog cube (row_at batch i) own.dimension)) o) there.stands
          ∙ ap (λ (o : Option Cube). option_and_then (leaf_value catalog column) (option_and_then (λ c. option_and_then (slice_get (row_at batch i).leaves) (position (λ d. d == own.dimension) c.dimensions)) o)) there.known
          ∙ ap (λ (o : Option ℕ). option_and_then (leaf_value catalog column) (option_and_then (slice_get (row_at batch i).leaves) o)) found
          ∙ ap (λ (o : Option ℕ). option_and_then (leaf_value catalog column) o) here;
    }

-- the column and the cube that a look-up gives are those
pub place_there : (catalog : Catalog) (cube column : ℕ) (c : Cube) (own : Column) → IsThere catalog cube column → slice_get catalog.cubes cube ≡ Some c → slice_get catalog.columns column ≡ Some own
    → (place : ℕ) × (position (λ d. d == own.dimension) c.dimensions ≡ Some place)
place_there catalog cube column c own there known stands =
    let cubes : Some there.c ≡ Some c = sym there.known ∙ known in
    let columns : Some there.own ≡ Some own = sym there.stands ∙ stands in
    let same : there.c ≡ c = cc in
    let same' : there.own ≡ own = cc in
    (there.place, ap (λ (k : Cube). position (λ d. d == own.dimension) k.dimensions) (sym same) ∙ ap (λ (o : Column). position (λ d. d == o.dimension) there.c.dimensions) (sym same') ∙ there.found)

-- the place at a place of a list of places
pub mapped_at : {A : Type 0} (f : A → Option ℕ) (places : List ℕ) (xs : List A) (k : ℕ) (x : A) (place : ℕ) → map Some places ≡ map f xs → k < length xs → x ≡ get_or xs k x → place ≡ get_or places k place → f x ≡ Some place
mapped_at f places [] k x place same within x_is is = absurd (omega arith)
mapped_at f [] (y ∷ ys) k x place same within x_is is = absurd (cc)
mapped_at f (p ∷ ps) (y ∷ ys) zero x place same within x_is is = let here : Some p ≡ f y = cc in rw (x_is, is) (sym here)
mapped_at f (p ∷ ps) (y ∷ ys) (suc k) x place same within x_is is = let rest : map Some ps ≡ map f ys = cc in mapped_at f ps ys k x place rest (omega arith) x_is is

-- the leaf that a batch gives is that of its row
pub leaf_is : (batch : FactRows) (i place leaf leaf' : ℕ) → i < length batch.rows → option_and_then (λ (row : Row). slice_get row.leaves place) (slice_get batch.rows i) ≡ Some leaf → slice_get (row_at batch i).leaves place ≡ Some leaf' → leaf ≡ leaf'
leaf_is batch i place leaf leaf' row given here =
    let at : slice_get batch.rows i ≡ Some (row_at batch i) = slice_get-get_or batch.rows i (record { leaves = []; values = [] }) row in
    let both : ◌≡◌ {A = Option ℕ} (Some leaf) (Some leaf') = sym given ∙ ap (λ (o : Option Row). option_and_then (λ row. slice_get row.leaves place) o) at ∙ here in
    cc

-- the leaf that a reader looks at
pub reader_placed : (catalog : Catalog) (header : Header) (places : List ℕ) (texts : List (List (List ℕ))) (number : ℕ) (batch : FactRows) (i k : ℕ) (column : ℕ × Allowed) (place : ℕ) → IsReader catalog header places texts number → IsTrue (is_batch catalog header.cube batch) → i < length batch.rows
    → k < length header.columns → column ≡ get_or header.columns k column → place ≡ get_or places k place → IsPlaced catalog header.cube batch i column.0 place
reader_placed catalog header places texts number batch i k column place is fit row within column_is place_is =
    placed catalog header.cube batch i column.0 place (column_there catalog header k column is.loadable within column_is) (mapped_at (λ own. place_of catalog header.cube own.0) places header.columns k column place is.placed within column_is place_is) fit row

-- what stands at a place of one list is told by what stands there in another
pub told_at : {A B C : Type 0} (f : A → C) (g : B → C) (xs : List A) (ys : List B) (k : ℕ) (x : A) (y : B) → map f xs ≡ map g ys → k < length ys → x ≡ get_or xs k x → y ≡ get_or ys k y → f x ≡ g y
told_at f g xs [] k x y same within x_is y_is = absurd (omega arith)
told_at f g [] (b ∷ ys) k x y same within x_is y_is = absurd (cc)
told_at f g (a ∷ xs) (b ∷ ys) zero x y same within x_is y_is = let here : f a ≡ g b = cc in rw (x_is, y_is) here
told_at f g (a ∷ xs) (b ∷ ys) (suc k) x y same within x_is y_is = let rest : map f xs ≡ map g ys = cc in told_at f g xs ys k x y rest (omega arith) x_is y_is

-- what a catalog tells of the texts of its columns
abbrev pub TextsAreValued : Catalog → Type 0
TextsAreValued catalog =
    (column leaf : ℕ) → leaf < column_leaves catalog column
    → (leaf < length (column_texts catalog column)) × (option_and_then (number_of (column_texts catalog column)) (slice_get (column_texts catalog column) leaf) ≡ leaf_value catalog column leaf)

-- so the value of a row in a column is told by the column's texts
module _ (catalog : Catalog) (cube : ℕ) (batch : FactRows) (i column place : ℕ) (p : IsPlaced catalog cube batch i column place) (texts : List (List ℕ)) (leaf : ℕ) (told : texts ≡ column_texts catalog column) (same : leaf ≡ p.leaf) (valued : TextsAreValued catalog) where
  leaf_inside : leaf < column_leaves catalog column
  leaf_inside = rw (p.stands, same) p.known

  pub text_inside : leaf < length texts
  text_inside = omega (arith, (valued column leaf leaf_inside).0, ap (λ (ts : List (List ℕ)). length ts) told)

  pub value_told : (value : ℕ) → Some value ≡ option_and_then (number_of texts) (slice_get texts leaf) → row_value catalog cube (row_at batch i) column ≡ Some value
  value_told value is =
      p.value
      ∙ ap (leaf_value catalog column) (sym same)
      ∙ sym (is ∙ ap (λ (ts : List (List ℕ)). option_and_then (number_of ts) (slice_get ts leaf)) told ∙ (valued column leaf leaf_inside).1)
