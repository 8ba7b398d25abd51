-- What the rows of a batch say.
use Rattle.std.proofs.Common.{◌≡◌, ◌<◌, ◌+◌, ◌∙◌, ◌||◌, ◌&&◌, ℕ, suc, Bool, true, false, List, [], ◌∷◌, Option, Some, None, map, length, refl, ap, arith, is_some, nat_lt, cond, drop, get_or, inl, inr, ◌⊎◌, bytes_eq}
use Rattle.std.proofs.lemmas.Bool.{eq-eqb}
use Rattle.std.specs.List.{cons_option, list_all, zip}
use Rattle.std.proofs.lemmas.List.{length-map}
use Rattle.catalog_tables.proofs.FieldFacts.{position_within}
use Rattle.olap_meaning.specs.declared.schema.SchemaUse.{SchemaUse}
use Rattle.olap_meaning.specs.declared.tables.Catalog.{Catalog}
use Rattle.olap_meaning.specs.Catalog.{fact_columns, find_leaf, records}
use Rattle.olap_meaning.specs.Legal.{is_leaf, is_row}
use Rattle.olap_meaning.specs.Records.{field_in, is_null, number}
use Rattle.olap_meaning.proofs.Lists.{drop_step, item_there, some_or_none}
use Rattle.fact_rows.specs.BatchFiles.{HasDimensions, dimensions_of, foreign_keys, key_fault, leaves_in, number_fault, numbers_in, row_of, uses_of}
use Rattle.fact_rows.specs.Bound.{key_pair}
use Rattle.fact_rows.specs.declared.columns.KeyColumn.{KeyColumn}
use Rattle.fact_rows.specs.declared.columns.NumberColumn.{NumberColumn}
use Rattle.fact_rows.specs.declared.fault.BatchFault.{BatchFault}
use Rattle.fact_rows.specs.declared.fault.BatchFault.TheVariants.{NotNumber, UnknownKey, OutOfMemory as NoMemory}

-- as many pairs as there are of each
pub zipped_length : {A B : Type 0} (xs : List A) (ys : List B) → length xs ≡ length ys → length (zip xs ys) ≡ length ys
zipped_length [] [] same = refl
zipped_length [] (y ∷ ys) same = absurd (omega arith)
zipped_length (x ∷ xs) [] same = absurd (omega arith)
zipped_length (x ∷ xs) (y ∷ ys) same = ap (λ k. suc k) (zipped_length xs ys (omega arith))

-- where no foreign key has a fault, each leaf is one of its dimension
pub leaves_fit : (catalog : Catalog) (header : List (List ℕ)) (n : ℕ) (row : List (List ℕ)) (names : List (List ℕ)) (dimensions : List ℕ) → length names ≡ length dimensions → key_fault catalog header n row (zip names dimensions) ≡ None
    → (length (leaves_in catalog header row (zip names dimensions)) ≡ length dimensions) × (list_all (λ pair. is_leaf catalog pair.0 pair.1) (zip dimensions (leaves_in catalog header row (zip names dimensions))) ≡ true)
leaves_fit catalog header n row [] [] same sound = (refl, refl)
leaves_fit catalog header n row [] (d ∷ ds) same sound = absurd (omega arith)
leaves_fit catalog header n row (name ∷ names) [] same sound = absurd (omega arith)
leaves_fit catalog header n row (name ∷ names) (d ∷ ds) same sound = elim (some_or_none (find_leaf catalog d (field_in header name row))) [
  | inl none ↦ absurd (let no_fault = rw none at sound in cc)
  | inr found ↦
      let (leaf, is) = found in
      let rest = leaves_fit catalog header n row names ds (omega arith) (rw is at sound) in
      let within : leaf < length (records catalog d) = position_within (λ other. bytes_eq (field_in header name row) other.key) (records catalog d) leaf is in
      let there : nat_lt leaf (length (records catalog d)) ≡ true = grind arith in
      (rw is (ap (λ k. suc k) rest.0), rw (is, there) rest.1)
]

all_three : (p q r : Bool) → p ≡ true → q ≡ true → r ≡ true → (p && q && r) ≡ true
all_three p q r h k l = rw (h, k, l) refl

-- the fact row of a record whose foreign keys have no fault is one of the cube
pub row_fits : (catalog : Catalog) (cube : ℕ) (header : List (List ℕ)) (n : ℕ) (row : List (List ℕ)) → cube < length catalog.cubes → HasDimensions catalog cube
    → key_fault catalog header n row (foreign_keys catalog cube) ≡ None → is_row catalog cube (row_of catalog cube header row) ≡ true
row_fits catalog cube header n row known paired sound =
    let (c, is) = item_there catalog.cubes cube known in
    let named : length (map (λ (used : SchemaUse). used.foreign_key) (uses_of catalog cube)) ≡ length (dimensions_of catalog cube) = length-map (uses_of catalog cube) (λ (used : SchemaUse). used.foreign_key) ∙ paired in
    let fit = leaves_fit catalog header n row (map (λ (used : SchemaUse). used.foreign_key) (uses_of catalog cube)) (dimensions_of catalog cube) named sound in
    let wide = length-map (fact_columns c) (λ (column : List ℕ). number (field_in header column row)) in
    let fit_here = rw is at fit in
    rw is (all_three _ _ _ (eq-eqb _ _ fit_here.0) fit_here.1 (eq-eqb _ _ wide))

-- what a foreign key's field means from a place on
pub keys_from : (catalog : Catalog) (header : List (List ℕ)) (n : ℕ) (row : List (List ℕ)) (keys : List KeyColumn) (i : ℕ) (key : KeyColumn) (o : Option ℕ) → i < length keys → key ≡ get_or keys i key
    → find_leaf catalog key.dimension (field_in header key.name row) ≡ o
    → (key_fault catalog header n row (map key_pair (drop i keys)) ≡ cond (is_some o) (key_fault catalog header n row (map key_pair (drop (i + 1) keys))) (Some (UnknownKey n key.name)))
    × (leaves_in catalog header row (map key_pair (drop i keys)) ≡ cons_option o (leaves_in catalog header row (map key_pair (drop (i + 1) keys))))
keys_from catalog header n row keys i key o below is means = rw (drop_step keys i key below is, means) (refl, refl)

-- what a fact column's field says from a place on
pub numbers_from : (header : List (List ℕ)) (n : ℕ) (row : List (List ℕ)) (columns : List NumberColumn) (i : ℕ) (column : NumberColumn) → i < length columns → column ≡ get_or columns i column
    → (number_fault header n row (map (λ c. c.name) (drop i columns)) ≡ cond (is_null (field_in header column.name row) || is_some (number (field_in header column.name row))) (number_fault header n row (map (λ c. c.name) (drop (i + 1) columns))) (Some (NotNumber n column.name)))
    × (numbers_in header row (map (λ c. c.name) (drop i columns)) ≡ number (field_in header column.name row) ∷ numbers_in header row (map (λ c. c.name) (drop (i + 1) columns)))
numbers_from header n row columns i column below is = rw (drop_step columns i column below is) (refl, refl)

-- a value that is there is that of a field that is empty or a number
pub value_there : {A : Type 0} (b : Bool) (o : Option A) (v : Option (Option A)) (value : Option A) → v ≡ cond b (Some o) None → v ≡ Some value → (b ≡ true) × (value ≡ o)
value_there true o v value is some = (refl, cc)
value_there false o v value is some = absurd (cc)

pub no_value : {A : Type 0} (b : Bool) (o : Option A) (v : Option (Option A)) → v ≡ cond b (Some o) None → v ≡ None → b ≡ false
no_value true o v is none = absurd (cc)
no_value false o v is none = refl

-- the answer to a fault tells it, where there was memory for it
pub told_or_not : (answer fault : BatchFault) (whole : Option BatchFault) → whole ≡ Some fault → (answer ≡ fault) ⊎ (answer ≡ NoMemory) → (answer ≡ NoMemory) ⊎ (whole ≡ Some answer)
told_or_not answer fault whole is (inl told) = inr (rw (is, told) refl)
told_or_not answer fault whole is (inr none) = inl none

-- a record whose foreign keys have no fault has a leaf for each dimension
pub each_leaf : (catalog : Catalog) (cube : ℕ) (header : List (List ℕ)) (n : ℕ) (row : List (List ℕ)) → HasDimensions catalog cube → key_fault catalog header n row (foreign_keys catalog cube) ≡ None
    → length (leaves_in catalog header row (foreign_keys catalog cube)) ≡ length (dimensions_of catalog cube)
each_leaf catalog cube header n row paired sound =
    let named : length (map (λ (used : SchemaUse). used.foreign_key) (uses_of catalog cube)) ≡ length (dimensions_of catalog cube) = length-map (uses_of catalog cube) (λ (used : SchemaUse). used.foreign_key) ∙ paired in
    (leaves_fit catalog header n row (map (λ (used : SchemaUse). used.foreign_key) (uses_of catalog cube)) (dimensions_of catalog cube) named sound).0
