-- What a catalog's parts say of its columns.
use Rattle.std.proofs.Common.{inl, inr, if◌then◌else◌, ◌≡◌, ◌∙◌, ◌<◌, ◌≤◌, ℕ, zero, suc, true, List, [], ◌∷◌, Option, Some, None, refl, sym, ap, option_map, option_and_then, slice_get, get_or, length, nat_lt, nat_eq, arith, position, bytes_eq}
use Rattle.std.proofs.lemmas.Bool.{and_parts}
use Rattle.std.specs.List.{list_all, zip, cons_option}
use Rattle.std.specs.Option.{option_map_or, IfSome}
use Rattle.catalog_tables.proofs.FieldFacts.{position_within}
use Rattle.std.proofs.lemmas.Option.{slice_get-map, slice_get_within, slice_get_cases, get_or_from_slice_get}
use Rattle.std.proofs.lemmas.Bool.Decides.{nat_tests}
use Rattle.olap_meaning.specs.declared.tables.Record.{Record}
use Rattle.olap_meaning.specs.declared.tables.Column.{Column}
use Rattle.olap_meaning.specs.declared.tables.Hierarchy.{Hierarchy}
use Rattle.olap_meaning.specs.declared.tables.Cube.{Cube}
use Rattle.olap_meaning.specs.declared.tables.Catalog.{Catalog}
use Rattle.olap_meaning.specs.declared.schema.Schema.{Schema}
use Rattle.olap_meaning.specs.Schema.{dimension_with}
use Rattle.olap_meaning.specs.Catalog.{first_appearances, values, leaf_text, leaf_value, value_number, records, field_texts, find_leaf}
use Rattle.olap_meaning.proofs.Loads.{some_and}
use Rattle.olap_meaning.proofs.Lists.{passes_at}
use Rattle.catalog_tables.specs.Tables.{TableOf, have_fields, number_of, column_of}
use Rattle.olap_catalog.specs.Columns.{column_texts, column_leaves}
use Rattle.olap_catalog.specs.Parts.{plain, records_in, is_column}

-- the values of a column are its texts by first appearance
pub values_are : (catalog : Catalog) (column : ℕ) → values catalog column ≡ first_appearances (column_texts catalog column)
values_are catalog column = by (slice_get catalog.columns column)
  where
    by : (o : Option Column) → option_map_or (λ c. first_appearances (field_texts c.field (records catalog c.dimension))) o [] ≡ first_appearances (option_map_or (λ c. field_texts c.field (records catalog c.dimension)) o [])
    by None = refl
    by (Some c) = refl

zip_here : {A B : Type 0} (xs : List A) (ys : List B) (i : ℕ) (y : B) → length ys ≡ length xs → slice_get ys i ≡ Some y → (x : A) × (slice_get (zip xs ys) i ≡ Some (x, y))
zip_here [] [] i y same at = absurd (cc at)
zip_here [] (z ∷ zs) i y same at = absurd (omega arith)
zip_here (x ∷ xs) [] i y same at = absurd (omega arith)
zip_here (x ∷ xs) (z ∷ zs) zero y same at = (x, ap (λ o. option_map (λ v. (x, v)) o) at)
zip_here (x ∷ xs) (z ∷ zs) (suc i) y same at = zip_here xs zs i y (omega arith) at

-- the records of a dimension are its table's
pub records_here : (schema : Schema) (tables : List TableOf) (columns : List Column) (hierarchies : List Hierarchy) (cubes : List Cube) (d : ℕ) (t : TableOf) → length tables ≡ length schema.dimensions → slice_get tables d ≡ Some t
    → records (plain schema tables columns hierarchies cubes) d ≡ t.records
records_here schema tables columns hierarchies cubes d t paired at =
    let own : slice_get (records_in tables) d ≡ Some t.records = slice_get-map (λ (x : TableOf). x.records) tables d ∙ ap (option_map (λ (x : TableOf). x.records)) at in
    let pair = zip_here schema.dimensions (records_in tables) d t.records (same tables ∙ paired) own in
    ap (λ o. option_map_or (λ x. x.records) o []) (slice_get-map dimension_with (zip schema.dimensions (records_in tables)) d ∙ ap (option_map dimension_with) pair.1)
  where
    same : (ts : List TableOf) → length (records_in ts) ≡ length ts
    same [] = refl
    same (x ∷ xs) = let e = same xs in omega arith

pub record ColumnKnown (tables : List TableOf) (columns : List Column) (column : ℕ) : Type 0 where
  pub own : Column
  pub at : slice_get columns column ≡ Some own
  pub table : TableOf
  pub there : slice_get tables own.dimension ≡ Some table
  pub field : nat_lt own.field table.levels ≡ true
  pub even : have_fields table.levels table.records ≡ true

-- a column of a catalog is a field of a table whose records have it
pub column_known : (tables : List TableOf) (columns : List Column) (column : ℕ) → list_all (λ t. have_fields t.levels t.records) tables ≡ true → list_all (is_column tables) columns ≡ true → column < length columns
    → ColumnKnown tables columns column
column_known tables columns column even all within =
    elim ((slice_get_cases columns column).1) [
      | inl here ↦
          let c = here.0 in
          let found : (t : TableOf) × (slice_get tables c.dimension ≡ Some t) × (nat_lt c.field t.levels ≡ true) = some_and (λ (t : TableOf). nat_lt c.field t.levels) (slice_get tables c.dimension) (passes_at (is_column tables) columns column c all here.2) in
          record { own = c; at = here.2; table = found.0; there = found.1; field = found.2; even = passes_at (λ (t : TableOf). have_fields t.levels t.records) tables c.dimension found.0 even found.1 }
      | inr past ↦ absurd (omega (arith, past.0))
    ]

has_field : (levels field : ℕ) (r : Record) (rs : List Record) → nat_lt field levels ≡ true → have_fields levels (r ∷ rs) ≡ true → (t : List ℕ) × (slice_get r.fields field ≡ Some t) × (have_fields levels rs ≡ true)
has_field levels field r rs less even =
    let parts : (nat_eq (length r.fields) levels ≡ true) × (have_fields levels rs ≡ true) = and_parts (nat_eq (length r.fields) levels) (have_fields levels rs) even in
    elim ((slice_get_cases r.fields field).1) [
      | inl here ↦ (here.0, here.2, parts.1)
      | inr past ↦ absurd (contradiction (length r.fields) parts.0 past.0)
    ]
  where
    contradiction : (n : ℕ) → nat_eq n levels ≡ true → n ≤ field → ⊥
    contradiction n same most = grind (arith, nat_tests)

-- where each record has a field, the texts stand by their records
pub text_here : (levels field : ℕ) (rs : List Record) (i : ℕ) → nat_lt field levels ≡ true → have_fields levels rs ≡ true → slice_get (field_texts field rs) i ≡ option_and_then (λ r. slice_get r.fields field) (slice_get rs i)
text_here levels field [] i less even = refl
text_here levels field (r ∷ rs) zero less even =
    let has = has_field levels field r rs less even in
    ap (λ o. slice_get (cons_option o (field_texts field rs)) 0) has.1 ∙ sym has.1
text_here levels field (r ∷ rs) (suc i) less even =
    let has = has_field levels field r rs less even in
    ap (λ o. slice_get (cons_option o (field_texts field rs)) (suc i)) has.1 ∙ text_here levels field rs i less has.2

pub texts_length : (levels field : ℕ) (rs : List Record) → nat_lt field levels ≡ true → have_fields levels rs ≡ true → length (field_texts field rs) ≡ length rs
texts_length levels field [] less even = refl
texts_length levels field (r ∷ rs) less even =
    let has = has_field levels field r rs less even in
    let rest = texts_length levels field rs less has.2 in
    ap (λ o. length (cons_option o (field_texts field rs))) has.1 ∙ omega arith

-- the texts of a column are those of its table's field
pub texts_are : (schema : Schema) (tables : List TableOf) (columns : List Column) (hierarchies : List Hierarchy) (cubes : List Cube) (column : ℕ) (known : ColumnKnown tables columns column) → length tables ≡ length schema.dimensions
    → column_texts (plain schema tables columns hierarchies cubes) column ≡ field_texts known.own.field known.table.records
texts_are schema tables columns hierarchies cubes column known paired =
    ap (λ o. option_map_or (λ c. field_texts c.field (records (plain schema tables columns hierarchies cubes) c.dimension)) o []) known.at
    ∙ ap (field_texts known.own.field) (records_here schema tables columns hierarchies cubes known.own.dimension known.table paired known.there)

-- a leaf's value is the number of its text
pub leaf_is : (schema : Schema) (tables : List TableOf) (columns : List Column) (hierarchies : List Hierarchy) (cubes : List Cube) (column leaf : ℕ) (known : ColumnKnown tables columns column) → length tables ≡ length schema.dimensions
    → option_and_then (number_of (column_texts (plain schema tables columns hierarchies cubes) column)) (slice_get (column_texts (plain schema tables columns hierarchies cubes) column) leaf)
    ≡ leaf_value (plain schema tables columns hierarchies cubes) column leaf
leaf_is schema tables columns hierarchies cubes column leaf known paired =
    let catalog = plain schema tables columns hierarchies cubes in
    let held = records_here schema tables columns hierarchies cubes known.own.dimension known.table paired known.there in
    let text : slice_get (column_texts catalog column) leaf ≡ leaf_text catalog column leaf =
    ap (λ texts. slice_get texts leaf) (texts_are schema tables columns hierarchies cubes column known paired)
    ∙ text_here known.table.levels known.own.field known.table.records leaf known.field known.even
    ∙ ap (λ rs. option_and_then (λ (r : Record). slice_get r.fields known.own.field) (slice_get rs leaf)) (sym held)
    ∙ sym (ap (option_and_then (λ (c : Column). option_and_then (λ (r : Record). slice_get r.fields c.field) (slice_get (records catalog c.dimension) leaf))) known.at) in
    ap (option_and_then (number_of (column_texts catalog column))) text
    ∙ ap (λ vs. option_and_then (λ t. position (bytes_eq t) vs) (leaf_text catalog column leaf)) (sym (values_are catalog column))

-- a column has a text for each leaf
pub leaves_are : (schema : Schema) (tables : List TableOf) (columns : List Column) (hierarchies : List Hierarchy) (cubes : List Cube) (column : ℕ) (known : ColumnKnown tables columns column) → length tables ≡ length schema.dimensions
    → length (column_texts (plain schema tables columns hierarchies cubes) column) ≡ column_leaves (plain schema tables columns hierarchies cubes) column
leaves_are schema tables columns hierarchies cubes column known paired =
    let catalog = plain schema tables columns hierarchies cubes in
    ap length (texts_are schema tables columns hierarchies cubes column known paired)
    ∙ texts_length known.table.levels known.own.field known.table.records known.field known.even
    ∙ ap length (sym (records_here schema tables columns hierarchies cubes known.own.dimension known.table paired known.there))
    ∙ sym (ap (λ o. option_map_or (λ (c : Column). length (records catalog c.dimension)) o 0) known.at)

own_is : (tables : List TableOf) (columns : List Column) (column : ℕ) (at : Column) (known : ColumnKnown tables columns column) → slice_get columns column ≡ Some at → known.own ≡ at
own_is tables columns column at known found = let e : Some known.own ≡ Some at = sym known.at ∙ found in cc e

-- the dimension of a column has a table
pub table_there : (tables shown : List TableOf) (columns : List Column) (column : ℕ) (at : Column) (known : ColumnKnown tables columns column) → slice_get columns column ≡ Some at → shown ≡ tables → at.dimension < length shown
table_there tables shown columns column at known found same =
    let within = slice_get_within tables known.own.dimension known.table known.there in
    let own : known.own.dimension ≡ at.dimension = ap (λ (c : Column). c.dimension) (own_is tables columns column at known found) in
    let e = ap length same in
    omega arith

-- and there the column's field
pub field_there : (tables shown : List TableOf) (columns : List Column) (column : ℕ) (at : Column) (t : TableOf) (known : ColumnKnown tables columns column) → slice_get columns column ≡ Some at → shown ≡ tables
    → t ≡ get_or shown at.dimension t → column_of t.levels t.records at.field ≡ Some (field_texts known.own.field known.table.records)
field_there tables shown columns column at t known found same is =
    let own = own_is tables columns column at known found in
    let table : t ≡ known.table =
    is ∙ ap (λ ts. get_or ts at.dimension t) same ∙ ap (λ (c : Column). get_or tables c.dimension t) (sym own) ∙ get_or_from_slice_get tables known.own.dimension known.table t known.there in
    ap (λ (x : TableOf). column_of x.levels x.records at.field) table ∙ ap (λ (c : Column). column_of known.table.levels known.table.records c.field) (sym own)
    ∙ ap (λ b. if b then Some (field_texts known.own.field known.table.records) else None) known.field

zip_none : {A B : Type 0} (xs : List A) (ys : List B) (i : ℕ) → slice_get ys i ≡ None → slice_get (zip xs ys) i ≡ None
zip_none [] ys i none = refl
zip_none (x ∷ xs) [] i none = refl
zip_none (x ∷ xs) (y ∷ ys) zero none = absurd (cc none)
zip_none (x ∷ xs) (y ∷ ys) (suc i) none = zip_none xs ys i none

-- a dimension without a table has no records
pub records_none : (schema : Schema) (tables : List TableOf) (columns : List Column) (hierarchies : List Hierarchy) (cubes : List Cube) (d : ℕ) → slice_get tables d ≡ None → records (plain schema tables columns hierarchies cubes) d ≡ []
records_none schema tables columns hierarchies cubes d none =
    let own : slice_get (records_in tables) d ≡ None = slice_get-map (λ (x : TableOf). x.records) tables d ∙ ap (option_map (λ (x : TableOf). x.records)) none in
    ap (λ o. option_map_or (λ x. x.records) o []) (slice_get-map dimension_with (zip schema.dimensions (records_in tables)) d ∙ ap (option_map dimension_with) (zip_none schema.dimensions (records_in tables) d own))

-- a leaf that was found is one of its dimension
pub leaf_known : (catalog : Catalog) (dimension : ℕ) (key : List ℕ) (found : Option ℕ) → found ≡ find_leaf catalog dimension key → IfSome found (λ leaf. leaf < length (records catalog dimension))
leaf_known catalog dimension key None is = tt
leaf_known catalog dimension key (Some leaf) is = position_within (λ (r : Record). bytes_eq key r.key) (records catalog dimension) leaf (sym is)

-- the value of a leaf is one of the column's values
pub value_within : (catalog : Catalog) (column leaf v : ℕ) → Some v ≡ leaf_value catalog column leaf → v < length (values catalog column)
value_within catalog column leaf v found = by (leaf_text catalog column leaf) (sym found)
  where
    by : (o : Option (List ℕ)) → option_and_then (value_number catalog column) o ≡ Some v → v < length (values catalog column)
    by None e = absurd (cc e)
    by (Some text) e = position_within (bytes_eq text) (values catalog column) v e
