-- That each leaf has a value in each column of its dimension.
use Rattle.std.proofs.Common.{◌≡◌, ◌∙◌, ◌<◌, ℕ, zero, suc, Bool, true, List, [], ◌∷◌, Option, Some, None, refl, sym, ap, option_and_then, slice_get, length, nat_lt, arith, bytes_eq, inl, inr, if◌then◌else◌}
use Rattle.std.specs.List.{list_all, list_any, position_or_len}
use Rattle.std.specs.Option.{option_map_or}
use Rattle.std.proofs.lemmas.Bool.{cases_Bool, lt-ltb}
use Rattle.std.proofs.lemmas.Option.{slice_get-get_or, slice_get_within}
use Rattle.std.proofs.lemmas.Slice.Eq.{bytes_eq-Decides}
use Rattle.olap_meaning.specs.declared.tables.Catalog.{Catalog}
use Rattle.olap_meaning.specs.declared.tables.Column.{Column}
use Rattle.olap_meaning.specs.declared.tables.Cube.{Cube}
use Rattle.olap_meaning.specs.declared.tables.Hierarchy.{Hierarchy}
use Rattle.olap_meaning.specs.declared.schema.Schema.{Schema}
use Rattle.olap_meaning.specs.Catalog.{first_appearances, leaf_value, records, values}
use Rattle.olap_meaning.specs.History.{is_some_and}
use Rattle.olap_meaning.proofs.Appearances.{any-same}
use Rattle.olap_meaning.proofs.Lists.{placed}
use Rattle.catalog_tables.specs.Tables.{TableOf, have_fields, number_of}
use Rattle.olap_catalog.specs.Columns.{column_leaves, column_texts}
use Rattle.olap_catalog.specs.Parts.{is_column, plain}
use Rattle.olap_catalog.proofs.ValueFacts.{column_known, leaf_is, leaves_are, value_within}

-- a member is found
member_found : (texts : List (List ℕ)) (i : ℕ) (text : List ℕ) → slice_get texts i ≡ Some text → list_any (bytes_eq text) texts ≡ true
member_found [] i text at = absurd (cc)
member_found (t ∷ ts) zero text at = let same : t ≡ text = cc in rw (same, (bytes_eq-Decides text text).1 refl) refl
member_found (t ∷ ts) (suc i) text at =
    elim (cases_Bool (bytes_eq text t)) [ inl same ↦ rw same refl | inr other ↦ rw other (member_found ts i text at) ]

-- so it has a number
number_known : (texts : List (List ℕ)) (i : ℕ) (text : List ℕ) → slice_get texts i ≡ Some text → (n : ℕ) × (number_of texts text ≡ Some n)
number_known texts i text at =
    let found = any-same (bytes_eq text) texts ∙ member_found texts i text at in
    let within = placed (bytes_eq text) (first_appearances texts) found in
    (position_or_len (bytes_eq text) (first_appearances texts), ap (λ (b : Bool). if b then Some (position_or_len (bytes_eq text) (first_appearances texts)) else None) (lt-ltb (position_or_len (bytes_eq text) (first_appearances texts)) (length (first_appearances texts)) within))

known_column : (catalog : Catalog) (column leaf : ℕ) → leaf < column_leaves catalog column → column < length catalog.columns
known_column catalog column leaf inside = by (slice_get catalog.columns column) refl
  where
    by : (o : Option Column) → slice_get catalog.columns column ≡ o → column < length catalog.columns
    by None none = let count : column_leaves catalog column ≡ 0 = ap (λ (o : Option Column). option_map_or (λ c. length (records catalog c.dimension)) o 0) none in absurd (omega arith)
    by (Some own) at = slice_get_within catalog.columns column own at

-- the value of a leaf is one of the column's
pub leaf_valued : (schema : Schema) (tables : List TableOf) (columns : List Column) (hierarchies : List Hierarchy) (cubes : List Cube) → list_all (λ t. have_fields t.levels t.records) tables ≡ true → list_all (is_column tables) columns ≡ true → length tables ≡ length schema.dimensions
    → (column leaf : ℕ) → leaf < column_leaves (plain schema tables columns hierarchies cubes) column
    → is_some_and (λ value. nat_lt value (length (values (plain schema tables columns hierarchies cubes) column))) (leaf_value (plain schema tables columns hierarchies cubes) column leaf) ≡ true
leaf_valued schema tables columns hierarchies cubes even columned paired column leaf inside =
    let catalog : Catalog = plain schema tables columns hierarchies cubes in
    let known = column_known tables columns column even columned (known_column catalog column leaf inside) in
    let count = leaves_are schema tables columns hierarchies cubes column known paired in
    let texts : List (List ℕ) = column_texts catalog column in
    let within : leaf < length texts = omega (arith, count) in
    let at = slice_get-get_or texts leaf [] within in
    let number = number_known texts leaf _ at in
    let value : leaf_value catalog column leaf ≡ Some number.0 = sym (leaf_is schema tables columns hierarchies cubes column leaf known paired) ∙ ap (option_and_then (number_of texts)) at ∙ number.1 in
    let below = value_within catalog column leaf number.0 (sym value) in
    ap (is_some_and (λ value. nat_lt value (length (values catalog column)))) value ∙ lt-ltb number.0 (length (values catalog column)) below

-- a column has a text for each leaf, whose number is the leaf's value
pub texts_valued : (schema : Schema) (tables : List TableOf) (columns : List Column) (hierarchies : List Hierarchy) (cubes : List Cube) → list_all (λ t. have_fields t.levels t.records) tables ≡ true → list_all (is_column tables) columns ≡ true → length tables ≡ length schema.dimensions
    → (column leaf : ℕ) → leaf < column_leaves (plain schema tables columns hierarchies cubes) column
    → (leaf < length (column_texts (plain schema tables columns hierarchies cubes) column))
    × (option_and_then (number_of (column_texts (plain schema tables columns hierarchies cubes) column)) (slice_get (column_texts (plain schema tables columns hierarchies cubes) column) leaf)
    ≡ leaf_value (plain schema tables columns hierarchies cubes) column leaf)
texts_valued schema tables columns hierarchies cubes even columned paired column leaf inside =
    let known = column_known tables columns column even columned (known_column (plain schema tables columns hierarchies cubes) column leaf inside) in
    let count = leaves_are schema tables columns hierarchies cubes column known paired in
    (omega (arith, count, inside), leaf_is schema tables columns hierarchies cubes column leaf known paired)
