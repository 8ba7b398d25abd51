-- What is found of a declared table in its catalog.
use Rattle.std.proofs.Common.{◌≡◌, ◌≢◌, ◌∙◌, ◌<◌, ◌≤◌, ◌+◌, ◌||◌, ◌==◌, ℕ, zero, suc, Bool, true, false, not, List, [], ◌∷◌, ◌++◌, Option, None, Some, find, filter, filter_map, length, map, take, drop, get_or, bytes_eq, refl, sym, ap, subst, arith, inl, inr}
use Rattle.std.specs.Prelude.{nat_lt, option_and_then, option_map, option_to_list, position, slice_get}
use Rattle.std.specs.List.{cons_option, list_all, list_any}
use Rattle.std.proofs.lemmas.Bool.{and_from, and_parts, cases_Bool, eq-eqb, eqb-true}
use Rattle.std.proofs.lemmas.Bool.Decides.{nat_tests}
use Rattle.std.proofs.lemmas.List.Elements.{All-get_or, filter-append, filter_map-append}
use Rattle.std.proofs.lemmas.Option.{slice_get-map, slice_get_within}
use Rattle.catalog_tables.proofs.SeenFacts.{position-map}
use Rattle.olap_meaning.specs.declared.schema.AggregateLevel.{AggregateLevel}
use Rattle.olap_meaning.specs.declared.schema.AggregateMeasure.{AggregateMeasure}
use Rattle.olap_meaning.specs.declared.schema.SchemaAggregate.{SchemaAggregate}
use Rattle.olap_meaning.specs.declared.schema.SchemaCube.{SchemaCube}
use Rattle.olap_meaning.specs.declared.schema.SchemaDimension.{SchemaDimension}
use Rattle.olap_meaning.specs.declared.tables.Catalog.{Catalog}
use Rattle.olap_meaning.specs.declared.tables.Cube.{Cube}
use Rattle.olap_meaning.specs.declared.tables.Column.{Column}
use Rattle.olap_meaning.specs.declared.tables.Hierarchy.{Hierarchy}
use Rattle.olap_meaning.specs.declared.tables.Measure.{Measure}
use Rattle.olap_meaning.specs.declared.schema.TheConstants.{MEASURE_LIMIT}
use Rattle.olap_meaning.specs.Catalog.{full_name, match_of, table_cube}
use Rattle.olap_meaning.specs.Covering.{among}
use Rattle.olap_meaning.specs.Legal.{is_column_of}
use Rattle.olap_catalog.specs.Parts.{has_levels, is_level}
use Rattle.olap_meaning.specs.Schema.{IsWithinCube, cube_over}
use Rattle.olap_meaning.specs.Whole.{IsNamedCube, IsTableOf, IsWhole}
use Rattle.olap_meaning.proofs.Lists.{holds_at, mapped_from, position_there, take_step}
use Rattle.olap_meaning.proofs.Loads.{some_and}
use Rattle.agg_tables.specs.declared.declared.TableLevel.{TableLevel}
use Rattle.agg_tables.specs.declared.declared.TableMeasure.{TableMeasure}
use Rattle.agg_tables.specs.Declarations.{declared_for, declared_table, each_once, has_column, is_hierarchy, is_named, level_column, measure_with, table_level, table_measure}
use Rattle.agg_tables.specs.Bound.{IsPlaced, with_level}

-- what is left out by a test that holds where another does takes nothing from the other
any_filter : {A : Type 0} (p q : A → Bool) (zs : List A) → ((z : A) → p z ≡ true → q z ≡ true) → list_any p (filter q zs) ≡ list_any p zs
any_filter p q [] from = refl
any_filter p q (z ∷ zs) from = elim (cases_Bool (q z)) [
  | inl kept ↦ rw (kept, any_filter p q zs from) refl
  | inr gone ↦ elim (cases_Bool (p z)) [
    | inl passes ↦ absurd (let both = from z passes in cc)
    | inr fails ↦ rw (gone, fails) (any_filter p q zs from)
  ]
]

-- each column once: the same columns
among_once : (levels : List TableLevel) (column : ℕ) → has_column (each_once levels) column ≡ has_column levels column
among_once [] column = refl
among_once (level ∷ levels) column = elim (cases_Bool (level.column == column)) [
  | inl same ↦ rw same refl
  | inr other ↦
      let rest = any_filter (λ (l : TableLevel). l.column == column) (λ (l : TableLevel). not (level.column == l.column)) (each_once levels) (λ l is. apart level.column l.column column other is) in
      rw other (rest ∙ among_once levels column)
]
  where
    apart : (a b c : ℕ) → (a == c) ≡ false → (b == c) ≡ true → not (a == b) ≡ true
    apart a b c off on = elim (cases_Bool (a == b)) [
      | inl same ↦ absurd (let e : (b == c) ≡ false = rw (eqb-true a b same) at off in cc)
      | inr other ↦ rw other refl
    ]

-- one level more
pub once_more : (levels : List TableLevel) (level : TableLevel) → each_once (levels ++ level ∷ []) ≡ with_level (each_once levels) level
once_more [] level = refl
once_more (first ∷ levels) level = elim (cases_Bool (first.column == level.column)) [
  | inl same ↦ elim (cases_Bool (has_column (each_once levels) level.column)) [
    | inl there ↦ rw (once_more levels level, there, same) refl
    | inr new ↦
        let out : filter (λ (l : TableLevel). not (first.column == l.column)) (level ∷ []) ≡ [] = rw same refl in
        rw (once_more levels level, new, filter-append (λ (l : TableLevel). not (first.column == l.column)) (each_once levels) (level ∷ []), out, same) (ap (λ (ls : List TableLevel). first ∷ ls) (nil (filter (λ (l : TableLevel). not (first.column == l.column)) (each_once levels))))
  ]
  | inr other ↦
      let kept : filter (λ (l : TableLevel). not (first.column == l.column)) (level ∷ []) ≡ level ∷ [] = rw other refl in
      let among = among_once (first ∷ levels) level.column ∙ ap (λ (b : Bool). b || has_column levels level.column) other in
      elim (cases_Bool (has_column (each_once levels) level.column)) [
        | inl there ↦
            let was : has_column (each_once (first ∷ levels)) level.column ≡ true = among ∙ sym (among_once levels level.column) ∙ there in
            rw (was, once_more levels level, there) refl
        | inr new ↦
            let was : has_column (each_once (first ∷ levels)) level.column ≡ false = among ∙ sym (among_once levels level.column) ∙ new in
            rw (was, once_more levels level, new, filter-append (λ (l : TableLevel). not (first.column == l.column)) (each_once levels) (level ∷ []), kept) refl
      ]
]
  where
    nil : {A : Type 0} (xs : List A) → xs ++ [] ≡ xs
    nil [] = refl
    nil (x ∷ xs) = ap (λ (ys : List _). x ∷ ys) (nil xs)

-- one item more of a list of which some are kept
pub kept_next : {A B : Type 0} (f : A → Option B) (xs : List A) (i : ℕ) (x : A) → i < length xs → x ≡ get_or xs i x → filter_map f (take (i + 1) xs) ≡ filter_map f (take i xs) ++ option_to_list (f x)
kept_next f xs i x within is = rw (take_step xs i x within is) (filter_map-append f (take i xs) (x ∷ []) ∙ ap (λ (more : List _). filter_map f (take i xs) ++ more) (one (f x)))
  where
    one : {B : Type 0} (o : Option B) → cons_option o [] ≡ option_to_list o
    one None = refl
    one (Some b) = refl

found_any : {A : Type 0} (p : A → Bool) (xs : List A) (x : A) → find p xs ≡ Some x → list_any p xs ≡ true
found_any p [] x h = absurd (cc)
found_any p (y ∷ ys) x h = elim (cases_Bool (p y)) [
  | inl passes ↦ rw passes refl
  | inr fails ↦ rw fails (found_any p ys x (rw fails at h))
]

-- the cube of a table is found by its name
pub record IsCubeOf (catalog : Catalog) (name : List ℕ) : Type 0 where
  pub place : ℕ
  pub matched : match_of name (map (λ (cube : Cube). cube.name) catalog.cubes) ≡ Some place
  pub exact : position (λ (cube : Cube). bytes_eq name cube.name) catalog.cubes ≡ Some place

cube_in : (dimensions : List SchemaDimension) (cubes : List SchemaCube) (name : List ℕ) (cube : SchemaCube) → find (λ (c : SchemaCube). bytes_eq name c.name) cubes ≡ Some cube
    → (place : ℕ) × (position (λ (c : Cube). bytes_eq name c.name) (map (cube_over dimensions) cubes) ≡ Some place)
cube_in dimensions cubes name cube found =
    let there = position_there (λ (c : SchemaCube). bytes_eq name c.name) cubes (found_any (λ (c : SchemaCube). bytes_eq name c.name) cubes cube found) in
    (there.0, position-map (cube_over dimensions) (λ (c : Cube). bytes_eq name c.name) cubes ∙ there.1)

pub cube_found : (catalog : Catalog) (table : ℕ) (own : SchemaAggregate) → IsWhole catalog.schema → catalog.cubes ≡ map (cube_over catalog.schema.dimensions) catalog.schema.cubes
    → table < length catalog.schema.aggregates → own ≡ get_or catalog.schema.aggregates table own → IsCubeOf catalog own.cube
cube_found catalog table own whole cubes within is =
    let declared : IsTableOf catalog.schema own = subst (λ (a : SchemaAggregate). IsTableOf catalog.schema a) (sym is) (All-get_or (IsTableOf catalog.schema) catalog.schema.aggregates table own within whole.tables) in
    let there = cube_in catalog.schema.dimensions catalog.schema.cubes own.cube declared.cube declared.named in
    let exact : position (λ (cube : Cube). bytes_eq own.cube cube.name) catalog.cubes ≡ Some there.0 = rw cubes there.1 in
    record {
      place = there.0;
      matched = rw (position-map (λ (cube : Cube). cube.name) (bytes_eq own.cube) catalog.cubes, exact) refl;
      exact = exact;
    }

-- what is found passes the test, and whatever all pass
pub found_passes : {A : Type 0} (p q : A → Bool) (xs : List A) (x : A) → find p xs ≡ Some x → list_all q xs ≡ true → (p x ≡ true) × (q x ≡ true)
found_passes p q [] x h all = absurd (cc)
found_passes p q (y ∷ ys) x h all =
    let parts = and_parts (q y) (list_all q ys) all in
    elim (cases_Bool (p y)) [
      | inl passes ↦ let same : y ≡ x = (let e : Some y ≡ Some x = rw passes at h in cc) in (rw (← same) passes, rw (← same) parts.0)
      | inr fails ↦ found_passes p q ys x (rw fails at h) parts.1
    ]

all_filter : {A : Type 0} (p q : A → Bool) (xs : List A) → list_all q xs ≡ true → list_all q (filter p xs) ≡ true
all_filter p q [] all = refl
all_filter p q (x ∷ xs) all =
    let parts = and_parts (q x) (list_all q xs) all in
    elim (cases_Bool (p x)) [
      | inl kept ↦ rw (kept, parts.0) (all_filter p q xs parts.1)
      | inr gone ↦ rw gone (all_filter p q xs parts.1)
    ]

all_once : (q : TableLevel → Bool) (levels : List TableLevel) → list_all q levels ≡ true → list_all q (each_once levels) ≡ true
all_once q [] all = refl
all_once q (level ∷ levels) all =
    let parts = and_parts (q level) (list_all q levels) all in
    and_from _ _ parts.0 (all_filter (λ (l : TableLevel). not (level.column == l.column)) q (each_once levels) (all_once q levels parts.1))

all_kept : {A B : Type 0} (f : A → Option B) (q : B → Bool) (xs : List A) → ((x : A) (y : B) → f x ≡ Some y → q y ≡ true) → list_all q (filter_map f xs) ≡ true
all_kept f q [] each = refl
all_kept {A} {B} f q (x ∷ xs) each = by (f x) refl (all_kept f q xs each)
  where
    by : (o : Option B) → f x ≡ o → list_all q (filter_map f xs) ≡ true → list_all q (cons_option o (filter_map f xs)) ≡ true
    by None e rest = rest
    by (Some y) e rest = and_from _ _ (each x y e) rest

pub gone_on : {A B : Type 0} (f : A → Option B) (o : Option A) (y : B) → option_and_then f o ≡ Some y → (x : A) × (o ≡ Some x) × (f x ≡ Some y)
gone_on f None y h = absurd (cc)
gone_on f (Some x) y h = (x, refl, h)

-- a level's column is one of the dimensions of the table's cube
level_own : (catalog : Catalog) (cube : Cube) (declared : AggregateLevel) (level : TableLevel) → list_all (has_levels catalog.columns) catalog.hierarchies ≡ true → table_level catalog cube declared ≡ Some level
    → is_column_of catalog cube.dimensions level.column ≡ true
level_own catalog cube declared level leveled made =
    let column = mapped_from (λ (column : ℕ). record { column = column; name = declared.column }) (level_column catalog cube declared) level made in
    let hierarchy = gone_on (λ (h : Hierarchy). find (is_named catalog declared.level) h.levels) (find (is_hierarchy catalog cube declared.hierarchy) catalog.hierarchies) column.0 column.1 in
    let h = hierarchy.0 in
    let own = found_passes (is_hierarchy catalog cube declared.hierarchy) (has_levels catalog.columns) catalog.hierarchies h hierarchy.1 leveled in
    let among_them = (and_parts (among cube.dimensions h.dimension) (bytes_eq declared.hierarchy (full_name catalog h)) own.0).0 in
    let at = (found_passes (is_named catalog declared.level) (is_level catalog.columns h.dimension) h.levels column.0 hierarchy.2 own.1).1 in
    let there = some_and (λ (c : Column). c.dimension == h.dimension) (slice_get catalog.columns column.0) at in
    let same : level.column ≡ column.0 = ap (λ (l : TableLevel). l.column) (sym column.2) in
    rw (same, there.1, eqb-true there.0.dimension h.dimension there.2) among_them

measure_own : (cube : Cube) (declared : AggregateMeasure) (own : TableMeasure) → table_measure cube declared ≡ Some own → nat_lt own.measure (length cube.measures) ≡ true
measure_own cube declared own made =
    let place = gone_on (λ (place : ℕ). option_map (measure_with place declared) (slice_get cube.measures place)) (position (λ (measure : Measure). bytes_eq declared.measure measure.name) cube.measures) own made in
    let measure = mapped_from (measure_with place.0 declared) (slice_get cube.measures place.0) own place.2 in
    let within = slice_get_within cube.measures place.0 measure.0 measure.1 in
    let same : own.measure ≡ place.0 = ap (λ (m : TableMeasure). m.measure) (sym measure.2) in
    rw same (lt_true place.0 (length cube.measures) within)
  where
    lt_true : (a b : ℕ) → a < b → nat_lt a b ≡ true
    lt_true a b h = grind (arith, nat_tests)

-- a cube of the catalog has a measure, and no more than it may
pub record HasMeasures (cube : Cube) : Type 0 where
  pub some : 0 < length cube.measures
  pub few : length cube.measures ≤ MEASURE_LIMIT

pub has_measures : (catalog : Catalog) (place : ℕ) (cube : Cube) → IsWhole catalog.schema → catalog.cubes ≡ map (cube_over catalog.schema.dimensions) catalog.schema.cubes → slice_get catalog.cubes place ≡ Some cube → HasMeasures cube
has_measures catalog place cube whole cubes at =
    let there = mapped_from (cube_over catalog.schema.dimensions) (slice_get catalog.schema.cubes place) cube (sym (slice_get-map (cube_over catalog.schema.dimensions) catalog.schema.cubes place) ∙ ap (λ (cs : List Cube). slice_get cs place) (sym cubes) ∙ at) in
    let own = there.0 in
    let within = holds_at IsWithinCube catalog.schema.cubes place own whole.limits.each there.1 in
    let named = holds_at IsNamedCube catalog.schema.cubes place own whole.named_cubes there.1 in
    let same : cube.measures ≡ own.measures = ap (λ (c : Cube). c.measures) (sym there.2) in
    record { some = rw same (positive own.measures named.some); few = rw same within.measures }
  where
    positive : {A : Type 0} (xs : List A) → xs ≢ [] → 0 < length xs
    positive [] some = absurd (some refl)
    positive (x ∷ xs) some = omega arith

pub is_placed : (catalog : Catalog) (table : SchemaAggregate) (place : ℕ) (cube : Cube) → IsWhole catalog.schema → catalog.cubes ≡ map (cube_over catalog.schema.dimensions) catalog.schema.cubes → list_all (has_levels catalog.columns) catalog.hierarchies ≡ true
    → slice_get catalog.cubes place ≡ Some cube → IsPlaced catalog (declared_for catalog table place cube)
is_placed catalog table place cube whole cubes leveled at = record {
  cube = cube;
  known = at;
  own = all_once (λ (level : TableLevel). is_column_of catalog cube.dimensions level.column) (filter_map (table_level catalog cube) table.levels)
      (all_kept (table_level catalog cube) (λ (level : TableLevel). is_column_of catalog cube.dimensions level.column) table.levels (λ declared level made. level_own catalog cube declared level leveled made));
  measured = all_kept (table_measure cube) (λ (own : TableMeasure). nat_lt own.measure (length cube.measures)) table.measures (λ declared own made. measure_own cube declared own made);
  some = (has_measures catalog place cube whole cubes at).some;
}

-- the table at a place of the schema, by its parts
pub declared_there : (catalog : Catalog) (table place : ℕ) (own : SchemaAggregate) (cube : Cube) → slice_get catalog.schema.aggregates table ≡ Some own → table_cube catalog table ≡ Some place → slice_get catalog.cubes place ≡ Some cube
    → declared_table catalog table ≡ Some (declared_for catalog own place cube)
declared_there catalog table place own cube at of known =
    ap (λ (o : Option SchemaAggregate). option_and_then (λ own. option_and_then (λ p. option_map (declared_for catalog own p) (slice_get catalog.cubes p)) (table_cube catalog table)) o) at
    ∙ ap (λ (o : Option ℕ). option_and_then (λ p. option_map (declared_for catalog own p) (slice_get catalog.cubes p)) o) of
    ∙ ap (λ (o : Option Cube). option_map (declared_for catalog own place) o) known

-- what is found from a place on, where the item there passes, and where it fails
pub next_found : {A : Type 0} (p : A → Bool) (xs : List A) (i : ℕ) (x : A) → slice_get xs i ≡ Some x → option_map p (slice_get xs i) ≡ Some true → find p (drop i xs) ≡ Some x
next_found p [] i x at passes = absurd (cc)
next_found p (y ∷ ys) zero x at passes =
    let same : y ≡ x = cc in
    let passed : p y ≡ true = cc in
    rw (passed, same) refl
next_found p (y ∷ ys) (suc i) x at passes = next_found p ys i x at passes

pub next_passed : {A : Type 0} (p : A → Bool) (xs : List A) (i : ℕ) → option_map p (slice_get xs i) ≡ Some false → find p (drop (suc i) xs) ≡ find p (drop i xs)
next_passed p [] i fails = absurd (cc)
next_passed p (y ∷ ys) zero fails = let failed : p y ≡ false = cc in rw failed refl
next_passed p (y ∷ ys) (suc i) fails = next_passed p ys i fails
