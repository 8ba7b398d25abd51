-- No name in a catalog is empty, where its schema is whole and no field of its tables is empty.
use Rattle.std.proofs.Common.{◌≡◌, ◌≢◌, ◌∙◌, ◌+◌, ◌<◌, ◌||◌, ◌++◌, ℕ, zero, suc, Bool, true, false, not, List, [], ◌∷◌, Option, Some, None, refl, sym, ap, subst, map, option_and_then, slice_get, length, codes, bytes_eq, arith, if◌then◌else◌}
use Rattle.std.proofs.lemmas.Bool.{and_parts}
use Rattle.std.specs.List.{list_all, list_any, cons_option, AllByRecursion as Each}
use Rattle.std.specs.Option.{option_map_or}
use Rattle.std.proofs.lemmas.List.Elements.{recursion_from_All}
use Rattle.olap_meaning.specs.declared.schema.Schema.{Schema}
use Rattle.olap_meaning.specs.declared.schema.SchemaCube.{SchemaCube}
use Rattle.olap_meaning.specs.declared.schema.SchemaDimension.{SchemaDimension}
use Rattle.olap_meaning.specs.declared.schema.SchemaHierarchy.{SchemaHierarchy}
use Rattle.olap_meaning.specs.declared.tables.Catalog.{Catalog}
use Rattle.olap_meaning.specs.declared.tables.Column.{Column}
use Rattle.olap_meaning.specs.declared.tables.Cube.{Cube}
use Rattle.olap_meaning.specs.declared.tables.Hierarchy.{Hierarchy}
use Rattle.olap_meaning.specs.declared.tables.Measure.{Measure}
use Rattle.olap_meaning.specs.declared.tables.Record.{Record}
use Rattle.olap_meaning.specs.Catalog.{field_texts, first_appearances, full_name, records}
use Rattle.olap_meaning.specs.FullNames.{joined_name}
use Rattle.olap_meaning.specs.Records.{is_null}
use Rattle.olap_meaning.specs.Schema.{all_hierarchies, all_name, cube_over, hierarchies_from, levels_of}
use Rattle.olap_meaning.specs.Whole.{IsNamedCube, IsNamedDimension, IsNamedHierarchy}
use Rattle.olap_meaning.proofs.Lists.{passes_at}
use Rattle.catalog_tables.specs.Tables.{TableOf, are_filled}
use Rattle.member_trees.specs.Trees.{TreeOf}
use Rattle.member_trees.proofs.Lists.{Each-append, Each-filter}
use Rattle.olap_catalog.specs.Named.{HasNames}
use Rattle.olap_catalog.specs.Parts.{AreParts, Names, plain}
use Rattle.olap_catalog.proofs.RootFacts.{full_names_same}
use Rattle.olap_catalog.proofs.ValueFacts.{records_here, records_none}

each_at : {A : Type 0} (P : A → Type 0) (xs : List A) (i : ℕ) (x : A) → Each P xs → slice_get xs i ≡ Some x → P x
each_at P [] i x each at = absurd (cc at)
each_at P (y ∷ ys) zero x each at = let same : y ≡ x = cc at in subst P same each.0
each_at P (y ∷ ys) (suc i) x each at = each_at P ys i x each.1 at

-- a text of these is not empty
abbrev Full : List ℕ → Type 0
Full text = text ≢ []

not_or : (a b : Bool) → not (a || b) ≡ true → (not a ≡ true) × (not b ≡ true)
not_or true b h = absurd (cc h)
not_or false b h = (refl, h)

not_null : (text : List ℕ) → not (is_null text) ≡ true → Full text
not_null [] h = absurd (cc h)
not_null (x ∷ xs) h = λ e. cc e

full_fields : (fields : List (List ℕ)) → not (list_any is_null fields) ≡ true → Each Full fields
full_fields [] h = tt
full_fields (x ∷ xs) h = let parts = not_or (is_null x) (list_any is_null xs) h in (not_null x parts.0, full_fields xs parts.1)

-- the texts of a field of filled records
full_texts : (field : ℕ) (rs : List Record) → are_filled rs ≡ true → Each Full (field_texts field rs)
full_texts field [] h = tt
full_texts field (r ∷ rs) h =
    let parts : (not (list_any is_null r.fields) ≡ true) × (are_filled rs ≡ true) = and_parts (not (list_any is_null r.fields)) (are_filled rs) h in
    by (full_fields r.fields parts.0) (slice_get r.fields field) refl (full_texts field rs parts.1)
  where
    by : Each Full r.fields → (o : Option (List ℕ)) → slice_get r.fields field ≡ o → Each Full (field_texts field rs) → Each Full (cons_option o (field_texts field rs))
    by own None at rest = rest
    by own (Some text) at rest = (each_at Full r.fields field text own at, rest)

full_values : (texts : List (List ℕ)) → Each Full texts → Each Full (first_appearances texts)
full_values [] each = tt
full_values (x ∷ xs) each = (each.0, Each-filter Full (λ other. not (bytes_eq x other)) (first_appearances xs) (full_values xs each.1))

-- the records of each dimension are filled
filled_records : (schema : Schema) (tables : List TableOf) (columns : List Column) (hierarchies : List Hierarchy) (cubes : List Cube) (d : ℕ) → length tables ≡ length schema.dimensions → list_all (λ t. are_filled t.records) tables ≡ true
    → are_filled (records (plain schema tables columns hierarchies cubes) d) ≡ true
filled_records schema tables columns hierarchies cubes d paired filled = by (slice_get tables d) refl
  where
    by : (o : Option TableOf) → slice_get tables d ≡ o → are_filled (records (plain schema tables columns hierarchies cubes) d) ≡ true
    by None at = ap are_filled (records_none schema tables columns hierarchies cubes d at)
    by (Some t) at = ap are_filled (records_here schema tables columns hierarchies cubes d t paired at) ∙ passes_at (λ (x : TableOf). are_filled x.records) tables d t filled at

-- no name of a hierarchy of a catalog is empty: its own, and its all member's
record HasOwnNames (hierarchy : Hierarchy) : Type 0 where
  pub own : hierarchy.name ≢ []
  pub all_member : (name : List ℕ) → hierarchy.all_member ≡ Some name → name ≢ []

full_all : (h : SchemaHierarchy) → h.all_member_name ≢ [] → (name : List ℕ) → all_name h ≡ Some name → name ≢ []
full_all h full = by h.has_all
  where
    by : (b : Bool) (name : List ℕ) → (if b then Some h.all_member_name else None) ≡ Some name → name ≢ []
    by true name e = λ empty. full (let same : h.all_member_name ≡ name = cc e in same ∙ empty)
    by false name e = absurd (cc e)

full_some : (d column : ℕ) (hs : List SchemaHierarchy) → Each IsNamedHierarchy hs → Each HasOwnNames (hierarchies_from d column hs)
full_some d column [] each = tt
full_some d column (h ∷ hs) each = (record { own = each.0.own; all_member = full_all h each.0.all_member }, full_some d (column + length h.levels) hs each.1)

full_hierarchies : (place column : ℕ) (ds : List SchemaDimension) → Each IsNamedDimension ds → Each HasOwnNames (all_hierarchies place column ds)
full_hierarchies place column [] each = tt
full_hierarchies place column (d ∷ ds) each =
    Each-append HasOwnNames (hierarchies_from place column d.hierarchies) (all_hierarchies (suc place) (column + length (levels_of d)) ds)
    (full_some place column d.hierarchies (recursion_from_All IsNamedHierarchy d.hierarchies each.0.hierarchies))
    (full_hierarchies (suc place) (column + length (levels_of d)) ds each.1)

dotted : (dimension rest : List ℕ) → dimension ++ codes "." ++ rest ≢ []
dotted [] rest = λ e. cc e
dotted (x ∷ xs) rest = λ e. cc e

-- a hierarchy that has a name has a full name
full_joined : (dimension name : List ℕ) → name ≢ [] → joined_name dimension name ≢ []
full_joined dimension name full = by (bytes_eq name dimension)
  where
    by : (b : Bool) → (if b then name else dimension ++ codes "." ++ name) ≢ []
    by true = full
    by false = dotted dimension name

-- a measure of a cube over some dimensions has a name
full_measures : (ds : List SchemaDimension) (cubes : List SchemaCube) → Each IsNamedCube cubes → Each (λ cube. Each (λ measure. measure.name ≢ []) cube.measures) (map (cube_over ds) cubes)
full_measures ds [] each = tt
full_measures ds (cube ∷ cubes) each = (recursion_from_All (λ (measure : Measure). measure.name ≢ []) cube.measures each.0.measures, full_measures ds cubes each.1)

-- where a place is one of a list, what holds of each item holds of what stands there
there : {A B : Type 0} (P : A → Type 0) (f : A → B) (default : B) (Q : B → Type 0) (xs : List A) (i : ℕ) → Each P xs → ((x : A) → P x → Q (f x)) → i < length xs → Q (option_map_or f (slice_get xs i) default)
there P f default Q [] i each weaker within = absurd (omega (arith, within))
there P f default Q (x ∷ xs) zero each weaker within = weaker x each.0
there P f default Q (x ∷ xs) (suc i) each weaker within = there P f default Q xs i each.1 weaker (omega (arith, within))

-- no name in the catalog that the parts are is empty
pub names_hold : (schema : Schema) (tables : List TableOf) (columns : List Column) (hierarchies : List Hierarchy) (cubes : List Cube) (trees : List TreeOf) (full_names : List (List ℕ)) (roots : List (List ℕ)) (names : Names)
    → AreParts schema tables columns hierarchies cubes trees full_names roots names → HasNames (plain schema tables columns hierarchies cubes)
names_hold schema tables columns hierarchies cubes trees full_names roots names parts =
    record {
      hierarchies = λ h within. there HasOwnNames (full_name catalog) [] Full hierarchies h own_names full within;
      all_members = λ h name is. named_all h (slice_get hierarchies h) refl name is;
      measures = λ cube m within. named_measure cube (slice_get cubes cube) refl m within;
      values = λ column value text is. named_value (slice_get columns column) value text is;
    }
  where
    catalog : Catalog
    catalog = plain schema tables columns hierarchies cubes

    own_names : Each HasOwnNames hierarchies
    own_names = subst (Each HasOwnNames) (sym parts.hierarchies_are) (full_hierarchies 0 0 schema.dimensions (recursion_from_All IsNamedDimension schema.dimensions parts.whole.named))

    full : (x : Hierarchy) → HasOwnNames x → Full (full_name catalog x)
    full x has =
        subst Full (sym (full_names_same schema tables columns hierarchies cubes x parts.paired))
        (full_joined (option_map_or (λ (d : SchemaDimension). d.name) (slice_get schema.dimensions x.dimension) []) x.name has.own)

    named_all : (h : ℕ) (o : Option Hierarchy) → slice_get hierarchies h ≡ o → (name : List ℕ) → option_and_then (λ (x : Hierarchy). x.all_member) o ≡ Some name → name ≢ []
    named_all h None at name is = absurd (cc is)
    named_all h (Some x) at name is = (each_at HasOwnNames hierarchies h x own_names at).all_member name is

    own_measures : Each (λ cube. Each (λ measure. measure.name ≢ []) cube.measures) cubes
    own_measures = subst (Each (λ (cube : Cube). Each (λ measure. measure.name ≢ []) cube.measures)) (sym parts.cubes_are) (full_measures schema.dimensions schema.cubes (recursion_from_All IsNamedCube schema.cubes parts.whole.named_cubes))

    named_measure : (cube : ℕ) (o : Option Cube) → slice_get cubes cube ≡ o → (m : ℕ) → m < option_map_or (λ (c : Cube). length c.measures) o 0
        → option_map_or (λ (measure : Measure). measure.name) (option_and_then (λ (c : Cube). slice_get c.measures m) o) [] ≢ []
    named_measure cube None at m within = absurd (omega (arith, within))
    named_measure cube (Some c) at m within =
        there (λ (measure : Measure). measure.name ≢ []) (λ measure. measure.name) [] Full c.measures m
        (each_at (λ (x : Cube). Each (λ measure. measure.name ≢ []) x.measures) cubes cube c own_measures at) (λ measure has. has) within

    named_value : (o : Option Column) (value : ℕ) (text : List ℕ) → slice_get (option_map_or (λ (c : Column). first_appearances (field_texts c.field (records catalog c.dimension))) o []) value ≡ Some text → text ≢ []
    named_value None value text is = absurd (cc is)
    named_value (Some c) value text is =
        each_at Full (first_appearances (field_texts c.field (records catalog c.dimension))) value text
        (full_values (field_texts c.field (records catalog c.dimension))
        (full_texts c.field (records catalog c.dimension) (filled_records schema tables columns hierarchies cubes c.dimension parts.paired parts.filled))) is
