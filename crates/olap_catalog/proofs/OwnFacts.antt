-- The members that a catalog's names lead to are its own.
use Rattle.std.proofs.Common.{All, flat_map, inl, inr, ◌≡◌, ◌∙◌, ◌+◌, ◌<◌, ◌≤◌, ◌||◌, ℕ, zero, suc, Bool, true, false, List, [], ◌∷◌, Option, Some, None, Result, Ok, Err, refl, sym, ap, map, take, filter, filter_map, option_and_then, slice_get, length, not, ok_or, nat_lt, nat_eq, bytes_eq, arith, subst}
use Rattle.std.specs.List.{list_all, list_any, starts_with, enumerate_from, cons_option, AllByRecursion as Each}
use Rattle.std.specs.Option.{option_map_or, IsSome}
use Rattle.std.proofs.lemmas.Bool.{and_parts, lt-ltb}
use Rattle.std.proofs.lemmas.List.Folds.{list_all-append}
use Rattle.std.proofs.lemmas.Bool.Decides.{nat_tests}
use Rattle.std.proofs.lemmas.Option.{slice_get_cases, slice_get_within}
use Rattle.std.proofs.lemmas.Slice.Eq.{bytes_eq-Decides}
use Rattle.olap_meaning.specs.declared.schema.Schema.{Schema}
use Rattle.olap_meaning.specs.declared.tables.Record.{Record}
use Rattle.olap_meaning.specs.declared.tables.Column.{Column}
use Rattle.olap_meaning.specs.declared.tables.Hierarchy.{Hierarchy}
use Rattle.olap_meaning.specs.declared.tables.Cube.{Cube}
use Rattle.olap_meaning.specs.declared.tables.Measure.{Measure}
use Rattle.olap_meaning.specs.declared.tables.Catalog.{Catalog}
use Rattle.olap_meaning.specs.declared.cells.Member.{Member}
use Rattle.olap_meaning.specs.declared.cells.Member.TheVariants as member
use Rattle.olap_meaning.specs.declared.cells.LevelRef.{LevelRef}
use Rattle.olap_meaning.specs.declared.cells.LevelRef.TheVariants.{Measures, Whole, One}
use Rattle.olap_meaning.specs.Catalog.{first_appearances, values, leaf_value, records, path_of, paths, paths_below, paths_at, paths_under, level_members, members_with, all_member, measure_members, children, first_members, default_member, named, named_below, and_then, member_from, match_of, member_name}
use Rattle.olap_meaning.proofs.Appearances.{any-same}
use Rattle.catalog_tables.specs.Tables.{TableOf, have_fields, number_of}
use Rattle.olap_catalog.specs.Columns.{column_texts, column_leaves}
use Rattle.member_trees.specs.Trees.{TreeOf}
use Rattle.member_trees.proofs.Lists.{Each-append}
use Rattle.olap_catalog.specs.Parts.{plain, is_column, has_levels, AreParts, Names}
use Rattle.olap_meaning.specs.Catalog.{all_text}
use Rattle.olap_catalog.specs.Members.{is_there, HasLevels, from_root_or_fault, or_fault}
use Rattle.olap_meaning.specs.MemberOf.{IsMemberOf, is_path, measure_count}
use Rattle.olap_meaning.proofs.Lists.{all_filter, position_there}
use Rattle.olap_catalog.proofs.PartFacts.{both}
use Rattle.olap_catalog.proofs.ValueFacts.{column_known, leaf_is, leaves_are, value_within}
use Rattle.olap_catalog.proofs.HierarchyFacts.{levels_there}

-- a column has a value for each of its leaves
abbrev pub HasValues : Catalog → Type 0
HasValues catalog = (column leaf : ℕ) → column < length catalog.columns → leaf < column_leaves catalog column → (value : ℕ) × (leaf_value catalog column leaf ≡ Some value)

any_at : (texts : List (List ℕ)) (i : ℕ) (text : List ℕ) → slice_get texts i ≡ Some text → list_any (bytes_eq text) texts ≡ true
any_at [] i text at = absurd (cc at)
any_at (x ∷ texts) zero text at =
    let same : text ≡ x = cc at in
    ap (λ b. b || list_any (bytes_eq text) texts) ((bytes_eq-Decides text x).1 same)
any_at (x ∷ texts) (suc i) text at = by (bytes_eq text x) (any_at texts i text at)
  where
    by : (b : Bool) → list_any (bytes_eq text) texts ≡ true → (b || list_any (bytes_eq text) texts) ≡ true
    by true rest = refl
    by false rest = rest

-- each text of some has a number
numbered : (texts : List (List ℕ)) (leaf : ℕ) → leaf < length texts → (n : ℕ) × (option_and_then (number_of texts) (slice_get texts leaf) ≡ Some n)
numbered texts leaf within =
    elim ((slice_get_cases texts leaf).1) [
      | inl here ↦
          let place = position_there (bytes_eq here.0) (first_appearances texts) (any-same (bytes_eq here.0) texts ∙ any_at texts leaf here.0 here.2) in
          (place.0, ap (option_and_then (number_of texts)) here.2 ∙ place.1)
      | inr past ↦ absurd (omega (arith, past.0, within))
    ]

has_values : (schema : Schema) (tables : List TableOf) (columns : List Column) (hierarchies : List Hierarchy) (cubes : List Cube) → length tables ≡ length schema.dimensions → list_all (λ t. have_fields t.levels t.records) tables ≡ true
    → list_all (is_column tables) columns ≡ true → HasValues (plain schema tables columns hierarchies cubes)
has_values schema tables columns hierarchies cubes paired even columned column leaf known there =
    let catalog = plain schema tables columns hierarchies cubes in
    let own = column_known tables columns column even columned known in
    let count = leaves_are schema tables columns hierarchies cubes column own paired in
    let number = numbered (column_texts catalog column) leaf (omega (arith, count, there)) in
    (number.0, sym (leaf_is schema tables columns hierarchies cubes column leaf own paired) ∙ number.1)

-- the values of a leaf in some levels are a path
leaf_path : (catalog : Catalog) (leaf : ℕ) (levels : List ℕ) → HasValues catalog → list_all (is_there catalog leaf) levels ≡ true → is_path catalog levels (filter_map (λ column. leaf_value catalog column leaf) levels) ≡ true
leaf_path catalog leaf [] has there = refl
leaf_path catalog leaf (c ∷ levels) has there =
    let parts = and_parts (is_there catalog leaf c) (list_all (is_there catalog leaf) levels) there in
    let known = and_parts (nat_lt c (length catalog.columns)) (nat_lt leaf (column_leaves catalog c)) parts.0 in
    let value = has c leaf (less c (length catalog.columns) known.0) (less leaf (column_leaves catalog c) known.1) in
    let within = value_within catalog c leaf value.0 (sym value.1) in
    ap (λ o. is_path catalog (c ∷ levels) (cons_option o (filter_map (λ column. leaf_value catalog column leaf) levels))) value.1
    ∙ both _ _ true true (lt-ltb value.0 (length (values catalog c)) within) (leaf_path catalog leaf levels has parts.1)
  where
    less : (a b : ℕ) → nat_lt a b ≡ true → a < b
    less a b e = grind (arith, nat_tests)

path_take : (catalog : Catalog) (levels path : List ℕ) (n : ℕ) → is_path catalog levels path ≡ true → is_path catalog levels (take n path) ≡ true
path_take catalog levels path zero own = refl
path_take catalog levels [] (suc n) own = refl
path_take catalog [] (v ∷ path) (suc n) own = absurd (cc own)
path_take catalog (c ∷ levels) (v ∷ path) (suc n) own =
    let parts = and_parts (nat_lt v (length (values catalog c))) (is_path catalog levels path) own in
    both _ _ true true parts.0 (path_take catalog levels path n parts.1)

all_first : (p : List ℕ → Bool) (xs : List (List ℕ)) → list_all p xs ≡ true → list_all p (first_appearances xs) ≡ true
all_first p [] all = refl
all_first p (x ∷ xs) all =
    let parts = and_parts (p x) (list_all p xs) all in
    both _ _ true true parts.0 (all_filter p (λ other. not (bytes_eq x other)) (first_appearances xs) (all_first p xs parts.1))

all_taken : (catalog : Catalog) (levels : List ℕ) (n : ℕ) (xs : List (List ℕ)) → list_all (is_path catalog levels) xs ≡ true → list_all (is_path catalog levels) (map (take n) xs) ≡ true
all_taken catalog levels n [] all = refl
all_taken catalog levels n (x ∷ xs) all =
    let parts = and_parts (is_path catalog levels x) (list_all (is_path catalog levels) xs) all in
    both _ _ true true (path_take catalog levels x n parts.0) (all_taken catalog levels n xs parts.1)

-- the paths of a hierarchy are paths of its levels
all_paths : (catalog : Catalog) (hierarchy : Hierarchy) → HasValues catalog → HasLevels catalog hierarchy → list_all (is_path catalog hierarchy.levels) (paths catalog hierarchy) ≡ true
all_paths catalog hierarchy has levels = by 0 (records catalog hierarchy.dimension) (omega arith)
  where
    by : (k : ℕ) (rs : List Record) → k + length rs ≤ length (records catalog hierarchy.dimension) → list_all (is_path catalog hierarchy.levels) (map (λ (leaf : ℕ × Record). path_of catalog hierarchy leaf.0) (enumerate_from k rs)) ≡ true
    by k [] within = refl
    by k (r ∷ rs) within = both _ _ true true (leaf_path catalog k hierarchy.levels has (levels k (omega arith))) (by (k + 1) rs (omega arith))

all_below : (catalog : Catalog) (hierarchy : Hierarchy) (path : List ℕ) → HasValues catalog → HasLevels catalog hierarchy → list_all (is_path catalog hierarchy.levels) (paths_below catalog hierarchy path) ≡ true
all_below catalog hierarchy path has levels =
    let p = is_path catalog hierarchy.levels in
    let on = all_filter p (λ leaf. starts_with nat_eq leaf path) (paths catalog hierarchy) (all_paths catalog hierarchy has levels) in
    let cut = all_taken catalog hierarchy.levels (suc (length path)) (filter (λ leaf. starts_with nat_eq leaf path) (paths catalog hierarchy)) on in
    let long = all_filter p (λ below. nat_eq (length below) (suc (length path))) (map (take (suc (length path))) (filter (λ leaf. starts_with nat_eq leaf path) (paths catalog hierarchy))) cut in
    all_first p (filter (λ below. nat_eq (length below) (suc (length path))) (map (take (suc (length path))) (filter (λ leaf. starts_with nat_eq leaf path) (paths catalog hierarchy)))) long

-- what a catalog needs for its members to be its own
pub record IsWhole (catalog : Catalog) : Type 0 where
  pub has : HasValues catalog
  pub leveled : list_all (has_levels catalog.columns) catalog.hierarchies ≡ true

-- the parts of a catalog are that
pub whole_parts : (schema : Schema) (tables : List TableOf) (columns : List Column) (hierarchies : List Hierarchy) (cubes : List Cube) → length tables ≡ length schema.dimensions → list_all (λ t. have_fields t.levels t.records) tables ≡ true
    → list_all (is_column tables) columns ≡ true → list_all (has_levels columns) hierarchies ≡ true → IsWhole (plain schema tables columns hierarchies cubes)
whole_parts schema tables columns hierarchies cubes paired even columned leveled = record { has = has_values schema tables columns hierarchies cubes paired even columned; leveled = leveled }

pub parts_whole : {schema : Schema} {tables : List TableOf} {columns : List Column} {hierarchies : List Hierarchy} {cubes : List Cube} {trees : List TreeOf} {full_names : List (List ℕ)} {roots : List (List ℕ)} {names : Names}
    → AreParts schema tables columns hierarchies cubes trees full_names roots names → IsWhole (plain schema tables columns hierarchies cubes)
parts_whole {schema} {tables} {columns} {hierarchies} {cubes} parts = whole_parts schema tables columns hierarchies cubes parts.paired parts.even parts.columned parts.leveled

each_at : {A : Type 0} (P : A → Type 0) (xs : List A) (i : ℕ) (x : A) → Each P xs → slice_get xs i ≡ Some x → P x
each_at P [] i x own at = absurd (cc at)
each_at P (y ∷ xs) zero x own at = let same : y ≡ x = cc at in subst P same own.0
each_at P (y ∷ xs) (suc i) x own at = each_at P xs i x own.1 at

-- the members of a hierarchy with some paths of its levels
with_own : (catalog : Catalog) (cube h : ℕ) (paths_in : Hierarchy → List (List ℕ)) → IsWhole catalog → ((hierarchy : Hierarchy) → HasLevels catalog hierarchy → list_all (is_path catalog hierarchy.levels) (paths_in hierarchy) ≡ true)
    → Each (IsMemberOf catalog cube) (members_with catalog h paths_in)
with_own catalog cube h paths_in whole own = by (slice_get catalog.hierarchies h) refl
  where
    at_paths : (hierarchy : Hierarchy) → slice_get catalog.hierarchies h ≡ Some hierarchy → (ps : List (List ℕ)) → list_all (is_path catalog hierarchy.levels) ps ≡ true → Each (IsMemberOf catalog cube) (map (member.At h) ps)
    at_paths hierarchy there [] all = tt
    at_paths hierarchy there (p ∷ ps) all =
        let parts = and_parts (is_path catalog hierarchy.levels p) (list_all (is_path catalog hierarchy.levels) ps) all in
        ((slice_get_within catalog.hierarchies h hierarchy there, ap (λ o. is_path catalog (option_map_or (λ (x : Hierarchy). x.levels) o []) p) there ∙ parts.0), at_paths hierarchy there ps parts.1)

    by : (o : Option Hierarchy) → slice_get catalog.hierarchies h ≡ o → Each (IsMemberOf catalog cube) (map (member.At h) (option_map_or paths_in o []))
    by None there = tt
    by (Some hierarchy) there = at_paths hierarchy there (paths_in hierarchy) (own hierarchy (levels_there catalog h hierarchy whole.leveled there))

below_own : (catalog : Catalog) (cube h : ℕ) (path : List ℕ) → IsWhole catalog → Each (IsMemberOf catalog cube) (members_with catalog h (λ hierarchy. paths_below catalog hierarchy path))
below_own catalog cube h path whole = with_own catalog cube h (λ hierarchy. paths_below catalog hierarchy path) whole (λ hierarchy levels. all_below catalog hierarchy path whole.has levels)

all_flat : (p : List ℕ → Bool) (f : List ℕ → List (List ℕ)) (xs : List (List ℕ)) → list_all p xs ≡ true → ((x : List ℕ) → p x ≡ true → list_all p (f x) ≡ true) → list_all p (flat_map f xs) ≡ true
all_flat p f [] all each = refl
all_flat p f (x ∷ xs) all each =
    let parts = and_parts (p x) (list_all p xs) all in
    list_all-append p (f x) (flat_map f xs) ∙ both _ _ true true (each x parts.0) (all_flat p f xs parts.1 each)

-- the paths of a depth are paths of the levels
all_at_depth : (catalog : Catalog) (hierarchy : Hierarchy) (depth : ℕ) → HasValues catalog → HasLevels catalog hierarchy → list_all (is_path catalog hierarchy.levels) (paths_at catalog hierarchy depth) ≡ true
all_at_depth catalog hierarchy zero has levels = refl
all_at_depth catalog hierarchy (suc depth) has levels =
    all_flat (is_path catalog hierarchy.levels) (paths_below catalog hierarchy) (paths_at catalog hierarchy depth) (all_at_depth catalog hierarchy depth has levels) (λ path own. all_below catalog hierarchy path has levels)

-- and those below a path
all_under : (catalog : Catalog) (hierarchy : Hierarchy) (count : ℕ) (path : List ℕ) → HasValues catalog → HasLevels catalog hierarchy → list_all (is_path catalog hierarchy.levels) (paths_under catalog hierarchy count path) ≡ true
all_under catalog hierarchy zero path has levels = refl
all_under catalog hierarchy (suc count) path has levels =
    all_flat (is_path catalog hierarchy.levels) (λ next. next ∷ paths_under catalog hierarchy count next) (paths_below catalog hierarchy path) (all_below catalog hierarchy path has levels)
    (λ next own. both _ _ true true own (all_under catalog hierarchy count next has levels))

all_own : (catalog : Catalog) (cube h : ℕ) → Each (IsMemberOf catalog cube) (all_member catalog h)
all_own catalog cube h = by (slice_get catalog.hierarchies h) refl
  where
    named_all : (hierarchy : Hierarchy) → slice_get catalog.hierarchies h ≡ Some hierarchy → (o : Option (List ℕ)) → hierarchy.all_member ≡ o → Each (IsMemberOf catalog cube) (option_map_or (λ name. member.All h ∷ []) o [])
    named_all hierarchy there None at = tt
    named_all hierarchy there (Some name) at =
        let own : all_text catalog h ≡ Some name = ap (option_and_then (λ (x : Hierarchy). x.all_member)) there ∙ at in
        ((slice_get_within catalog.hierarchies h hierarchy there, subst (λ (o : Option (List ℕ)). IsSome o) (sym own) refl), tt)

    by : (o : Option Hierarchy) → slice_get catalog.hierarchies h ≡ o → Each (IsMemberOf catalog cube) (option_map_or (λ name. member.All h ∷ []) (option_and_then (λ (x : Hierarchy). x.all_member) o) [])
    by None there = tt
    by (Some hierarchy) there = named_all hierarchy there hierarchy.all_member refl

measures_own : (catalog : Catalog) (cube : ℕ) → Each (IsMemberOf catalog cube) (measure_members catalog cube)
measures_own catalog cube = by (slice_get catalog.cubes cube) refl
  where
    from : (own : Cube) → slice_get catalog.cubes cube ≡ Some own → (k : ℕ) (ms : List Measure) → k + length ms ≤ length own.measures → Each (IsMemberOf catalog cube) (map (λ (m : ℕ × Measure). member.Measure m.0) (enumerate_from k ms))
    from own there k [] within = tt
    from own there k (m ∷ ms) within =
        let count : measure_count catalog cube ≡ length own.measures = ap (λ o. option_map_or (λ (c : Cube). length c.measures) o 0) there in
        ((slice_get_within catalog.cubes cube own there, omega (arith, count, within)), from own there (k + 1) ms (omega arith))

    by : (o : Option Cube) → slice_get catalog.cubes cube ≡ o → Each (IsMemberOf catalog cube) (map (λ (m : ℕ × Measure). member.Measure m.0) (enumerate_from 0 (option_map_or (λ (c : Cube). c.measures) o [])))
    by None there = tt
    by (Some own) there = from own there 0 own.measures (omega arith)

pub children_own : (catalog : Catalog) (cube : ℕ) (m : Member) → IsWhole catalog → Each (IsMemberOf catalog cube) (children catalog m)
children_own catalog cube (member.Measure m) whole = tt
children_own catalog cube (member.All h) whole = below_own catalog cube h [] whole
children_own catalog cube (member.At h path) whole = below_own catalog cube h path whole

-- the members of some levels are the catalog's
pub level_own : (catalog : Catalog) (cube : ℕ) (level : LevelRef) → IsWhole catalog → Each (IsMemberOf catalog cube) (level_members catalog cube level)
level_own catalog cube Measures whole = measures_own catalog cube
level_own catalog cube (Whole h) whole =
    let under = λ (hierarchy : Hierarchy). paths_under catalog hierarchy (length hierarchy.levels) [] in
    Each-append (IsMemberOf catalog cube) (all_member catalog h) (members_with catalog h under) (all_own catalog cube h) (with_own catalog cube h under whole (λ hierarchy levels. all_under catalog hierarchy (length hierarchy.levels) [] whole.has levels))
level_own catalog cube (One h level) whole = with_own catalog cube h (λ hierarchy. paths_at catalog hierarchy (suc level)) whole (λ hierarchy levels. all_at_depth catalog hierarchy (suc level) whole.has levels)

-- what holds of each item, item by item
pub each_all : {A : Type 0} (P : A → Type 0) (xs : List A) → Each P xs → All P xs
each_all P [] each k e h = absurd (omega (arith, h))
each_all P (x ∷ xs) each zero e h = each.0
each_all P (x ∷ xs) each (suc k) e h = each_all P xs each.1 k e (omega (arith, h))

first_own : (catalog : Catalog) (cube : ℕ) (root : LevelRef) → IsWhole catalog → Each (IsMemberOf catalog cube) (first_members catalog cube root)
first_own catalog cube Measures whole = measures_own catalog cube
first_own catalog cube (Whole h) whole = Each-append (IsMemberOf catalog cube) (all_member catalog h) (children catalog (member.All h)) (all_own catalog cube h) (children_own catalog cube (member.All h) whole)
first_own catalog cube (One h level) whole = tt

-- a member that was position_there among some
among : (P : Member → Type 0) (o : Option ℕ) (members : List Member) (name : List ℕ) (m : Member) → Each P members → ok_or (option_and_then (slice_get members) o) name ≡ Ok m → P m
among P None members name m own is = absurd (cc is)
among P (Some i) members name m own is = by (slice_get members i) refl is
  where
    by : (o : Option Member) → slice_get members i ≡ o → ok_or o name ≡ Ok m → P m
    by None at e = absurd (cc e)
    by (Some x) at e = let same : x ≡ m = cc e in each_at P members i m own (at ∙ ap (λ k. Some k) same)

walk_own : (catalog : Catalog) (cube : ℕ) (names : List (List ℕ)) (members : List Member) (first m : Member) → IsWhole catalog → Each (IsMemberOf catalog cube) members → IsMemberOf catalog cube first
    → named_below catalog cube names members first ≡ Ok m → IsMemberOf catalog cube m
walk_own catalog cube [] members first m whole own begun is = let same : first ≡ m = cc is in subst (IsMemberOf catalog cube) same begun
walk_own catalog cube (name ∷ names) members first m whole own begun is =
    by (named catalog cube members name) refl is (λ next. walk_own catalog cube names (children catalog next) next m whole (children_own catalog cube next whole))
  where
    by : (r : Result Member (List ℕ)) → named catalog cube members name ≡ r → and_then (λ next. named_below catalog cube names (children catalog next) next) r ≡ Ok m
        → ((next : Member) → IsMemberOf catalog cube next → named_below catalog cube names (children catalog next) next ≡ Ok m → IsMemberOf catalog cube m) → IsMemberOf catalog cube m
    by (Err e) at went rest = absurd (cc went)
    by (Ok next) at went rest = rest next (among (IsMemberOf catalog cube) (match_of name (map (member_name catalog cube) members)) members name next own at) went

root_own : (catalog : Catalog) (cube : ℕ) (name : List ℕ) (names : List (List ℕ)) (root : LevelRef) (m : Member) → IsWhole catalog → member_from catalog cube name names (Some root) ≡ Ok m → IsMemberOf catalog cube m
root_own catalog cube name names root m whole is = by (ok_or (default_member catalog cube root) name) refl is
  where
    by : (r : Result Member (List ℕ)) → ok_or (default_member catalog cube root) name ≡ r → and_then (named_below catalog cube names (first_members catalog cube root)) r ≡ Ok m → IsMemberOf catalog cube m
    by (Err e) at went = absurd (cc went)
    by (Ok first) at went =
        walk_own catalog cube names (first_members catalog cube root) first m whole (first_own catalog cube root whole)
        (among (IsMemberOf catalog cube) (Some 0) (first_members catalog cube root) name first (first_own catalog cube root whole) at) went

-- the member that a path means whose first name is a root is the catalog's
pub found_own : (catalog : Catalog) (cube : ℕ) (root : LevelRef) (path : List (List ℕ)) (m : Member) → IsWhole catalog → from_root_or_fault catalog cube root path ≡ Ok m → IsMemberOf catalog cube m
found_own catalog cube root [] m whole is = absurd (cc is)
found_own catalog cube root (name ∷ names) m whole is = by (member_from catalog cube name names (Some root)) refl is
  where
    by : (r : Result Member (List ℕ)) → member_from catalog cube name names (Some root) ≡ r → or_fault r ≡ Ok m → IsMemberOf catalog cube m
    by (Err e) at went = absurd (cc went)
    by (Ok own) at went = let same : own ≡ m = cc went in root_own catalog cube name names root m whole (at ∙ ap (λ k. Ok k) same)
