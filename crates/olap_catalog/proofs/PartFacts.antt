-- The parts of a catalog fit together, by how a schema lays them out.
use Rattle.std.proofs.Common.{All, get_or, zero, ◌≡◌, ◌∙◌, ◌+◌, ◌≤◌, ◌<◌, ◌&&◌, ◌++◌, ℕ, suc, Bool, true, List, [], ◌∷◌, Some, refl, sym, ap, map, slice_get, length, flat_map, nat_lt, nat_le, nat_eq, arith}
use Rattle.std.specs.List.{list_all, AllByRecursion as Each}
use Rattle.std.proofs.lemmas.List.Elements.{recursion_from_All}
use Rattle.std.proofs.lemmas.List.{append_assoc, length-append, length-map}
use Rattle.std.proofs.lemmas.List.Folds.{list_all-append}
use Rattle.std.proofs.lemmas.Bool.{lt-ltb}
use Rattle.std.proofs.lemmas.Bool.Decides.{nat_tests}
use Rattle.olap_meaning.specs.declared.schema.SchemaDimension.{SchemaDimension}
use Rattle.olap_meaning.specs.declared.schema.SchemaHierarchy.{SchemaHierarchy}
use Rattle.olap_meaning.specs.declared.schema.SchemaLevel.{SchemaLevel}
use Rattle.olap_meaning.specs.declared.schema.TheConstants.{LEVEL_LIMIT, MEASURE_LIMIT}
use Rattle.olap_meaning.specs.declared.schema.Schema.{Schema}
use Rattle.olap_meaning.specs.declared.schema.SchemaCube.{SchemaCube}
use Rattle.olap_meaning.specs.declared.tables.Column.{Column}
use Rattle.olap_meaning.specs.declared.tables.Hierarchy.{Hierarchy}
use Rattle.olap_meaning.specs.declared.tables.Cube.{Cube}
use Rattle.olap_meaning.specs.History.{is_some_and}
use Rattle.olap_meaning.specs.Legal.{rise}
use Rattle.olap_meaning.specs.Schema.{columns_from, all_columns, levels_of, numbers_from, hierarchies_from, all_hierarchies, cube_over, hierarchies_in, IsWithinCube}
use Rattle.olap_meaning.specs.Whole.{IsWhole}
use Rattle.catalog_tables.specs.Tables.{TableOf, have_fields, are_filled}
use Rattle.member_trees.specs.Trees.{TreeOf}
use Rattle.olap_catalog.specs.Parts.{plain, tree_of, is_column, is_level, has_levels, has_few_measures, AreParts, Names}
use Rattle.olap_catalog.specs.Tables.{AreTables}
use Rattle.olap_catalog.specs.Roots.{hierarchies_among, full_name_in, level_names_in, measure_names, root_names_in}
use Rattle.olap_catalog.proofs.LayoutFacts.{columns_append, length_columns}

pub both : (a b c d : Bool) → a ≡ c → b ≡ d → (a && b) ≡ (c && d)
both a b c d e f = ap (λ x. x && b) e ∙ ap (λ x. c && x) f

-- the item after some others
pub item_behind : {A : Type 0} (xs ys : List A) (y : A) → slice_get (xs ++ y ∷ ys) (length xs) ≡ Some y
item_behind [] ys y = refl
item_behind (x ∷ xs) ys y = item_behind xs ys y

pub length_snoc : {A : Type 0} (xs : List A) (x : A) → length (xs ++ x ∷ []) ≡ suc (length xs)
length_snoc xs x = let e = length-append xs (x ∷ []) in omega arith

columned_levels : (before after : List TableOf) (t : TableOf) (field : ℕ) (levels : List SchemaLevel) → field + length levels ≤ t.levels
    → list_all (is_column (before ++ t ∷ after)) (columns_from (length before) field levels) ≡ true
columned_levels before after t field [] fits = refl
columned_levels before after t field (level ∷ levels) fits =
    let here : nat_lt field t.levels ≡ true = grind (arith, nat_tests) in
    both _ _ true true (ap (is_some_and (λ (x : TableOf). nat_lt field x.levels)) (item_behind before after t) ∙ here)
    (columned_levels before after t (suc field) levels (omega arith))

-- each column is a field of its table
pub columned_all : (before after : List TableOf) (dimensions : List SchemaDimension) → map (λ t. t.levels) after ≡ map (λ d. length (levels_of d)) dimensions
    → list_all (is_column (before ++ after)) (all_columns (length before) dimensions) ≡ true
columned_all before after [] e = refl
columned_all before [] (d ∷ ds) e = absurd (cc e)
columned_all before (t ∷ after) (d ∷ ds) e =
    let count : t.levels ≡ length (levels_of d) = cc e in
    let more : map (λ x. x.levels) after ≡ map (λ x. length (levels_of x)) ds = cc e in
    list_all-append (is_column (before ++ t ∷ after)) (columns_from (length before) 0 (levels_of d)) (all_columns (suc (length before)) ds)
    ∙ both _ _ true true (columned_levels before after t 0 (levels_of d) (omega arith))
    (ap (λ n. list_all (is_column (before ++ t ∷ after)) (all_columns n ds)) (sym (length_snoc before t))
    ∙ ap (λ ts. list_all (is_column ts) (all_columns (length (before ++ t ∷ [])) ds)) (sym (append_assoc before (t ∷ []) after))
    ∙ columned_all (before ++ t ∷ []) after ds more)

leveled_one : (columns before after : List Column) (d field : ℕ) (levels : List SchemaLevel) → columns ≡ before ++ (columns_from d field levels ++ after)
    → list_all (is_level columns d) (numbers_from (length before) levels) ≡ true
leveled_one columns before after d field [] e = refl
leveled_one columns before after d field (level ∷ levels) e =
    let own : Column = record { name = level.name; dimension = d; field = field } in
    let same : nat_eq d d ≡ true = grind (arith, nat_tests) in
    both _ _ true true
    (ap (λ cs. is_level cs d (length before)) e ∙ ap (is_some_and (λ (c : Column). nat_eq c.dimension d)) (item_behind before (columns_from d (suc field) levels ++ after) own) ∙ same)
    (ap (λ n. list_all (is_level columns d) (numbers_from n levels)) (sym (length_snoc before own))
    ∙ leveled_one columns (before ++ own ∷ []) after d (suc field) levels (e ∙ sym (append_assoc before (own ∷ []) (columns_from d (suc field) levels ++ after))))

leveled_some : (columns before after : List Column) (d field : ℕ) (hs : List SchemaHierarchy) → columns ≡ before ++ (columns_from d field (flat_map (λ h. h.levels) hs) ++ after)
    → list_all (has_levels columns) (hierarchies_from d (length before) hs) ≡ true
leveled_some columns before after d field [] e = refl
leveled_some columns before after d field (h ∷ hs) e =
    let own = columns_from d field h.levels in
    let later = columns_from d (field + length h.levels) (flat_map (λ (x : SchemaHierarchy). x.levels) hs) in
    let split : columns ≡ before ++ (own ++ (later ++ after)) =
    e ∙ ap (λ cs. before ++ (cs ++ after)) (columns_append d field h.levels (flat_map (λ (x : SchemaHierarchy). x.levels) hs)) ∙ ap (λ cs. before ++ cs) (append_assoc own later after) in
    let next : length before + length h.levels ≡ length (before ++ own) = let k = length-append before own in let m = length_columns d field h.levels in omega arith in
    both _ _ true true (leveled_one columns before (later ++ after) d field h.levels split)
    (ap (λ n. list_all (has_levels columns) (hierarchies_from d n hs)) next
    ∙ leveled_some columns (before ++ own) after d (field + length h.levels) hs (split ∙ sym (append_assoc before own (later ++ after))))

-- each hierarchy's levels are columns of its dimension
pub leveled_all : (columns before : List Column) (place : ℕ) (dimensions : List SchemaDimension) → columns ≡ before ++ all_columns place dimensions
    → list_all (has_levels columns) (all_hierarchies place (length before) dimensions) ≡ true
leveled_all columns before place [] e = refl
leveled_all columns before place (d ∷ ds) e =
    let own = columns_from place 0 (levels_of d) in
    let next : length before + length (levels_of d) ≡ length (before ++ own) = let k = length-append before own in let m = length_columns place 0 (levels_of d) in omega arith in
    list_all-append (has_levels columns) (hierarchies_from place (length before) d.hierarchies) (all_hierarchies (suc place) (length before + length (levels_of d)) ds)
    ∙ both _ _ true true (leveled_some columns before (all_columns (suc place) ds) place 0 d.hierarchies e)
    (ap (λ n. list_all (has_levels columns) (all_hierarchies (suc place) n ds)) next
    ∙ leveled_all columns (before ++ own) (suc place) ds (e ∙ sym (append_assoc before own (all_columns (suc place) ds))))

-- there are as many columns as levels
pub length_all_columns : (place : ℕ) (ds : List SchemaDimension) → length (all_columns place ds) ≡ length (flat_map levels_of ds)
length_all_columns place [] = refl
length_all_columns place (d ∷ ds) =
    length-append (columns_from place 0 (levels_of d)) (all_columns (suc place) ds)
    ∙ ap (λ n. n + length (all_columns (suc place) ds)) (length_columns place 0 (levels_of d)) ∙ ap (λ n. length (levels_of d) + n) (length_all_columns (suc place) ds)
    ∙ sym (length-append (levels_of d) (flat_map levels_of ds))

length_hierarchies : (d column : ℕ) (hs : List SchemaHierarchy) → length (hierarchies_from d column hs) ≡ length hs
length_hierarchies d column [] = refl
length_hierarchies d column (h ∷ hs) = let e = length_hierarchies d (column + length h.levels) hs in omega arith

-- and as many hierarchies as the dimensions have
pub length_all_hierarchies : (place column : ℕ) (ds : List SchemaDimension) → length (all_hierarchies place column ds) ≡ length (flat_map (λ d. d.hierarchies) ds)
length_all_hierarchies place column [] = refl
length_all_hierarchies place column (d ∷ ds) =
    length-append (hierarchies_from place column d.hierarchies) (all_hierarchies (suc place) (column + length (levels_of d)) ds)
    ∙ ap (λ n. n + length (all_hierarchies (suc place) (column + length (levels_of d)) ds)) (length_hierarchies place column d.hierarchies)
    ∙ ap (λ n. length d.hierarchies + n) (length_all_hierarchies (suc place) (column + length (levels_of d)) ds)
    ∙ sym (length-append d.hierarchies (flat_map (λ x. x.hierarchies) ds))

few_measures_in : (ds : List SchemaDimension) (cubes : List SchemaCube) → Each IsWithinCube cubes → list_all has_few_measures (map (cube_over ds) cubes) ≡ true
few_measures_in ds [] within = refl
few_measures_in ds (cube ∷ cubes) within =
    let few = within.0.measures in
    let here : nat_le (length cube.measures) MEASURE_LIMIT ≡ true = grind (arith, nat_tests) in
    both _ _ true true here (few_measures_in ds cubes within.1)

numbers_append : (n : ℕ) (xs ys : List SchemaLevel) → numbers_from n (xs ++ ys) ≡ numbers_from n xs ++ numbers_from (n + length xs) ys
numbers_append n [] ys = let e : n + 0 ≡ n = omega arith in rw e refl
numbers_append n (x ∷ xs) ys =
    let e : suc n + length xs ≡ n + length (x ∷ xs) = omega arith in
    ap (λ ns. n ∷ ns) (numbers_append (suc n) xs ys ∙ ap (λ m. numbers_from (suc n) xs ++ numbers_from m ys) e)

flat_append : {A B : Type 0} (f : A → List B) (xs ys : List A) → flat_map f (xs ++ ys) ≡ flat_map f xs ++ flat_map f ys
flat_append f [] ys = refl
flat_append f (x ∷ xs) ys = ap (λ zs. f x ++ zs) (flat_append f xs ys) ∙ sym (append_assoc (f x) (flat_map f xs) (flat_map f ys))

levels_in_dimension : (d column : ℕ) (hs : List SchemaHierarchy) → flat_map (λ (x : Hierarchy). x.levels) (hierarchies_from d column hs) ≡ numbers_from column (flat_map (λ (x : SchemaHierarchy). x.levels) hs)
levels_in_dimension d column [] = refl
levels_in_dimension d column (h ∷ hs) =
    ap (λ ns. numbers_from column h.levels ++ ns) (levels_in_dimension d (column + length h.levels) hs) ∙ sym (numbers_append column h.levels (flat_map (λ (x : SchemaHierarchy). x.levels) hs))

levels_in_all : (place column : ℕ) (ds : List SchemaDimension) → flat_map (λ (x : Hierarchy). x.levels) (all_hierarchies place column ds) ≡ numbers_from column (flat_map levels_of ds)
levels_in_all place column [] = refl
levels_in_all place column (d ∷ ds) =
    flat_append (λ (x : Hierarchy). x.levels) (hierarchies_from place column d.hierarchies) (all_hierarchies (suc place) (column + length (levels_of d)) ds)
    ∙ ap (λ ns. ns ++ flat_map (λ (x : Hierarchy). x.levels) (all_hierarchies (suc place) (column + length (levels_of d)) ds)) (levels_in_dimension place column d.hierarchies)
    ∙ ap (λ ns. numbers_from column (levels_of d) ++ ns) (levels_in_all (suc place) (column + length (levels_of d)) ds)
    ∙ sym (numbers_append column (levels_of d) (flat_map levels_of ds))

numbers_above : (m n : ℕ) (ls : List SchemaLevel) → m < n → list_all (nat_lt m) (numbers_from n ls) ≡ true
numbers_above m n [] l = refl
numbers_above m n (x ∷ ls) l = both _ _ true true (lt-ltb m n l) (numbers_above m (suc n) ls (omega (arith, l)))

numbers_rise : (n : ℕ) (ls : List SchemaLevel) → rise (numbers_from n ls) ≡ true
numbers_rise n [] = refl
numbers_rise n (x ∷ ls) = both _ _ true true (numbers_above n (suc n) ls (omega arith)) (numbers_rise (suc n) ls)

-- the columns of all hierarchies rise, one hierarchy after another
rising_all : (place column : ℕ) (ds : List SchemaDimension) → rise (flat_map (λ (x : Hierarchy). x.levels) (all_hierarchies place column ds)) ≡ true
rising_all place column ds = ap rise (levels_in_all place column ds) ∙ numbers_rise column (flat_map levels_of ds)

tables_paired : (schema : Schema) (tables : List TableOf) → map (λ t. t.levels) tables ≡ map (λ d. length (levels_of d)) schema.dimensions → length tables ≡ length schema.dimensions
tables_paired schema tables whole = sym (length-map tables (λ (t : TableOf). t.levels)) ∙ ap length whole ∙ length-map schema.dimensions (λ (d : SchemaDimension). length (levels_of d))

-- the tables and columns that a schema gives are such as trees are built from
pub tables_fit : (schema : Schema) (tables : List TableOf) (columns : List Column) → list_all (λ t. have_fields t.levels t.records) tables ≡ true → map (λ t. t.levels) tables ≡ map (λ d. length (levels_of d)) schema.dimensions
    → columns ≡ all_columns 0 schema.dimensions → AreTables schema tables columns
tables_fit schema tables columns even whole c = record {
  paired = tables_paired schema tables whole;
  even = even;
  columned = ap (list_all (is_column tables)) c ∙ columned_all [] tables schema.dimensions whole;
}

-- each hierarchy's levels are columns of its dimension
pub levels_fit : (schema : Schema) (columns : List Column) (hierarchies : List Hierarchy) → columns ≡ all_columns 0 schema.dimensions → hierarchies ≡ all_hierarchies 0 0 schema.dimensions → list_all (has_levels columns) hierarchies ≡ true
levels_fit schema columns hierarchies c h = ap (list_all (has_levels columns)) h ∙ leveled_all columns [] 0 schema.dimensions c

length_numbers : (n : ℕ) (ls : List SchemaLevel) → length (numbers_from n ls) ≡ length ls
length_numbers n [] = refl
length_numbers n (x ∷ ls) = let e = length_numbers (suc n) ls in omega arith

part_short : {A B : Type 0} (f : A → List B) (xs : List A) (k : ℕ) (e : A) → k < length xs → length (f (get_or xs k e)) ≤ length (flat_map f xs)
part_short f [] k e h = absurd (omega arith)
part_short f (x ∷ xs) zero e h = omega (arith, length-append (f x) (flat_map f xs))
part_short f (x ∷ xs) (suc k) e h = omega (arith, length-append (f x) (flat_map f xs), part_short f xs k e (omega arith))

-- and it has few
pub levels_few : (schema : Schema) (hierarchies : List Hierarchy) → IsWhole schema → hierarchies ≡ all_hierarchies 0 0 schema.dimensions → All (λ h. length h.levels ≤ LEVEL_LIMIT) hierarchies
levels_few schema hierarchies sound is k e within =
    let one = part_short (λ (x : Hierarchy). x.levels) hierarchies k e within in
    let all : length (flat_map (λ (x : Hierarchy). x.levels) hierarchies) ≡ length (flat_map levels_of schema.dimensions) =
    ap (λ hs. length (flat_map (λ (x : Hierarchy). x.levels) hs)) is ∙ ap length (levels_in_all 0 0 schema.dimensions) ∙ length_numbers 0 (flat_map levels_of schema.dimensions) in
    let few = sound.limits.levels in
    omega (arith, one, all, few)

-- the parts that a schema and its tables give fit together
pub parts_fit : (schema : Schema) (tables : List TableOf) (columns : List Column) (hierarchies : List Hierarchy) (cubes : List Cube) (trees : List TreeOf) (full_names : List (List ℕ)) (roots : List (List ℕ)) (names : Names) → IsWhole schema
    → list_all (λ t. have_fields t.levels t.records) tables ≡ true → list_all (λ t. are_filled t.records) tables ≡ true → map (λ t. t.levels) tables ≡ map (λ d. length (levels_of d)) schema.dimensions → columns ≡ all_columns 0 schema.dimensions → hierarchies ≡ all_hierarchies 0 0 schema.dimensions
    → cubes ≡ map (cube_over schema.dimensions) schema.cubes → trees ≡ map (tree_of (plain schema tables columns hierarchies cubes)) hierarchies → full_names ≡ map (full_name_in schema.dimensions) hierarchies → roots ≡ map (λ cube. flat_map (hierarchies_among hierarchies) cube.dimensions) cubes
    → names.cubes ≡ map (λ cube. cube.name) cubes → names.tables ≡ map (λ table. table.name) schema.aggregates → names.measures ≡ map measure_names cubes → names.roots ≡ map (root_names_in full_names) roots → names.levels ≡ map (level_names_in columns) hierarchies
    → AreParts schema tables columns hierarchies cubes trees full_names roots names
parts_fit schema tables columns hierarchies cubes trees full_names roots names sound even filled whole c h k treed named rooted cubes_named tables_named measures_named roots_named levels_named =
    let limits = sound.limits in
    let fit = tables_fit schema tables columns even whole c in
    let paired = fit.paired in
    let few_c : length columns ≡ length (flat_map levels_of schema.dimensions) = ap length c ∙ length_all_columns 0 schema.dimensions in
    let few_h : length hierarchies ≡ length (hierarchies_in schema) = ap length h ∙ length_all_hierarchies 0 0 schema.dimensions in
    let few_k : length cubes ≡ length schema.cubes = ap length k ∙ length-map schema.cubes (cube_over schema.dimensions) in
    record {
      whole = sound;
      hierarchies_are = h;
      cubes_are = k;
      paired = paired;
      even = even;
      filled = filled;
      columned = fit.columned;
      leveled = levels_fit schema columns hierarchies c h;
      rising = ap (λ hs. rise (flat_map (λ (x : Hierarchy). x.levels) hs)) h ∙ rising_all 0 0 schema.dimensions;
      treed = treed;
      named = named;
      rooted = rooted;
      cubes_named = cubes_named;
      tables_named = tables_named;
      measures_named = measures_named;
      roots_named = roots_named;
      levels_named = levels_named;
      few_tables = omega (arith, limits.dimensions);
      few_columns = omega (arith, limits.levels);
      few_hierarchies = omega (arith, limits.hierarchies);
      few_levels = levels_few schema hierarchies sound h;
      few_cubes = omega (arith, limits.cubes);
      few_measures = ap (list_all has_few_measures) k ∙ few_measures_in schema.dimensions schema.cubes (recursion_from_All IsWithinCube schema.cubes limits.each);
    }
