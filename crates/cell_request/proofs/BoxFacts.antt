-- The box of the member on which a hierarchy stands.
use Rattle.std.proofs.Common.{◌≡◌, ◌∙◌, ◌++◌, ℕ, true, false, List, [], ◌∷◌, Option, Some, None, refl, sym, ap, map, slice_get, take, length, nat_lt, nat_eq}
use Rattle.std.specs.List.{list_all, zip}
use Rattle.std.specs.Option.{option_map_or}
use Rattle.std.proofs.lemmas.Bool.{and_from, and_parts, eq-eqb, eqb-true, lt-ltb, ltb-true}
use Rattle.olap_meaning.specs.declared.cells.LevelRef.TheVariants.{Whole}
use Rattle.olap_meaning.specs.declared.cells.Member.{Member}
use Rattle.olap_meaning.specs.declared.cells.Member.TheVariants as member
use Rattle.olap_meaning.specs.declared.tables.Catalog.{Catalog}
use Rattle.olap_meaning.specs.declared.tables.Column.{Column}
use Rattle.olap_meaning.specs.declared.tables.Cube.{Cube}
use Rattle.olap_meaning.specs.declared.tables.Hierarchy.{Hierarchy}
use Rattle.olap_meaning.specs.Catalog.{box, default_member, paths_below, values}
use Rattle.cell_request.specs.Standing.{is_of}
use Rattle.olap_meaning.specs.Covering.{among}
use Rattle.olap_meaning.specs.History.{is_some_and}
use Rattle.olap_meaning.proofs.Loads.{some_and}
use Rattle.olap_meaning.specs.MemberOf.{IsMemberOf, is_path, level_columns}
use Rattle.olap_meaning.specs.Catalog.{all_text}
use Rattle.olap_catalog.specs.Parts.{has_levels, is_level}
use Rattle.olap_catalog.proofs.MemberFacts.{column_there}
use Rattle.olap_meaning.specs.Legal.{is_column_of}
use Rattle.olap_meaning.proofs.Lists.{passes_at}
use Rattle.cell_request.specs.Boxes.{is_own, is_within, IsBoxOf, IsFront}

first_of : (h : ℕ) (all : Option (List ℕ)) (paths : List (List ℕ)) (m : Member) → slice_get (option_map_or (λ name. member.All h ∷ []) all [] ++ map (member.At h) paths) 0 ≡ Some m → is_of m h ≡ true
first_of h (Some name) paths m at = let same : member.All h ≡ m = cc at in ap (λ k. is_of k h) (sym same) ∙ eq-eqb h h refl
first_of h None [] m at = absurd (cc at)
first_of h None (p ∷ paths) m at = let same : member.At h p ≡ m = cc at in ap (λ k. is_of k h) (sym same) ∙ eq-eqb h h refl

-- the default member of a hierarchy is one of it
pub default_is_of : (catalog : Catalog) (cube h : ℕ) (m : Member) → default_member catalog cube (Whole h) ≡ Some m → is_of m h ≡ true
default_is_of catalog cube h m at = first_of h (all_text catalog h) (option_map_or (λ hierarchy. paths_below catalog hierarchy []) (slice_get catalog.hierarchies h) []) m at

zip_none : (levels : List ℕ) → zip {K = ℕ} {X = ℕ} levels [] ≡ []
zip_none [] = refl
zip_none (c ∷ levels) = refl

path_none : (catalog : Catalog) (levels : List ℕ) → is_path catalog levels [] ≡ true
path_none catalog levels = refl

-- no pair is a box of any hierarchy
pub box_empty : (catalog : Catalog) (h : ℕ) (pairs : List (ℕ × ℕ)) → pairs ≡ [] → IsBoxOf catalog h pairs
box_empty catalog h pairs is = ([], is ∙ sym (zip_none (level_columns catalog h)), path_none catalog (level_columns catalog h))

-- the box of a member of a hierarchy is its first columns with the values of a path
pub box_is : (catalog : Catalog) (cube h : ℕ) (m : Member) (pairs : List (ℕ × ℕ)) → IsMemberOf catalog cube m → is_of m h ≡ true → pairs ≡ box catalog m → IsBoxOf catalog h pairs
box_is catalog cube h (member.Measure k) pairs own of is = absurd (cc of)
box_is catalog cube h (member.All k) pairs own of is = box_empty catalog h pairs is
box_is catalog cube h (member.At k path) pairs own of is =
    let same : k ≡ h = eqb-true k h of in
    (path, is ∙ boxed (slice_get catalog.hierarchies k) ∙ ap (λ n. zip (level_columns catalog n) path) same, sym (ap (λ n. is_path catalog (level_columns catalog n) path) same) ∙ own.1)
  where
    boxed : (o : Option Hierarchy) → option_map_or (λ (x : Hierarchy). zip x.levels path) o [] ≡ zip (option_map_or (λ (x : Hierarchy). x.levels) o []) path
    boxed None = refl
    boxed (Some x) = refl

-- a column of a dimension of a cube
column_used : (catalog : Catalog) (dimensions : List ℕ) (dimension column : ℕ) → among dimensions dimension ≡ true → is_level catalog.columns dimension column ≡ true → is_column_of catalog dimensions column ≡ true
column_used catalog dimensions dimension column used level =
    let own : (x : Column) × (slice_get catalog.columns column ≡ Some x) × (nat_eq x.dimension dimension ≡ true) = some_and (λ (x : Column). nat_eq x.dimension dimension) (slice_get catalog.columns column) level in
    ap (is_some_and (λ (x : Column). among dimensions x.dimension)) own.1 ∙ ap (among dimensions) (eqb-true own.0.dimension dimension own.2) ∙ used

own_pairs : (catalog : Catalog) (cube : ℕ) (own : Cube) (dimension : ℕ) (levels path : List ℕ) → slice_get catalog.cubes cube ≡ Some own → among own.dimensions dimension ≡ true → list_all (is_level catalog.columns dimension) levels ≡ true → is_path catalog levels path ≡ true
    → list_all (is_own catalog cube) (zip levels path) ≡ true
own_pairs catalog cube own dimension [] path at used leveled is = refl
own_pairs catalog cube own dimension (c ∷ levels) [] at used leveled is = refl
own_pairs catalog cube own dimension (c ∷ levels) (v ∷ path) at used leveled is =
    let level = and_parts (is_level catalog.columns dimension c) (list_all (is_level catalog.columns dimension) levels) leveled in
    let value = and_parts (nat_lt v (length (values catalog c))) (is_path catalog levels path) is in
    let known = column_there catalog c v (ltb-true v (length (values catalog c)) value.0) in
    let of_cube = ap (is_some_and (λ (x : Cube). is_column_of catalog x.dimensions c)) at ∙ column_used catalog own.dimensions dimension c used level.0 in
    and_from _ _ (and_from _ _ (and_from _ _ (lt-ltb c (length catalog.columns) known) value.0) of_cube) (own_pairs catalog cube own dimension levels path at used level.1 value.1)

-- the pairs of the box of a hierarchy of a cube are the cube's
pub box_own : (catalog : Catalog) (cube h : ℕ) (pairs : List (ℕ × ℕ)) → list_all (has_levels catalog.columns) catalog.hierarchies ≡ true → option_map_or (is_within catalog cube) (slice_get catalog.hierarchies h) false ≡ true → IsBoxOf catalog h pairs
    → list_all (is_own catalog cube) pairs ≡ true
box_own catalog cube h pairs leveled within is = by (slice_get catalog.hierarchies h) refl within
  where
    in_cube : (hierarchy : Hierarchy) → slice_get catalog.hierarchies h ≡ Some hierarchy → (c : Option Cube) → slice_get catalog.cubes cube ≡ c → option_map_or (λ (x : Cube). among x.dimensions hierarchy.dimension) c false ≡ true
        → list_all (is_own catalog cube) pairs ≡ true
    in_cube hierarchy there None at used = absurd (cc used)
    in_cube hierarchy there (Some own) at used =
        let levels : level_columns catalog h ≡ hierarchy.levels = ap (λ o. option_map_or (λ (x : Hierarchy). x.levels) o []) there in
        ap (list_all (is_own catalog cube)) (is.1 ∙ ap (λ ls. zip ls is.0) levels)
        ∙ own_pairs catalog cube own hierarchy.dimension hierarchy.levels is.0 at used (passes_at (has_levels catalog.columns) catalog.hierarchies h hierarchy leveled there) (sym (ap (λ ls. is_path catalog ls is.0) levels) ∙ is.2)

    by : (o : Option Hierarchy) → slice_get catalog.hierarchies h ≡ o → option_map_or (is_within catalog cube) o false ≡ true → list_all (is_own catalog cube) pairs ≡ true
    by None there is_in = absurd (cc is_in)
    by (Some hierarchy) there is_in = in_cube hierarchy there (slice_get catalog.cubes cube) refl is_in

zip_front : (levels path : List ℕ) → map (λ (pair : ℕ × ℕ). pair.0) (zip levels path) ≡ take (length path) levels
zip_front [] [] = refl
zip_front [] (v ∷ path) = refl
zip_front (c ∷ levels) [] = refl
zip_front (c ∷ levels) (v ∷ path) = ap (λ cs. c ∷ cs) (zip_front levels path)

-- its columns are the hierarchy's first
pub box_front : (catalog : Catalog) (h : ℕ) (pairs : List (ℕ × ℕ)) → IsBoxOf catalog h pairs → IsFront (map (λ pair. pair.0) pairs) (level_columns catalog h)
box_front catalog h pairs is = (length is.0, ap (map (λ (pair : ℕ × ℕ). pair.0)) is.1 ∙ zip_front (level_columns catalog h) is.0)
