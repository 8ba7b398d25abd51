-- The regions of members, of the measures and of ranges.
use Rattle.std.proofs.Common.{◌≡◌, ◌∙◌, ◌+◌, ◌-◌, ◌<◌, ◌≤◌, ◌++◌, ◌⊎◌, inl, inr, ℕ, zero, suc, Bool, true, ◌&&◌, List, [], ◌∷◌, Option, None, Some, All, refl, sym, ap, subst, arith, drop, get_or, length, map, min, nat_lt, slice_get, take}
use Rattle.std.specs.List.{list_all, list_any, range_with_len, zip}
use Rattle.std.specs.Option.{option_map_or}
use Rattle.std.proofs.lemmas.Bool.{and_from, and_parts, lt-ltb, ltb-true}
use Rattle.std.proofs.lemmas.List.Elements.{All-cons, All-drop, All-head, All-map, All-nil, All-same, All-tail, All-take, All-weaker}
use Rattle.std.proofs.Math.Seq.{take-append_seam}
use Rattle.std.proofs.lemmas.List.{length-drop, length-take-le}
use Rattle.olap_catalog.proofs.MemberFacts.{column_there}
use Rattle.olap_meaning.specs.declared.cells.Member.{Member}
use Rattle.olap_meaning.specs.declared.cells.Member.TheVariants as member
use Rattle.olap_meaning.specs.declared.regions.RegionBox.{RegionBox}
use Rattle.olap_meaning.specs.declared.regions.RegionDim.{RegionDim}
use Rattle.olap_meaning.specs.declared.schema.TheConstants.{MEASURE_LIMIT}
use Rattle.olap_meaning.specs.declared.tables.Catalog.{Catalog}
use Rattle.olap_meaning.specs.declared.tables.Cube.{Cube}
use Rattle.olap_meaning.specs.declared.tables.Hierarchy.{Hierarchy}
use Rattle.olap_meaning.specs.Catalog.{all_text, values}
use Rattle.olap_meaning.specs.Legal.{is_box, is_measures, is_value}
use Rattle.olap_meaning.specs.MemberOf.{is_path, IsMemberOf}
use Rattle.olap_meaning.specs.Schema.{cube_over, IsWithinCube}
use Rattle.olap_meaning.specs.Whole.{IsWhole}
use Rattle.olap_meaning.proofs.Lists.{holds_at}
use Rattle.query_meaning.specs.declared.TheConstants.{BOX_LIMIT}
use Rattle.query_meaning.specs.RegionMeaning.{between, dim_of, level_around, measures_of, measures_region, member_box, member_region, members_region, named_measures}
use Rattle.region_algebra.specs.Regions.{HasHierarchy, IsBoundedOf}
use Rattle.region_algebra.proofs.BoolFacts.{everywhere}
use Rattle.region_algebra.proofs.BoxFacts.{NamesNone}

-- a member of a cube is a measure or of a hierarchy
pub has_hierarchy : (catalog : Catalog) (cube : ℕ) (m : Member) → IsMemberOf catalog cube m → HasHierarchy catalog m
has_hierarchy catalog cube (member.Measure m) own = tt
has_hierarchy catalog cube (member.All h) own = own.0
has_hierarchy catalog cube (member.At h path) own = own.0

-- ---- measures

-- a cube has few measures
pub few_measures : (catalog : Catalog) (cube : ℕ) (c : Cube) → IsWhole catalog.schema → catalog.cubes ≡ map (cube_over catalog.schema.dimensions) catalog.schema.cubes → slice_get catalog.cubes cube ≡ Some c → length c.measures ≤ MEASURE_LIMIT
few_measures catalog cube c whole are there =
    holds_at (λ (x : Cube). length x.measures ≤ MEASURE_LIMIT) catalog.cubes cube c
    (All-same (λ (x : Cube). length x.measures ≤ MEASURE_LIMIT) _ _ are
    (All-map (λ (x : Cube). length x.measures ≤ MEASURE_LIMIT) (cube_over catalog.schema.dimensions) catalog.schema.cubes
    (All-weaker IsWithinCube (λ x. length x.measures ≤ MEASURE_LIMIT) (λ x within. within.measures) catalog.schema.cubes whole.limits.each))) there

-- one number more
pub range_more : (a n : ℕ) → range_with_len a (n + 1) ≡ range_with_len a n ++ (a + n) ∷ []
range_more a zero = ap (λ k. k ∷ []) (omega arith)
range_more a (suc n) =
    let next : suc n + 1 ≡ suc (n + 1) = omega arith in
    let last : (a + 1) + n ≡ a + suc n = omega arith in
    ap (range_with_len a) next
    ∙ ap (λ xs. a ∷ xs) (range_more (a + 1) n)
    ∙ ap (λ k. a ∷ (range_with_len (a + 1) n ++ k ∷ [])) last

pub count_more : (n : ℕ) → range_with_len 0 (n + 1) ≡ range_with_len 0 n ++ n ∷ []
count_more n = let same : 0 + n ≡ n = omega arith in range_more 0 n ∙ ap (λ k. range_with_len 0 n ++ k ∷ []) same

-- the measures of a cube
pub measures_are : (catalog : Catalog) (cube : ℕ) (c : Cube) → slice_get catalog.cubes cube ≡ Some c → range_with_len 0 (length c.measures) ≡ measures_of catalog cube
measures_are catalog cube c there = sym (ap (λ o. range_with_len 0 (option_map_or (λ (x : Cube). length x.measures) o 0)) there)

-- the region of the measures is one of the cube
pub measures_own : (catalog : Catalog) (cube : ℕ) → IsBoundedOf catalog cube (measures_region catalog cube)
measures_own catalog cube = record {
  of_cube = refl;
  bounded = record { limit = omega arith; measures = inl refl };
  boxes = refl;
}

-- ---- the boxes of members

-- columns and values of a catalog
abbrev pairs_own : Catalog → List (ℕ × List ℕ) → Bool
pairs_own catalog columns = list_all (λ column. nat_lt column.0 (length catalog.columns) && list_all (is_value catalog column.0) column.1) columns

pair_own : (catalog : Catalog) (column value : ℕ) → nat_lt value (length (values catalog column)) ≡ true → (nat_lt column (length catalog.columns) && list_all (is_value catalog column) (value ∷ [])) ≡ true
pair_own catalog column value is =
    and_from _ _ (lt-ltb column (length catalog.columns) (column_there catalog column value (ltb-true value (length (values catalog column)) is)))
    (and_from _ _ is refl)

zipped_own : (catalog : Catalog) (columns path : List ℕ) → is_path catalog columns path ≡ true → pairs_own catalog (map (λ pair. (pair.0, pair.1 ∷ [])) (zip columns path)) ≡ true
zipped_own catalog [] [] is = refl
zipped_own catalog (column ∷ columns) [] is = refl
zipped_own catalog [] (value ∷ path) is = refl
zipped_own catalog (column ∷ columns) (value ∷ path) is =
    let parts = and_parts (nat_lt value (length (values catalog column))) (is_path catalog columns path) is in
    and_from _ _ (pair_own catalog column value parts.0) (zipped_own catalog columns path parts.1)

-- the box of a member is the catalog's
pub box_own : (catalog : Catalog) (cube : ℕ) (m : Member) → IsMemberOf catalog cube m → is_box catalog (member_box catalog m) ≡ true
box_own catalog cube (member.Measure m) own = refl
box_own catalog cube (member.All h) own = refl
box_own catalog cube (member.At h path) own = by (slice_get catalog.hierarchies h) own.1
  where
    by : (o : Option Hierarchy) → is_path catalog (option_map_or (λ (x : Hierarchy). x.levels) o []) path ≡ true → pairs_own catalog (map (λ pair. (pair.0, pair.1 ∷ [])) (option_map_or (λ (x : Hierarchy). zip x.levels path) o [])) ≡ true
    by None is = refl
    by (Some x) is = zipped_own catalog x.levels path is

boxes_own : (catalog : Catalog) (cube : ℕ) (members : List Member) → All (IsMemberOf catalog cube) members → list_all (is_box catalog) (map (member_box catalog) members) ≡ true
boxes_own catalog cube [] all = refl
boxes_own catalog cube (m ∷ members) all =
    and_from _ _ (box_own catalog cube m (All-head (IsMemberOf catalog cube) m members all)) (boxes_own catalog cube members (All-tail (IsMemberOf catalog cube) m members all))

-- columns with one value of a path each
abbrev alone : List (ℕ × ℕ) → List (ℕ × List ℕ)
alone pairs = map (λ pair. (pair.0, pair.1 ∷ [])) pairs

-- one column more
pub columns_more : (levels path : List ℕ) (i column value : ℕ) → i < length levels → i < length path → column ≡ get_or levels i column → value ≡ get_or path i value
    → alone (zip (take (i + 1) levels) (take (i + 1) path)) ≡ alone (zip (take i levels) (take i path)) ++ (column, value ∷ []) ∷ []
columns_more [] path i column value in_levels in_path at_level at_value = absurd (omega (arith, in_levels))
columns_more (a ∷ levels) [] i column value in_levels in_path at_level at_value = absurd (omega (arith, in_path))
columns_more (a ∷ levels) (b ∷ path) zero column value in_levels in_path at_level at_value =
    ap (λ c. (c, b ∷ []) ∷ []) (sym at_level) ∙ ap (λ v. (column, v ∷ []) ∷ []) (sym at_value)
columns_more (a ∷ levels) (b ∷ path) (suc i) column value in_levels in_path at_level at_value =
    let next : suc i + 1 ≡ suc (i + 1) = omega arith in
    ap (λ n. alone (zip (take n (a ∷ levels)) (take n (b ∷ path)))) next
    ∙ ap (λ cs. (a, b ∷ []) ∷ cs) (columns_more levels path i column value (omega (arith, in_levels)) (omega (arith, in_path)) at_level at_value)

-- no pair is left past the shorter of two lists
zip_whole : (xs ys : List ℕ) (n : ℕ) → min (length xs) (length ys) ≤ n → zip (take n xs) (take n ys) ≡ zip xs ys
zip_whole [] ys zero past = refl
zip_whole [] ys (suc n) past = refl
zip_whole (x ∷ xs) [] zero past = refl
zip_whole (x ∷ xs) [] (suc n) past = refl
zip_whole (x ∷ xs) (y ∷ ys) zero past = absurd (omega (arith, past))
zip_whole (x ∷ xs) (y ∷ ys) (suc n) past = ap (λ zs. (x, y) ∷ zs) (zip_whole xs ys n (omega (arith, past)))

-- the same of the lists of the code
pub columns_step : (before after : List (ℕ × List ℕ)) (levels path : List ℕ) (i column value : ℕ) (values : List ℕ) → i < length levels → i < length path → column ≡ get_or levels i column → value ≡ get_or path i value
    → values ≡ value ∷ [] → after ≡ before ++ (column, values) ∷ [] → before ≡ alone (zip (take i levels) (take i path)) → after ≡ alone (zip (take (i + 1) levels) (take (i + 1) path))
columns_step before after levels path i column value values in_levels in_path at_level at_value one added so_far =
    added ∙ ap (λ vs. before ++ (column, vs) ∷ []) one ∙ ap (λ cs. cs ++ (column, value ∷ []) ∷ []) so_far
    ∙ sym (columns_more levels path i column value in_levels in_path at_level at_value)

-- the last column
pub columns_all : (before after : List (ℕ × List ℕ)) (levels path shown front : List ℕ) (n column value : ℕ) (values : List ℕ) → min (length levels) (length path) ≡ n + 1 → shown ≡ path → front ≡ path → column ≡ get_or levels n column → value ≡ get_or shown n value
    → values ≡ value ∷ [] → after ≡ before ++ (column, values) ∷ [] → before ≡ alone (zip (take n levels) (take n front)) → after ≡ alone (zip levels path)
columns_all before after levels path shown front n column value values count is_shown is_front at_level at_value one added so_far =
    columns_step before after levels path n column value values (omega (arith, count)) (omega (arith, count)) at_level (at_value ∙ ap (λ p. get_or p n value) is_shown) one added
    (so_far ∙ ap (λ p. alone (zip (take n levels) (take n p))) is_front)
    ∙ ap alone (zip_whole levels path (n + 1) (omega (arith, count)))

-- no column where there is no level or no value
pub columns_none : (levels path : List ℕ) → min (length levels) (length path) ≡ 0 → [] ≡ alone (zip levels path)
columns_none levels path none = ap alone (zip_whole levels path 0 (omega (arith, none)))

-- ---- regions of members

-- a member names no measures
abbrev IsNoMeasure : Member → Type 0
IsNoMeasure m = named_measures m ≡ None

-- a level is of the measures, or of members that are none
level_measures : (catalog : Catalog) (cube : ℕ) (first : Member) → (list_any is_measures (dim_of catalog first ∷ []) ≡ true) ⊎ All IsNoMeasure (level_around catalog cube first)
level_measures catalog cube (member.Measure m) = inl refl
level_measures catalog cube (member.All h) = inr (by (all_text catalog h))
  where
    by : (o : Option (List ℕ)) → All IsNoMeasure (option_map_or (λ name. member.All h ∷ []) o [])
    by None = All-nil IsNoMeasure
    by (Some name) = All-cons IsNoMeasure (member.All h) [] refl (All-nil IsNoMeasure)
level_measures catalog cube (member.At h path) = inr (All-map IsNoMeasure (member.At h) _ (everywhere (λ p. IsNoMeasure (member.At h p)) (λ p. refl) _))

-- what holds of each member of a level holds of those between two places
pub between_all : (P : Member → Type 0) (first last : Option ℕ) (members : List Member) → All P members → All P (between first last members)
between_all P None last members all = All-nil P
between_all P (Some first) None members all = All-nil P
between_all P (Some first) (Some last) members all = All-drop P first (take (suc last) members) (All-take P (suc last) members all)

-- the region of some members of a level is one of the cube
pub range_own : (catalog : Catalog) (cube : ℕ) (first : Member) (level members : List Member) (from to : Option ℕ) → level ≡ level_around catalog cube first → All (IsMemberOf catalog cube) level → members ≡ between from to level → length members ≤ BOX_LIMIT
    → IsBoundedOf catalog cube (members_region catalog cube (dim_of catalog first) members)
range_own catalog cube first level members from to around own are few = record {
  of_cube = refl;
  bounded = record {
    limit = subst (λ n. n ≤ BOX_LIMIT) (sym (length_map_boxes members)) few;
    measures = by (level_measures catalog cube first);
  };
  boxes = boxes_own catalog cube members (All-same (IsMemberOf catalog cube) _ _ are (between_all (IsMemberOf catalog cube) from to level own));
}
  where
    length_map_boxes : (ms : List Member) → length (map (member_box catalog) ms) ≡ length ms
    length_map_boxes [] = refl
    length_map_boxes (m ∷ ms) = ap suc (length_map_boxes ms)

    by : (list_any is_measures (dim_of catalog first ∷ []) ≡ true) ⊎ All IsNoMeasure (level_around catalog cube first)
        → (list_any is_measures (dim_of catalog first ∷ []) ≡ true) ⊎ All NamesNone (map (member_box catalog) members)
    by (inl some) = inl some
    by (inr none) = inr (All-map NamesNone (member_box catalog) members (All-same IsNoMeasure _ _ are (between_all IsNoMeasure from to level (All-same IsNoMeasure _ _ around none))))

-- the region of a member is one of the cube
pub member_own : (catalog : Catalog) (cube : ℕ) (m : Member) → IsMemberOf catalog cube m → IsBoundedOf catalog cube (member_region catalog cube m)
member_own catalog cube m own = record {
  of_cube = refl;
  bounded = record { limit = omega arith; measures = by m };
  boxes = boxes_own catalog cube (m ∷ []) (All-cons (IsMemberOf catalog cube) m [] own (All-nil (IsMemberOf catalog cube)));
}
  where
    by : (x : Member) → (list_any is_measures (dim_of catalog x ∷ []) ≡ true) ⊎ All NamesNone (member_box catalog x ∷ [])
    by (member.Measure k) = inl refl
    by (member.All h) = inr (All-cons NamesNone (member_box catalog (member.All h)) [] refl (All-nil NamesNone))
    by (member.At h path) = inr (All-cons NamesNone (member_box catalog (member.At h path)) [] refl (All-nil NamesNone))

-- the same of its dimension and its box
pub member_made : (catalog : Catalog) (cube : ℕ) (m : Member) (dims : List RegionDim) (boxes : List RegionBox) → IsMemberOf catalog cube m → dims ≡ dim_of catalog m ∷ [] → boxes ≡ member_box catalog m ∷ [] → IsBoundedOf catalog cube (record { cube = cube; dims = dims; boxes = boxes })
member_made catalog cube m dims boxes own is_dims are_boxes =
    subst (λ (d : List RegionDim). IsBoundedOf catalog cube (record { cube = cube; dims = d; boxes = boxes })) (sym is_dims)
    (subst (λ (b : List RegionBox). IsBoundedOf catalog cube (record { cube = cube; dims = dim_of catalog m ∷ []; boxes = b })) (sym are_boxes) (member_own catalog cube m own))

-- the members from one place to another, first those up to the last
pub cut : (from to : ℕ) (members : List Member) → from ≤ to → to < length members → take (to + 1 - from) (drop from (take (to + 1) members) ++ take from (take (to + 1) members)) ≡ drop from (take (suc to) members)
cut from to members order within =
    let front = take (to + 1) members in
    let long : length front ≡ to + 1 = length-take-le (to + 1) members (omega (arith, within)) in
    let size : length (drop from front) ≡ to + 1 - from = length-drop from front ∙ ap (λ n. n - from) long in
    let same : to + 1 ≡ suc to = omega arith in
    ap (λ n. take n (drop from front ++ take from front)) (sym size)
    ∙ take-append_seam (drop from front) (take from front)
    ∙ ap (λ n. drop from (take n members)) same
