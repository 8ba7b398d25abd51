-- Levels: how deep a path may be, and the members of a level.
use Rattle.std.proofs.Common.{◌≡◌, ◌∙◌, ◌+◌, ◌<◌, ◌≤◌, ◌++◌, ℕ, zero, suc, true, List, [], ◌∷◌, Option, None, Some, refl, sym, ap, arith, ◌==◌, flat_map, length, map, nat_lt, slice_get}
use Rattle.std.specs.List.{list_all}
use Rattle.std.specs.Option.{option_map_or}
use Rattle.std.proofs.lemmas.Bool.{and_from, and_parts, lt-ltb, ltb-true}
use Rattle.std.proofs.lemmas.List.Folds.{list_all-append}
use Rattle.std.proofs.lemmas.Option.{slice_get_within}
use Rattle.olap_catalog.specs.Parts.{has_levels, is_level}
use Rattle.olap_meaning.specs.declared.cells.Member.TheVariants as member
use Rattle.olap_meaning.specs.declared.tables.Catalog.{Catalog}
use Rattle.olap_meaning.specs.declared.tables.Column.{Column}
use Rattle.olap_meaning.specs.declared.tables.Hierarchy.{Hierarchy}
use Rattle.olap_meaning.specs.Catalog.{members_with, paths_at, values}
use Rattle.olap_meaning.specs.History.{is_some_and}
use Rattle.olap_meaning.specs.Legal.{rise}
use Rattle.olap_meaning.specs.MemberOf.{is_path, level_columns}
use Rattle.olap_meaning.proofs.Lists.{missing, passes_at}
use Rattle.olap_meaning.proofs.Orders.{rise_rest}

-- a path is no longer than its columns
pub path_within : (catalog : Catalog) (columns path : List ℕ) → is_path catalog columns path ≡ true → length path ≤ length columns
path_within catalog columns [] is = omega arith
path_within catalog [] (value ∷ path) is = absurd (cc is)
path_within catalog (column ∷ columns) (value ∷ path) is =
    let parts = and_parts (nat_lt value (length (values catalog column))) (is_path catalog columns path) is in
    omega (arith, path_within catalog columns path parts.1)

-- numbers that rise after another, all below a bound
rise_after : (n x : ℕ) (xs : List ℕ) → x < n → list_all (nat_lt x) xs ≡ true → rise xs ≡ true → list_all (λ y. nat_lt y n) xs ≡ true → length xs + suc x ≤ n
rise_after n x [] below above up all = omega arith
rise_after n x (y ∷ ys) below above up all =
    let over = ltb-true x y (and_parts (nat_lt x y) (list_all (nat_lt x) ys) above).0 in
    let later = and_parts (list_all (nat_lt y) ys) (rise ys) up in
    let under = and_parts (nat_lt y n) (list_all (λ z. nat_lt z n) ys) all in
    omega (arith, over, rise_after n y ys (ltb-true y n under.0) later.0 later.1 under.1)

-- numbers that rise below a bound are no more than the bound
rise_few : (n : ℕ) (xs : List ℕ) → rise xs ≡ true → list_all (λ y. nat_lt y n) xs ≡ true → length xs ≤ n
rise_few n [] up all = omega arith
rise_few n (x ∷ xs) up all =
    let later = and_parts (list_all (nat_lt x) xs) (rise xs) up in
    let under = and_parts (nat_lt x n) (list_all (λ z. nat_lt z n) xs) all in
    omega (arith, rise_after n x xs (ltb-true x n under.0) later.0 later.1 under.1)

rise_front : (xs ys : List ℕ) → rise (xs ++ ys) ≡ true → rise xs ≡ true
rise_front [] ys up = refl
rise_front (x ∷ xs) ys up =
    let parts = and_parts (list_all (nat_lt x) (xs ++ ys)) (rise (xs ++ ys)) up in
    let all = and_parts (list_all (nat_lt x) xs) (list_all (nat_lt x) ys) (sym (list_all-append (nat_lt x) xs ys) ∙ parts.0) in
    and_from _ _ all.0 (rise_front xs ys parts.1)

-- the levels of one hierarchy rise
levels_rise : (hierarchies : List Hierarchy) (h : ℕ) (hierarchy : Hierarchy) → rise (flat_map (λ x. x.levels) hierarchies) ≡ true → slice_get hierarchies h ≡ Some hierarchy → rise hierarchy.levels ≡ true
levels_rise [] h hierarchy up there = absurd (cc there)
levels_rise (x ∷ hierarchies) zero hierarchy up there =
    let same : x ≡ hierarchy = cc there in
    ap (λ (y : Hierarchy). rise y.levels) (sym same) ∙ rise_front x.levels (flat_map (λ (y : Hierarchy). y.levels) hierarchies) up
levels_rise (x ∷ hierarchies) (suc h) hierarchy up there = levels_rise hierarchies h hierarchy (rise_rest x.levels (flat_map (λ (y : Hierarchy). y.levels) hierarchies) up) there

-- a level is a column
level_within : (columns : List Column) (dimension c : ℕ) → is_level columns dimension c ≡ true → nat_lt c (length columns) ≡ true
level_within columns dimension c is = by (slice_get columns c) refl is
  where
    by : (o : Option Column) → slice_get columns c ≡ o → is_some_and (λ (column : Column). column.dimension == dimension) o ≡ true → nat_lt c (length columns) ≡ true
    by None there at = absurd (cc at)
    by (Some column) there at = lt-ltb c (length columns) (slice_get_within columns c column there)

levels_within : (columns : List Column) (dimension : ℕ) (levels : List ℕ) → list_all (is_level columns dimension) levels ≡ true → list_all (λ c. nat_lt c (length columns)) levels ≡ true
levels_within columns dimension [] all = refl
levels_within columns dimension (c ∷ levels) all =
    let parts = and_parts (is_level columns dimension c) (list_all (is_level columns dimension) levels) all in
    and_from _ _ (level_within columns dimension c parts.0) (levels_within columns dimension levels parts.1)

-- a path is no longer than there are columns
pub path_few : (catalog : Catalog) (h : ℕ) (path : List ℕ) → list_all (has_levels catalog.columns) catalog.hierarchies ≡ true → rise (flat_map (λ hierarchy. hierarchy.levels) catalog.hierarchies) ≡ true
    → is_path catalog (level_columns catalog h) path ≡ true → length path ≤ length catalog.columns
path_few catalog h path leveled up is = by (slice_get catalog.hierarchies h) refl
  where
    by : (o : Option Hierarchy) → slice_get catalog.hierarchies h ≡ o → length path ≤ length catalog.columns
    by None there =
        let none : level_columns catalog h ≡ [] = ap (λ o. option_map_or (λ (x : Hierarchy). x.levels) o []) there in
        omega (arith, path_within catalog (level_columns catalog h) path is, ap length none)
    by (Some hierarchy) there =
        let levels : level_columns catalog h ≡ hierarchy.levels = ap (λ o. option_map_or (λ (x : Hierarchy). x.levels) o []) there in
        let few = rise_few (length catalog.columns) hierarchy.levels (levels_rise catalog.hierarchies h hierarchy up there) (levels_within catalog.columns hierarchy.dimension hierarchy.levels (passes_at (has_levels catalog.columns) catalog.hierarchies h hierarchy leveled there)) in
        omega (arith, path_within catalog (level_columns catalog h) path is, ap length levels, few)

-- the one member of a hierarchy whose path is empty
pub empty_path : (catalog : Catalog) (h : ℕ) → h < length catalog.hierarchies → member.At h [] ∷ [] ≡ members_with catalog h (λ hierarchy. paths_at catalog hierarchy 0)
empty_path catalog h within = by (slice_get catalog.hierarchies h) refl
  where
    by : (o : Option Hierarchy) → slice_get catalog.hierarchies h ≡ o → member.At h [] ∷ [] ≡ map (member.At h) (option_map_or (λ hierarchy. paths_at catalog hierarchy 0) o [])
    by None there = absurd (missing catalog.hierarchies h within there)
    by (Some hierarchy) there = refl
