-- The names of a hierarchy's levels as they are kept, and that a root that was found is a level of the catalog.
use Rattle.std.proofs.Common.{All, ◌≡◌, ◌∙◌, ◌+◌, ◌<◌, ◌≤◌, ◌==◌, ◌++◌, ℕ, zero, suc, Bool, true, false, cond, List, [], ◌∷◌, Option, Some, None, refl, sym, ap, subst, map, filter, flat_map, option_map, option_and_then, slice_get, length, arith}
use Rattle.std.specs.List.{enumerate_from, AllByRecursion as Each}
use Rattle.std.specs.Option.{option_map_or}
use Rattle.std.proofs.lemmas.List.{length-map}
use Rattle.std.proofs.lemmas.List.Elements.{All-get_or}
use Rattle.std.proofs.lemmas.Option.{slice_get_within, slice_get-map, get_or_from_slice_get}
use Rattle.olap_meaning.specs.declared.schema.TheConstants.{LEVEL_LIMIT}
use Rattle.olap_meaning.specs.declared.tables.Cube.{Cube}
use Rattle.olap_meaning.specs.declared.tables.Hierarchy.{Hierarchy}
use Rattle.olap_meaning.specs.declared.tables.Catalog.{Catalog}
use Rattle.olap_meaning.specs.declared.cells.LevelRef.{LevelRef}
use Rattle.olap_meaning.specs.declared.cells.LevelRef.TheVariants.{Whole, One}
use Rattle.olap_meaning.specs.Catalog.{match_of, roots, root_name, hierarchies_in, hierarchies_of, find_root, level_names}
use Rattle.olap_meaning.specs.MemberOf.{IsLevelIn, level_columns}
use Rattle.olap_catalog.specs.Roots.{column_name, level_names_in}

-- the names of a hierarchy's levels, as they are kept
pub kept_levels : (catalog : Catalog) (names : List (List (List ℕ))) (h : ℕ) → names ≡ map (level_names_in catalog.columns) catalog.hierarchies → level_names catalog h ≡ option_map_or (λ ns. ns) (slice_get names h) []
kept_levels catalog names h are =
    by (slice_get catalog.hierarchies h) ∙ sym (ap (λ o. option_map_or (λ (ns : List (List ℕ)). ns) o []) (ap (λ ns. slice_get ns h) are ∙ slice_get-map (level_names_in catalog.columns) catalog.hierarchies h))
  where
    by : (o : Option Hierarchy) → option_map_or (level_names_in catalog.columns) o [] ≡ option_map_or (λ (ns : List (List ℕ)). ns) (option_map (level_names_in catalog.columns) o) []
    by None = refl
    by (Some x) = refl

-- a place among them is a level's
pub level_within : (catalog : Catalog) (h level : ℕ) → level < length (level_names catalog h) → IsLevelIn catalog (One h level)
level_within catalog h level within = by (slice_get catalog.hierarchies h) refl within
  where
    by : (o : Option Hierarchy) → slice_get catalog.hierarchies h ≡ o → level < length (option_map_or (level_names_in catalog.columns) o []) → IsLevelIn catalog (One h level)
    by None at w = absurd (omega (arith, w))
    by (Some x) at w =
        let long : length (level_names_in catalog.columns x) ≡ length x.levels = length-map x.levels (column_name catalog.columns) in
        let own : length (level_columns catalog h) ≡ length x.levels = ap (λ o. length (option_map_or (λ (y : Hierarchy). y.levels) o [])) at in
        (slice_get_within catalog.hierarchies h x at, omega (arith, long, own, w))

each_append : (P : ℕ → Type 0) (xs ys : List ℕ) → Each P xs → Each P ys → Each P (xs ++ ys)
each_append P [] ys each more = more
each_append P (x ∷ xs) ys each more = (each.0, each_append P xs ys each.1 more)

-- the hierarchies of a cube are the catalog's
hierarchies_own : (catalog : Catalog) (cube : ℕ) → Each (λ h. h < length catalog.hierarchies) (hierarchies_of catalog cube)
hierarchies_own catalog cube = by (slice_get catalog.cubes cube)
  where
    P : ℕ → Type 0
    P h = h < length catalog.hierarchies

    from : (d k : ℕ) (hs : List Hierarchy) → k + length hs ≤ length catalog.hierarchies → Each P (map (λ (h : ℕ × Hierarchy). h.0) (filter (λ (h : ℕ × Hierarchy). h.1.dimension == d) (enumerate_from k hs)))
    from d k [] within = tt
    from d k (x ∷ hs) within = one (x.dimension == d) (from d (k + 1) hs (omega arith))
      where
        rest : List (ℕ × Hierarchy)
        rest = filter (λ (h : ℕ × Hierarchy). h.1.dimension == d) (enumerate_from (k + 1) hs)

        one : (b : Bool) → Each P (map (λ (h : ℕ × Hierarchy). h.0) rest) → Each P (map (λ (h : ℕ × Hierarchy). h.0) (cond b ((k, x) ∷ rest) rest))
        one true more = (omega arith, more)
        one false more = more

    all : (ds : List ℕ) → Each P (flat_map (hierarchies_in catalog) ds)
    all [] = tt
    all (d ∷ ds) = each_append P (hierarchies_in catalog d) (flat_map (hierarchies_in catalog) ds) (from d 0 catalog.hierarchies (omega arith)) (all ds)

    by : (o : Option Cube) → Each P (option_map_or (λ (c : Cube). flat_map (hierarchies_in catalog) c.dimensions) o [])
    by None = tt
    by (Some c) = all c.dimensions

root_own : (catalog : Catalog) (cube : ℕ) (name : List ℕ) (root : LevelRef) → find_root catalog cube name ≡ Some root → IsLevelIn catalog root
root_own catalog cube name root is = by (match_of name (map (root_name catalog) (roots catalog cube))) is
  where
    whole : (hs : List ℕ) → Each (λ h. h < length catalog.hierarchies) hs → Each (IsLevelIn catalog) (map Whole hs)
    whole [] each = tt
    whole (h ∷ hs) each = (each.0, whole hs each.1)

    at : (xs : List LevelRef) (i : ℕ) → Each (IsLevelIn catalog) xs → slice_get xs i ≡ Some root → IsLevelIn catalog root
    at [] i each e = absurd (cc e)
    at (x ∷ xs) zero each e = let same : x ≡ root = cc e in subst (IsLevelIn catalog) same each.0
    at (x ∷ xs) (suc i) each e = at xs i each.1 e

    by : (o : Option ℕ) → option_and_then (slice_get (roots catalog cube)) o ≡ Some root → IsLevelIn catalog root
    by None e = absurd (cc e)
    by (Some i) e = at (roots catalog cube) i (tt, whole (hierarchies_of catalog cube) (hierarchies_own catalog cube)) e

-- a root that was found is a level of the catalog
pub roots_own : (catalog : Catalog) (cube : ℕ) (name : List ℕ) (found : Option LevelRef) (root : LevelRef) → found ≡ find_root catalog cube name → found ≡ Some root → IsLevelIn catalog root
roots_own catalog cube name found root is some = root_own catalog cube name root (sym is ∙ some)

-- where no names are kept no level has a name
pub none_kept : (catalog : Catalog) (names : List (List (List ℕ))) (h : ℕ) (name : List ℕ) → names ≡ map (level_names_in catalog.columns) catalog.hierarchies → slice_get names h ≡ None → None ≡ match_of name (level_names catalog h)
none_kept catalog names h name are none = sym (ap (match_of name) (kept_levels catalog names h are ∙ ap (λ o. option_map_or (λ (ns : List (List ℕ)). ns) o []) none))

-- the names that are kept
pub some_kept : (catalog : Catalog) (names : List (List (List ℕ))) (h : ℕ) (own : List (List ℕ)) → names ≡ map (level_names_in catalog.columns) catalog.hierarchies → slice_get names h ≡ Some own → own ≡ level_names catalog h
some_kept catalog names h own are some = sym (kept_levels catalog names h are ∙ ap (λ o. option_map_or (λ (ns : List (List ℕ)). ns) o []) some)

-- a hierarchy's level has a small number
pub level_small : (catalog : Catalog) (h level : ℕ) → All (λ (x : Hierarchy). length x.levels ≤ LEVEL_LIMIT) catalog.hierarchies → IsLevelIn catalog (One h level) → level < LEVEL_LIMIT
level_small catalog h level few own = by (slice_get catalog.hierarchies h) refl own.1
  where
    by : (o : Option Hierarchy) → slice_get catalog.hierarchies h ≡ o → level < length (option_map_or (λ (x : Hierarchy). x.levels) o []) → level < LEVEL_LIMIT
    by None at within = absurd (omega (arith, within))
    by (Some x) at within =
        let one = All-get_or (λ (y : Hierarchy). length y.levels ≤ LEVEL_LIMIT) catalog.hierarchies h x (slice_get_within catalog.hierarchies h x at) few in
        let long = ap (λ (y : Hierarchy). length y.levels) (get_or_from_slice_get catalog.hierarchies h x x at) in
        omega (arith, within, one, long)
