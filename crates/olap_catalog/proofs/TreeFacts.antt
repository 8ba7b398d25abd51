-- The trees of a catalog's members: the paths of a hierarchy's leaves and the measures of a cube, number by number.
use Rattle.std.proofs.Common.{◌≡◌, ◌∙◌, ◌+◌, ◌≤◌, ℕ, List, [], ◌∷◌, Option, Some, None, true, refl, sym, ap, map, option_map, slice_get, length, arith}
use Rattle.std.specs.List.{enumerate_from, range_with_len, list_all}
use Rattle.std.specs.Option.{option_map_or}
use Rattle.std.proofs.lemmas.Bool.Decides.{nat_tests}
use Rattle.std.proofs.lemmas.List.FromFn.{length-map-range_with_len}
use Rattle.olap_meaning.specs.declared.tables.Cube.{Cube}
use Rattle.olap_meaning.specs.declared.tables.Measure.{Measure}
use Rattle.olap_meaning.specs.declared.tables.Hierarchy.{Hierarchy}
use Rattle.olap_meaning.specs.declared.tables.Catalog.{Catalog}
use Rattle.olap_meaning.specs.declared.schema.TheConstants.{MEASURE_LIMIT}
use Rattle.olap_meaning.specs.declared.cells.Member.TheVariants as member
use Rattle.olap_meaning.specs.Catalog.{records, path_of, paths, members_with, measure_members}
use Rattle.olap_meaning.proofs.Lists.{passes_at}
use Rattle.member_trees.specs.Trees.{TreeOf}
use Rattle.olap_catalog.specs.Parts.{tree_of, has_few_measures}

by_number : {A B : Type 0} (f : ℕ → B) (k : ℕ) (xs : List A) → map f (range_with_len k (length xs)) ≡ map (λ (x : ℕ × A). f x.0) (enumerate_from k xs)
by_number f k [] = refl
by_number f k (x ∷ xs) = ap (λ ys. f k ∷ ys) (by_number f (k + 1) xs)

-- the measures of a cube, by their numbers
pub measures_by_number : (catalog : Catalog) (cube count : ℕ) (own : Cube) → slice_get catalog.cubes cube ≡ Some own → count ≡ length own.measures → map member.Measure (range_with_len 0 count) ≡ measure_members catalog cube
measures_by_number catalog cube count own at is =
    ap (λ n. map member.Measure (range_with_len 0 n)) is ∙ by_number member.Measure 0 own.measures
    ∙ sym (ap (λ o. map (λ (m : ℕ × Measure). member.Measure m.0) (enumerate_from 0 (option_map_or (λ (c : Cube). c.measures) o []))) at)

-- and how many they are
pub measures_counted : (catalog : Catalog) (cube : ℕ) (own : Cube) → slice_get catalog.cubes cube ≡ Some own → length own.measures ≡ length (measure_members catalog cube)
measures_counted catalog cube own at = sym (length-map-range_with_len member.Measure 0 (length own.measures)) ∙ ap length (measures_by_number catalog cube (length own.measures) own at refl)

-- they are few
pub measures_few : (catalog : Catalog) (cube : ℕ) (own : Cube) → slice_get catalog.cubes cube ≡ Some own → list_all has_few_measures catalog.cubes ≡ true → length own.measures ≤ MEASURE_LIMIT
measures_few catalog cube own at few = let e = passes_at has_few_measures catalog.cubes cube own few at in grind (arith, nat_tests)

-- the paths of a hierarchy are those of its leaves' numbers
pub paths_by_number : (catalog : Catalog) (hierarchy : Hierarchy) (count : ℕ) → count ≡ length (records catalog hierarchy.dimension) → map (path_of catalog hierarchy) (range_with_len 0 count) ≡ paths catalog hierarchy
paths_by_number catalog hierarchy count is = ap (λ n. map (path_of catalog hierarchy) (range_with_len 0 n)) is ∙ by_number (path_of catalog hierarchy) 0 (records catalog hierarchy.dimension)

-- the members of a hierarchy by its tree
pub with_tree : (catalog : Catalog) (h : ℕ) (tree : TreeOf) (paths_in : Hierarchy → List (List ℕ)) (in_tree : TreeOf → List (List ℕ)) → Some tree ≡ option_map (tree_of catalog) (slice_get catalog.hierarchies h)
    → ((x : Hierarchy) → in_tree (tree_of catalog x) ≡ paths_in x) → map (member.At h) (in_tree tree) ≡ members_with catalog h paths_in
with_tree catalog h tree paths_in in_tree is same = by (slice_get catalog.hierarchies h) is
  where
    by : (o : Option Hierarchy) → Some tree ≡ option_map (tree_of catalog) o → map (member.At h) (in_tree tree) ≡ map (member.At h) (option_map_or paths_in o [])
    by None e = absurd (cc e)
    by (Some x) e = let own : tree ≡ tree_of catalog x = cc e in ap (λ t. map (member.At h) (in_tree t)) own ∙ ap (map (member.At h)) (same x)
