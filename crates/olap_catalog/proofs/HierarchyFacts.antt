-- What a catalog's parts say of its hierarchies.
use Rattle.std.proofs.Common.{◌≡◌, ◌∙◌, ℕ, true, Some, ap, slice_get, length, nat_lt, nat_eq, arith}
use Rattle.std.proofs.lemmas.Bool.{and_parts}
use Rattle.std.specs.List.{list_all}
use Rattle.std.specs.Option.{option_map_or}
use Rattle.std.proofs.lemmas.Bool.Decides.{nat_tests}
use Rattle.std.proofs.lemmas.Option.{slice_get_within}
use Rattle.olap_meaning.specs.declared.tables.Column.{Column}
use Rattle.olap_meaning.specs.declared.tables.Hierarchy.{Hierarchy}
use Rattle.olap_meaning.specs.declared.tables.Catalog.{Catalog}
use Rattle.olap_meaning.specs.Catalog.{records}
use Rattle.olap_meaning.proofs.Loads.{some_and}
use Rattle.olap_meaning.proofs.Lists.{all_weaker, passes_at}
use Rattle.olap_catalog.specs.Parts.{is_level, has_levels}
use Rattle.olap_catalog.specs.Columns.{column_leaves}
use Rattle.olap_catalog.specs.Members.{is_there, HasLevels}
use Rattle.olap_catalog.proofs.PartFacts.{both}

-- each level of a hierarchy has a value for each leaf
pub levels_hold : (catalog : Catalog) (hierarchy : Hierarchy) → has_levels catalog.columns hierarchy ≡ true → HasLevels catalog hierarchy
levels_hold catalog hierarchy own leaf within =
    all_weaker (is_level catalog.columns hierarchy.dimension) (is_there catalog leaf) hierarchy.levels there own
  where
    same : (a b : ℕ) → nat_eq a b ≡ true → a ≡ b
    same a b e = grind (arith, nat_tests)

    leaf_lt : (n : ℕ) → n ≡ length (records catalog hierarchy.dimension) → nat_lt leaf n ≡ true
    leaf_lt n e = grind (arith, nat_tests)

    there : (c : ℕ) → is_level catalog.columns hierarchy.dimension c ≡ true → is_there catalog leaf c ≡ true
    there c is =
        let at : (x : Column) × (slice_get catalog.columns c ≡ Some x) × (nat_eq x.dimension hierarchy.dimension ≡ true) = some_and (λ (x : Column). nat_eq x.dimension hierarchy.dimension) (slice_get catalog.columns c) is in
        let inside = slice_get_within catalog.columns c at.0 at.1 in
        let count : column_leaves catalog c ≡ length (records catalog hierarchy.dimension) =
        ap (λ o. option_map_or (λ (x : Column). length (records catalog x.dimension)) o 0) at.1 ∙ ap (λ d. length (records catalog d)) (same at.0.dimension hierarchy.dimension at.2) in
        both _ _ true true (grind (arith, nat_tests)) (leaf_lt (column_leaves catalog c) count)

pub levels_there : (catalog : Catalog) (h : ℕ) (hierarchy : Hierarchy) → list_all (has_levels catalog.columns) catalog.hierarchies ≡ true → slice_get catalog.hierarchies h ≡ Some hierarchy → HasLevels catalog hierarchy
levels_there catalog h hierarchy all at = levels_hold catalog hierarchy (passes_at (has_levels catalog.columns) catalog.hierarchies h hierarchy all at)
