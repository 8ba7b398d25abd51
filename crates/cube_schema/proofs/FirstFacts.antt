-- Levels that are kept once: one level more, and what holds of each.
use Rattle.std.proofs.Common.{◌≡◌, List, [], ◌∷◌, ◌++◌, Bool, true, false, refl}
use Rattle.std.proofs.lemmas.List.Elements.{All-head, All-push, All-tail}
use Rattle.std.specs.Prelude.{if◌then◌else◌}
use Rattle.std.specs.List.{All, list_any}
use Rattle.olap_meaning.specs.declared.schema.AggregateLevel.{AggregateLevel}
use Rattle.cube_schema.specs.Aggregates.{first_levels, is_same_level, with_level}

-- one level more
pub first_levels_more : (kept levels : List AggregateLevel) (level : AggregateLevel) → first_levels kept (levels ++ level ∷ []) ≡ with_level (first_levels kept levels) level
first_levels_more kept [] level = refl
first_levels_more kept (x ∷ xs) level = first_levels_more (with_level kept x) xs level

with_level_all : (P : AggregateLevel → Type 0) (kept : List AggregateLevel) (level : AggregateLevel) → All P kept → P level → All P (with_level kept level)
with_level_all P kept level all one = by (list_any (is_same_level level) kept)
  where
    by : (b : Bool) → All P (if b then kept else kept ++ level ∷ [])
    by true = all
    by false = All-push P kept level all one

-- what holds of each level holds of each that is kept
pub first_levels_all : (P : AggregateLevel → Type 0) (kept levels : List AggregateLevel) → All P kept → All P levels → All P (first_levels kept levels)
first_levels_all P kept [] before all = before
first_levels_all P kept (x ∷ xs) before all = first_levels_all P (with_level kept x) xs (with_level_all P kept x before (All-head P x xs all)) (All-tail P x xs all)
