-- The members and levels of a catalog.
use Rattle.std.specs.Prelude.{ℕ, ◌≡◌, ◌<◌, true, false, List, [], ◌∷◌, Bool, ◌&&◌, length, nat_lt, slice_get}
use Rattle.std.specs.Option.{option_map_or, IsSome}
use Rattle.olap_meaning.specs.declared.tables.Catalog.{Catalog}
use Rattle.olap_meaning.specs.declared.cells.Member.{Member}
use Rattle.olap_meaning.specs.declared.cells.Member.TheVariants as member
use Rattle.olap_meaning.specs.declared.cells.LevelRef.{LevelRef}
use Rattle.olap_meaning.specs.declared.cells.LevelRef.TheVariants.{Measures, Whole, One}
use Rattle.olap_meaning.specs.Catalog.{all_text, values}

-- how many measures a cube has
abbrev pub measure_count : Catalog → ℕ → ℕ
measure_count catalog cube = option_map_or (λ c. length c.measures) (slice_get catalog.cubes cube) 0

-- the columns of a hierarchy's levels, from the top
abbrev pub level_columns : Catalog → ℕ → List ℕ
level_columns catalog h =
    option_map_or (λ hierarchy. hierarchy.levels) (slice_get catalog.hierarchies h) []

-- a path has no more values than there are levels, each a value of its level's column
abbrev pub is_path : Catalog → List ℕ → List ℕ → Bool
is_path catalog columns [] = true
is_path catalog [] (value ∷ path) = false
is_path catalog (column ∷ columns) (value ∷ path) =
    nat_lt value (length (values catalog column)) && is_path catalog columns path

-- a member is one that a catalog knows: a measure of the cube; or of any of its hierarchies the all member, where there is
-- one, or what a path leads to, each of whose values its level has, though no record need have them together
abbrev pub IsMemberOf : Catalog → ℕ → Member → Type 0
IsMemberOf catalog cube (member.Measure m) =
    (cube < length catalog.cubes) × (m < measure_count catalog cube)
IsMemberOf catalog cube (member.All h) =
    (h < length catalog.hierarchies) × IsSome (all_text catalog h)
IsMemberOf catalog cube (member.At h path) =
    (h < length catalog.hierarchies) × (is_path catalog (level_columns catalog h) path ≡ true)

-- some levels are ones that a catalog knows: the measures, all levels of a hierarchy, or one of them
abbrev pub IsLevelIn : Catalog → LevelRef → Type 0
IsLevelIn catalog Measures = Unit {0}
IsLevelIn catalog (Whole h) = h < length catalog.hierarchies
IsLevelIn catalog (One h level) =
    (h < length catalog.hierarchies) × (level < length (level_columns catalog h))
