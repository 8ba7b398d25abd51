-- The hierarchies of a cube, their full names and those of their levels, from the parts that a catalog keeps.
use Rattle.std.specs.Prelude.{ℕ, List, [], ◌∷◌, ◌==◌, map, filter, slice_get, codes}
use Rattle.std.specs.List.{enumerate_from}
use Rattle.std.specs.Option.{option_map_or}
use Rattle.olap_meaning.specs.FullNames.{joined_name}
use Rattle.olap_meaning.specs.declared.schema.SchemaDimension.{SchemaDimension}
use Rattle.olap_meaning.specs.declared.tables.Hierarchy.{Hierarchy}
use Rattle.olap_meaning.specs.declared.tables.Column.{Column}
use Rattle.olap_meaning.specs.declared.tables.Cube.{Cube}

-- the hierarchies of a dimension among some, by their places
abbrev pub hierarchies_among : List Hierarchy → ℕ → List ℕ
hierarchies_among hierarchies dimension =
    map (λ h. h.0) (filter (λ h. h.1.dimension == dimension) (enumerate_from 0 hierarchies))

-- the full name of a hierarchy over some dimensions
abbrev pub full_name_in : List SchemaDimension → Hierarchy → List ℕ
full_name_in dimensions hierarchy =
    joined_name
    (option_map_or (λ d. d.name) (slice_get dimensions hierarchy.dimension) []) hierarchy.name

-- the names of a cube's measures
abbrev pub measure_names : Cube → List (List ℕ)
measure_names cube = map (λ measure. measure.name) cube.measures

-- the full name of a hierarchy by its place
abbrev pub name_at : List (List ℕ) → ℕ → List ℕ
name_at full_names h = option_map_or (λ name. name) (slice_get full_names h) []

-- what the first name of a path may be: Measures, or one of some hierarchies' full names
abbrev pub root_names_in : List (List ℕ) → List ℕ → List (List ℕ)
root_names_in full_names hierarchies = codes "Measures" ∷ map (name_at full_names) hierarchies

-- the name of a column by its place
abbrev pub column_name : List Column → ℕ → List ℕ
column_name columns column = option_map_or (λ c. c.name) (slice_get columns column) []

-- the names of a hierarchy's levels, from the top
abbrev pub level_names_in : List Column → Hierarchy → List (List ℕ)
level_names_in columns hierarchy = map (column_name columns) hierarchy.levels
