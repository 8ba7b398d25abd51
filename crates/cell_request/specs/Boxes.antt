-- The boxes of the hierarchies of a cube.
use Rattle.std.specs.Prelude.{ℕ, ◌≡◌, ◌&&◌, true, false, List, Bool, length, nat_lt, slice_get, take}
use Rattle.std.specs.List.{zip}
use Rattle.std.specs.Option.{option_map_or}
use Rattle.olap_meaning.specs.MemberOf.{is_path, level_columns}
use Rattle.olap_meaning.specs.declared.tables.Catalog.{Catalog}
use Rattle.olap_meaning.specs.declared.tables.Hierarchy.{Hierarchy}
use Rattle.olap_meaning.specs.Covering.{among}
use Rattle.olap_meaning.specs.History.{is_some_and}
use Rattle.olap_meaning.specs.Legal.{is_column_of, is_value}
use Rattle.cell_request.specs.declared.defaults.DefaultBox.{DefaultBox}

-- a hierarchy is of a dimension of a cube
abbrev pub is_within : Catalog → ℕ → Hierarchy → Bool
is_within catalog cube hierarchy =
    option_map_or (λ c. among c.dimensions hierarchy.dimension) (slice_get catalog.cubes cube) false

-- a column and a value are a catalog's, and the column is of a dimension of a cube
abbrev pub is_own : Catalog → ℕ → ℕ × ℕ → Bool
is_own catalog cube pair =
    nat_lt pair.0 (length catalog.columns) && is_value catalog pair.0 pair.1
    && is_some_and (λ c. is_column_of catalog c.dimensions pair.0) (slice_get catalog.cubes cube)

-- some pairs are the box of a hierarchy: its first columns with the values of a path
abbrev pub IsBoxOf : Catalog → ℕ → List (ℕ × ℕ) → Type 0
IsBoxOf catalog h pairs =
    (path : List ℕ) × (pairs ≡ zip (level_columns catalog h) path)
    × (is_path catalog (level_columns catalog h) path ≡ true)

-- the kept box of a hierarchy is one of it
abbrev pub HasOwnBox : Catalog → DefaultBox → Type 0
HasOwnBox catalog kept = IsBoxOf catalog kept.hierarchy kept.pairs

-- some numbers are the first of others
abbrev pub IsFront : List ℕ → List ℕ → Type 0
IsFront front whole = (n : ℕ) × (front ≡ take n whole)
