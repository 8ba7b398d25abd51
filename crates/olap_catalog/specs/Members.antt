-- The children of a path, by their values in the level below it.
use Rattle.std.specs.Prelude.{ℕ, ◌≡◌, ◌<◌, true, List, [], ◌∷◌, ◌++◌, Bool, ◌&&◌, Option, Some, None, Result, Ok, Err, length, map, option_map, option_and_then, slice_get, nat_lt, unwrap_or, if◌then◌else◌}
use Rattle.std.specs.List.{list_all, find}
use Rattle.std.specs.Option.{option_or, option_map_or}
use Rattle.olap_meaning.specs.declared.tables.Hierarchy.{Hierarchy}
use Rattle.olap_meaning.specs.declared.tables.Catalog.{Catalog}
use Rattle.olap_meaning.specs.declared.cells.Member.{Member}
use Rattle.olap_meaning.specs.declared.cells.Member.TheVariants as member
use Rattle.olap_meaning.specs.History.{is_some_and}
use Rattle.olap_meaning.specs.Catalog.{values, records, all_text, all_member, members_with, paths_below, member_of, member_from}
use Rattle.olap_meaning.specs.declared.cells.LevelRef.{LevelRef}
use Rattle.member_trees.specs.Nodes.{last_value}
use Rattle.olap_catalog.specs.declared.members.Below.{Below}
use Rattle.olap_catalog.specs.declared.fault.NameFault.{NameFault}
use Rattle.olap_catalog.specs.declared.fault.NameFault.TheVariants.{UnknownMember}
use Rattle.olap_catalog.specs.Columns.{column_leaves}

-- a column of a catalog has a value for a leaf
abbrev pub is_there : Catalog → ℕ → ℕ → Bool
is_there catalog leaf column =
    nat_lt column (length catalog.columns) && nat_lt leaf (column_leaves catalog column)

-- each level of a hierarchy has a value for each leaf of its dimension
abbrev pub HasLevels : Catalog → Hierarchy → Type 0
HasLevels catalog hierarchy =
    (leaf : ℕ) → leaf < length (records catalog hierarchy.dimension)
    → list_all (is_there catalog leaf) hierarchy.levels ≡ true

-- the values of a path's children in a hierarchy, by its place
abbrev pub child_values : Catalog → ℕ → List ℕ → List ℕ
child_values catalog h path =
    option_map_or
    (λ hierarchy. map last_value (paths_below catalog hierarchy path))
    (slice_get catalog.hierarchies h) []

-- the name of a path's child
abbrev pub child_text : Catalog → ℕ → List ℕ → ℕ → List ℕ
child_text catalog h path value =
    unwrap_or
    (option_and_then
    (λ hierarchy. option_and_then
    (λ column. slice_get (values catalog column) value)
    (slice_get hierarchy.levels (length path))) (slice_get catalog.hierarchies h)) []

-- the all member, where it is asked for and its name passes a test
abbrev pub all_by : (List ℕ → Bool) → Catalog → ℕ → Bool → Option Below
all_by test catalog h with_all =
    if with_all && is_some_and test (all_text catalog h) then Some Below.All else None

-- the first of the all member, where it is asked for, and a path's children, whose name passes a test
abbrev pub below_by : (List ℕ → Bool) → Catalog → ℕ → Bool → List ℕ → Option Below
below_by test catalog h with_all path =
    option_or (all_by test catalog h with_all)
    (option_map Below.Child
    (find (λ value. test (child_text catalog h path value)) (child_values catalog h path)))

-- and the members that these are
abbrev pub members_below : Catalog → ℕ → Bool → List ℕ → List Member
members_below catalog h with_all path =
    (if with_all then all_member catalog h else [])
    ++ members_with catalog h (λ hierarchy. paths_below catalog hierarchy path)

-- the member of a path: the all member where it is empty
abbrev pub spot : ℕ → List ℕ → Member
spot h [] = member.All h
spot h (value ∷ values) = member.At h (value ∷ values)

-- the path that goes on to a member below it
abbrev pub onward : List ℕ → Below → List ℕ
onward path Below.All = path
onward path (Below.Child value) = path ++ value ∷ []

-- what was found, or the fault of a name without a match
abbrev pub or_fault : {A : Type 0} → Result A (List ℕ) → Result A NameFault
or_fault (Ok found) = Ok found
or_fault (Err name) = Err (UnknownMember name)

-- the member that a path of names means in a cube, or the fault of the first name without a match
abbrev pub member_or_fault : Catalog → ℕ → List (List ℕ) → Result Member NameFault
member_or_fault catalog cube path = or_fault (member_of catalog cube path)

-- the member that a path means whose first name is a root, or the fault of the first name without a match
abbrev pub from_root_or_fault : Catalog → ℕ → LevelRef → List (List ℕ) → Result Member NameFault
from_root_or_fault catalog cube root [] = Err (UnknownMember [])
from_root_or_fault catalog cube root (name ∷ names) =
    or_fault (member_from catalog cube name names (Some root))
