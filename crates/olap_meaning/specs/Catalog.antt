-- Schemas over dimension tables: columns, their values, members, names. (Schema Guide)
use Rattle.std.specs.Prelude.{Result, Ok, Err, ok_or, ℕ, zero, suc, false, List, [], ◌∷◌, ◌++◌, not, ◌==◌, Option, Some, None, length, take, map, flat_map, filter, filter_map, position, option_and_then, slice_get, nat_eq, bytes_eq, unwrap_or, codes}
use Rattle.std.specs.List.{starts_with, enumerate_from, list_any, zip}
use Rattle.std.specs.Str.{str_to_ascii_lowercase}
use Rattle.std.specs.Option.{option_or, option_map_or}
use Rattle.olap_meaning.specs.FullNames.{joined_name}
use Rattle.olap_meaning.specs.declared.tables.Record.{Record}
use Rattle.olap_meaning.specs.declared.tables.Hierarchy.{Hierarchy}
use Rattle.olap_meaning.specs.declared.tables.Cube.{Cube}
use Rattle.olap_meaning.specs.declared.tables.Catalog.{Catalog}
use Rattle.olap_meaning.specs.declared.cells.Member.{Member}
use Rattle.olap_meaning.specs.declared.cells.Member.TheVariants as member
use Rattle.olap_meaning.specs.declared.cells.LevelRef.{LevelRef}
use Rattle.olap_meaning.specs.declared.cells.LevelRef.TheVariants.{Measures, Whole, One}

-- each text once, by first appearance
abbrev pub first_appearances : List (List ℕ) → List (List ℕ)
first_appearances [] = []
first_appearances (text ∷ texts) =
    text ∷ filter (λ other. not (bytes_eq text other)) (first_appearances texts)

-- the records of a dimension's table
abbrev pub records : Catalog → ℕ → List Record
records catalog dimension =
    option_map_or (λ d. d.records) (slice_get catalog.dimensions dimension) []

-- the texts of one field, record by record
abbrev pub field_texts : ℕ → List Record → List (List ℕ)
field_texts field rs = filter_map (λ r. slice_get r.fields field) rs

-- the values of a column, numbered from 0 by first appearance
abbrev pub values : Catalog → ℕ → List (List ℕ)
values catalog column =
    option_map_or
    (λ c. first_appearances (field_texts c.field (records catalog c.dimension)))
    (slice_get catalog.columns column) []

-- the number of a value, by its text
abbrev pub value_number : Catalog → ℕ → List ℕ → Option ℕ
value_number catalog column text = position (bytes_eq text) (values catalog column)

-- the text of a leaf in a column: the field of its record; a leaf is the number of one record
abbrev pub leaf_text : Catalog → ℕ → ℕ → Option (List ℕ)
leaf_text catalog column leaf =
    option_and_then
    (λ c. option_and_then
    (λ r. slice_get r.fields c.field) (slice_get (records catalog c.dimension) leaf))
    (slice_get catalog.columns column)

-- the value of a leaf in a column
abbrev pub leaf_value : Catalog → ℕ → ℕ → Option ℕ
leaf_value catalog column leaf =
    option_and_then (value_number catalog column) (leaf_text catalog column leaf)

-- the fact columns of a cube: those that its measures name, each once, in the order of the measures
abbrev pub fact_columns : Cube → List (List ℕ)
fact_columns cube = first_appearances (map (λ measure. measure.column) cube.measures)

-- the path of a leaf in a hierarchy: its values in the levels, from the top
abbrev pub path_of : Catalog → Hierarchy → ℕ → List ℕ
path_of catalog hierarchy leaf =
    filter_map (λ column. leaf_value catalog column leaf) hierarchy.levels

-- the paths of all leaves, in the order of the table
abbrev pub paths : Catalog → Hierarchy → List (List ℕ)
paths catalog hierarchy =
    map
    (λ leaf. path_of catalog hierarchy leaf.0)
    (enumerate_from 0 (records catalog hierarchy.dimension))

-- the paths one level below a path, among the paths of leaves: those that go on from it, cut there, each once by first
-- appearance
abbrev pub below : List (List ℕ) → List ℕ → List (List ℕ)
below leaves path =
    let depth = suc (length path) in
    first_appearances
    (filter
    (λ cut. length cut == depth)
    (map (take depth) (filter (λ leaf. starts_with nat_eq leaf path) leaves)))

-- the paths of a depth in hierarchical order: those below each path of the depth above, in turn
abbrev pub at_depth : List (List ℕ) → ℕ → List (List ℕ)
at_depth leaves zero = [] ∷ []
at_depth leaves (suc depth) = flat_map (below leaves) (at_depth leaves depth)

-- the paths of some levels below a path in hierarchical order: each before those below it, and those before its next
-- sibling
abbrev pub under : List (List ℕ) → ℕ → List ℕ → List (List ℕ)
under leaves zero path = []
under leaves (suc levels) path =
    flat_map (λ next. next ∷ under leaves levels next) (below leaves path)

-- the same of a hierarchy
abbrev pub paths_below : Catalog → Hierarchy → List ℕ → List (List ℕ)
paths_below catalog hierarchy path = below (paths catalog hierarchy) path

abbrev pub paths_at : Catalog → Hierarchy → ℕ → List (List ℕ)
paths_at catalog hierarchy depth = at_depth (paths catalog hierarchy) depth

abbrev pub paths_under : Catalog → Hierarchy → ℕ → List ℕ → List (List ℕ)
paths_under catalog hierarchy levels path = under (paths catalog hierarchy) levels path

-- the name of a hierarchy's all member, where it has one
abbrev pub all_text : Catalog → ℕ → Option (List ℕ)
all_text catalog h =
    option_and_then (λ hierarchy. hierarchy.all_member) (slice_get catalog.hierarchies h)

-- the all member of a hierarchy, where it has one (Schema Guide, "The 'all' member")
abbrev pub all_member : Catalog → ℕ → List Member
all_member catalog h =
    option_map_or
    (λ name. member.All h ∷ [])
    (option_and_then (λ hierarchy. hierarchy.all_member) (slice_get catalog.hierarchies h)) []

-- the members of a hierarchy with some paths
abbrev pub members_with : Catalog → ℕ → (Hierarchy → List (List ℕ)) → List Member
members_with catalog h paths_in =
    map (member.At h) (option_map_or paths_in (slice_get catalog.hierarchies h) [])

-- the children of a member: none of a measure; of the all member those of the first level; else those one level
-- below; by first appearance
abbrev pub children : Catalog → Member → List Member
children catalog (member.Measure m) = []
children catalog (member.All h) =
    members_with catalog h (λ hierarchy. paths_below catalog hierarchy [])
children catalog (member.At h path) =
    members_with catalog h (λ hierarchy. paths_below catalog hierarchy path)

-- the measures of a cube, as members
abbrev pub measure_members : Catalog → ℕ → List Member
measure_members catalog cube =
    map
    (λ m. member.Measure m.0)
    (enumerate_from 0 (option_map_or (λ c. c.measures) (slice_get catalog.cubes cube) []))

-- the members of some levels of a cube in hierarchical order: the measures; or the all member and all others; or
-- those of one level
abbrev pub level_members : Catalog → ℕ → LevelRef → List Member
level_members catalog cube Measures = measure_members catalog cube
level_members catalog cube (Whole h) =
    all_member catalog h
    ++ members_with catalog h
    (λ hierarchy. paths_under catalog hierarchy (length hierarchy.levels) [])
level_members catalog cube (One h level) =
    members_with catalog h (λ hierarchy. paths_at catalog hierarchy (suc level))

-- the box of a member: the hierarchy's first columns with the values of its path; empty for a measure and for the all
-- member
abbrev pub box : Catalog → Member → List (ℕ × ℕ)
box catalog (member.Measure m) = []
box catalog (member.All h) = []
box catalog (member.At h path) =
    option_map_or (λ hierarchy. zip hierarchy.levels path) (slice_get catalog.hierarchies h) []

-- the place of a name in a list: of its first exact match, or else of the first that differs in the case of ASCII
-- letters alone
abbrev pub match_of : List ℕ → List (List ℕ) → Option ℕ
match_of name names =
    option_or (position (bytes_eq name) names)
    (position
    (λ other. bytes_eq (str_to_ascii_lowercase name) (str_to_ascii_lowercase other)) names)

-- the name of a member: a measure's, the all member's, or the text of the path's last value
abbrev pub member_name : Catalog → ℕ → Member → List ℕ
member_name catalog cube (member.Measure m) =
    option_map_or
    (λ measure. measure.name)
    (option_and_then (λ c. slice_get c.measures m) (slice_get catalog.cubes cube)) []
member_name catalog cube (member.All h) =
    unwrap_or
    (option_and_then (λ hierarchy. hierarchy.all_member) (slice_get catalog.hierarchies h)) []
member_name catalog cube (member.At h []) = []
member_name catalog cube (member.At h (value ∷ rest)) =
    unwrap_or
    (option_and_then
    (λ hierarchy. option_and_then
    (λ column. option_and_then (slice_get (values catalog column))
    (slice_get (value ∷ rest) (length rest))) (slice_get hierarchy.levels (length rest)))
    (slice_get catalog.hierarchies h))
    []

-- the cube that a name means
abbrev pub find_cube : Catalog → List ℕ → Option ℕ
find_cube catalog name = match_of name (map (λ cube. cube.name) catalog.cubes)

-- the aggregate table that a name means
abbrev pub find_agg : Catalog → List ℕ → Option ℕ
find_agg catalog name =
    match_of name (map (λ table. table.name) catalog.schema.aggregates)

-- the cube of an aggregate table, by the table's place in the schema
abbrev pub table_cube : Catalog → ℕ → Option ℕ
table_cube catalog table =
    option_and_then
    (λ declared. position (λ cube. bytes_eq declared.cube cube.name) catalog.cubes)
    (slice_get catalog.schema.aggregates table)

-- the leaf with exactly this primary key
abbrev pub find_leaf : Catalog → ℕ → List ℕ → Option ℕ
find_leaf catalog dimension key =
    position (λ leaf. bytes_eq key leaf.key) (records catalog dimension)

-- the full name of a hierarchy: its own where that is its dimension's, else the dimension's name, a dot, and its own
abbrev pub full_name : Catalog → Hierarchy → List ℕ
full_name catalog hierarchy =
    joined_name
    (option_map_or
    (λ d. d.name) (slice_get catalog.dimensions hierarchy.dimension) []) hierarchy.name

-- the hierarchies of a dimension, in the schema's order
abbrev pub hierarchies_in : Catalog → ℕ → List ℕ
hierarchies_in catalog dimension =
    map (λ h. h.0) (filter (λ h. h.1.dimension == dimension) (enumerate_from 0 catalog.hierarchies))

-- the hierarchies of a cube: those of its dimensions, in the order of its uses, and those of one dimension in the
-- schema's order
abbrev pub hierarchies_of : Catalog → ℕ → List ℕ
hierarchies_of catalog cube =
    option_map_or
    (λ c. flat_map (hierarchies_in catalog) c.dimensions) (slice_get catalog.cubes cube) []

-- the same hierarchies, all in the schema's order
abbrev pub hierarchies_within : Catalog → ℕ → List ℕ
hierarchies_within catalog cube =
    map
    (λ h. h.0)
    (filter
    (λ h. option_map_or
    (λ c. list_any (λ d. d == h.1.dimension) c.dimensions) (slice_get catalog.cubes cube) false)
    (enumerate_from 0 catalog.hierarchies))

-- what the first name of a path may mean: the measures, or a hierarchy of the cube
abbrev pub roots : Catalog → ℕ → List LevelRef
roots catalog cube = Measures ∷ map Whole (hierarchies_of catalog cube)

-- the name of such a root: Measures, or the hierarchy's full name
abbrev pub root_name : Catalog → LevelRef → List ℕ
root_name catalog Measures = codes "Measures"
root_name catalog (Whole h) = option_map_or (full_name catalog) (slice_get catalog.hierarchies h) []
root_name catalog (One h level) =
    option_map_or (full_name catalog) (slice_get catalog.hierarchies h) []

-- the first members of a root: the measures; or the all member, where there is one, and then the first level's
abbrev pub first_members : Catalog → ℕ → LevelRef → List Member
first_members catalog cube Measures = measure_members catalog cube
first_members catalog cube (Whole h) = all_member catalog h ++ children catalog (member.All h)
first_members catalog cube (One h level) = []

-- the default member of a root is the first of these: the first measure, the all member, or without one the first
-- member of the first level
abbrev pub default_member : Catalog → ℕ → LevelRef → Option Member
default_member catalog cube root = slice_get (first_members catalog cube root) 0

-- goes on from a member that was found, or keeps the name without a match
abbrev pub and_then : (Member → Result Member (List ℕ)) → Result Member (List ℕ)
    → Result Member (List ℕ)
and_then next (Ok found) = next found
and_then next (Err unknown) = Err unknown

-- the member of some that a name matches, or the name
abbrev pub named : Catalog → ℕ → List Member → List ℕ → Result Member (List ℕ)
named catalog cube members name =
    ok_or
    (option_and_then (slice_get members)
    (match_of name (map (member_name catalog cube) members))) name

-- the member that names lead to from one that was found and the members to look among next: each later name is looked
-- for among the children of the member before
abbrev pub named_below : Catalog → ℕ → List (List ℕ) → List Member → Member → Result Member (List ℕ)
named_below catalog cube [] members found = Ok found
named_below catalog cube (name ∷ names) members found =
    and_then
    (λ next. named_below catalog cube names (children catalog next) next)
    (named catalog cube members name)

-- the root that a name means in a cube
abbrev pub find_root : Catalog → ℕ → List ℕ → Option LevelRef
find_root catalog cube name =
    option_and_then (slice_get (roots catalog cube))
    (match_of name (map (root_name catalog) (roots catalog cube)))

-- the member that the names after a root lead to: the root's default member where there are none
abbrev pub member_from : Catalog → ℕ → List ℕ → List (List ℕ) → Option LevelRef
    → Result Member (List ℕ)
member_from catalog cube name names None = Err name
member_from catalog cube name names (Some root) =
    and_then (named_below catalog cube names (first_members catalog cube root))
    (ok_or (default_member catalog cube root) name)

-- the member that a path of names means in a cube: the default member of a root alone; else as the names lead on; or
-- the first name without a match
abbrev pub find_member : Catalog → ℕ → List ℕ → List (List ℕ) → Result Member (List ℕ)
find_member catalog cube name names =
    member_from catalog cube name names (find_root catalog cube name)

-- the names of a hierarchy's levels, from the top
abbrev pub level_names : Catalog → ℕ → List (List ℕ)
level_names catalog h =
    option_map_or
    (λ hierarchy. map
    (λ column. option_map_or (λ c. c.name) (slice_get catalog.columns column) [])
    hierarchy.levels)
    (slice_get catalog.hierarchies h) []

-- the level of a hierarchy at the place of a name; or that name where it has none, or the next, which is one too many
abbrev pub level_at : ℕ → List ℕ → List (List ℕ) → Option ℕ → Result LevelRef (List ℕ)
level_at h name names None = Err name
level_at h name [] (Some level) = Ok (One h level)
level_at h name (next ∷ names) (Some level) = Err next

-- the level that names after a root lead to: the root itself where there are none; a hierarchy's level of the one name;
-- the measures have no level
abbrev pub level_from : Catalog → LevelRef → List (List ℕ) → Result LevelRef (List ℕ)
level_from catalog root [] = Ok root
level_from catalog Measures (name ∷ names) = Err name
level_from catalog (Whole h) (name ∷ names) =
    level_at h name names (match_of name (level_names catalog h))
level_from catalog (One h level) (name ∷ names) = Err name

-- the level that a path of names means in a cube: a root, or a hierarchy and one of its levels; or the first name without
-- a match, or the third name where two have one
abbrev pub find_level : Catalog → ℕ → List ℕ → List (List ℕ) → Result LevelRef (List ℕ)
find_level catalog cube name names =
    option_map_or (λ root. level_from catalog root names) (find_root catalog cube name) (Err name)

-- the member that a path of names means in a cube, or the first name without a match; no name means none
abbrev pub member_of : Catalog → ℕ → List (List ℕ) → Result Member (List ℕ)
member_of catalog cube [] = Err []
member_of catalog cube (name ∷ names) = find_member catalog cube name names

-- the level that a path of names means in a cube, or the first name without a match or one too many
abbrev pub level_of : Catalog → ℕ → List (List ℕ) → Result LevelRef (List ℕ)
level_of catalog cube [] = Err []
level_of catalog cube (name ∷ names) = find_level catalog cube name names
