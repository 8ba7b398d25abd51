-- The dimensions of a schema. (Schema Guide, "Dimensions, Hierarchies, and Levels")
use Rattle.std.specs.Prelude.{ℕ, ◌+◌, List, ◌++◌, length, map, flat_map, Bool, true, ◌||◌, Result, Ok, bytes_eq, codes, unwrap_or}
use Rattle.std.specs.List.{list_any}
use Rattle.olap_meaning.specs.FullNames.{joined_name}
use Rattle.olap_meaning.specs.Results.{◌>>=◌}
use Rattle.olap_meaning.specs.Schema.{levels_of}
use Rattle.olap_meaning.specs.Whole.{has_level}
use Rattle.olap_meaning.specs.declared.schema.TheConstants.{LEVEL_LIMIT}
use Rattle.olap_meaning.specs.declared.schema.SchemaDimension.{SchemaDimension}
use Rattle.olap_meaning.specs.declared.schema.SchemaHierarchy.{SchemaHierarchy}
use Rattle.olap_meaning.specs.declared.schema.SchemaLevel.{SchemaLevel}
use Rattle.serde_json.specs.Data.{Data}
use Rattle.cube_schema.specs.declared.fault.SchemaFault.{SchemaFault}
use Rattle.cube_schema.specs.declared.fault.SchemaFault.TheVariants.{TwiceNamed}
use Rattle.cube_schema.specs.declared.place.SchemaKey.TheVariants.{Name, Table, PrimaryKey, Hierarchies, HasAll, AllMemberName, Levels, Column}
use Rattle.cube_schema.specs.declared.place.SchemaNode.{SchemaNode}
use Rattle.cube_schema.specs.declared.place.SchemaNode.TheVariants.{Dimension, Hierarchy, Level}
use Rattle.cube_schema.specs.declared.place.SchemaPlace.{SchemaPlace}
use Rattle.cube_schema.specs.declared.place.SchemaPlace.TheVariants.{Node, Key}
use Rattle.cube_schema.specs.Fields.{refused_if, object_at, name_at, optional_name_at, file_at, bool_at, within, filled}
use Rattle.cube_schema.specs.Lists.{items_at, some}

-- a dimension of this name is among some
abbrev pub has_dimension : List ℕ → List SchemaDimension → Bool
has_dimension name dimensions = list_any (λ dimension. bytes_eq name dimension.name) dimensions

-- the full names of some hierarchies of the dimension of this name
abbrev pub full_names : List ℕ → List SchemaHierarchy → List (List ℕ)
full_names dimension hierarchies =
    map (λ hierarchy. joined_name dimension hierarchy.name) hierarchies

-- the full names of all hierarchies of some dimensions
abbrev pub all_full_names : List SchemaDimension → List (List ℕ)
all_full_names dimensions =
    flat_map (λ dimension. full_names dimension.name dimension.hierarchies) dimensions

-- a name that no hierarchy may have any more: one that is taken, or that of the measures
abbrev pub is_taken : List ℕ → List (List ℕ) → Bool
is_taken name names = bytes_eq name (codes "Measures") || list_any (bytes_eq name) names

-- the levels of some hierarchies
abbrev pub levels_in : List SchemaHierarchy → List SchemaLevel
levels_in hierarchies = flat_map (λ hierarchy. hierarchy.levels) hierarchies

-- a list of levels has at least one, and with this many others of the schema at most as many as a schema may have
abbrev pub some_beside : SchemaNode → ℕ → SchemaPlace → List Data → Result (Unit {0}) SchemaFault
some_beside first others place items = do
  _ ← within place (others + length items) LEVEL_LIMIT
  filled first items

-- the name of an all member that has none of its own
abbrev pub default_all_member : List ℕ → List ℕ
default_all_member hierarchy = codes "All " ++ hierarchy ++ codes "s"

-- a level, after earlier ones of the hierarchy of these numbers: its keys in order
unfoldable pub level_of : ℕ → ℕ → List SchemaLevel → Data → Result SchemaLevel SchemaFault
level_of dimension hierarchy earlier value = do
  let node = Level dimension hierarchy (length earlier)
  whole ← object_at node value
  name ← name_at node Name whole
  _ ← refused_if (has_level name earlier) (TwiceNamed (Key node Name))
  column ← name_at node Column whole
  Ok (record { name = name; column = column })

-- a hierarchy, after earlier ones of the dimension of this name, which follows some dimensions: its keys in order
unfoldable pub hierarchy_of : List SchemaDimension → List ℕ → List SchemaHierarchy → Data
    → Result SchemaHierarchy SchemaFault
hierarchy_of dimensions dimension_name earlier value = do
  let dimension = length dimensions
  let hierarchy = length earlier
  let node = Hierarchy dimension hierarchy
  let taken = all_full_names dimensions ++ full_names dimension_name earlier
  let others = length (flat_map levels_of dimensions) + length (levels_in earlier)
  whole ← object_at node value
  own ← optional_name_at node Name whole
  let name = unwrap_or own dimension_name
  _ ← refused_if (is_taken (joined_name dimension_name name) taken) (TwiceNamed (Node node))
  has_all ← bool_at node HasAll true whole
  all_member ← optional_name_at node AllMemberName whole
  levels ← items_at node Levels (some_beside (Level dimension hierarchy 0) others)
      (level_of dimension hierarchy) whole
  Ok (record {
    name = name;
    has_all = has_all;
    all_member_name = unwrap_or all_member (default_all_member name);
    levels = levels;
  })

-- a dimension, after earlier ones: its keys in order
unfoldable pub dimension_of : List SchemaDimension → Data → Result SchemaDimension SchemaFault
dimension_of earlier value = do
  let dimension = length earlier
  let node = Dimension dimension
  whole ← object_at node value
  name ← name_at node Name whole
  _ ← refused_if (bytes_eq name (codes "Measures") || has_dimension name earlier)
      (TwiceNamed (Key node Name))
  table ← file_at node Table whole
  primary_key ← name_at node PrimaryKey whole
  hierarchies ← items_at node Hierarchies (some (Hierarchy dimension 0))
      (hierarchy_of earlier name) whole
  Ok (record { name = name; table = table; primary_key = primary_key; hierarchies = hierarchies })
