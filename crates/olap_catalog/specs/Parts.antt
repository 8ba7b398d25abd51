-- The parts of a catalog, and what ties them together.
use Rattle.std.specs.Prelude.{ℕ, ◌≡◌, ◌≤◌, List, All, Bool, true, ◌==◌, length, map, flat_map, nat_lt, slice_get, nat_le}
use Rattle.std.specs.List.{list_all, zip}
use Rattle.olap_meaning.specs.declared.schema.TheConstants.{LEVEL_LIMIT, CUBE_LIMIT, MEASURE_LIMIT, DIMENSION_LIMIT}
use Rattle.olap_meaning.specs.declared.schema.Schema.{Schema}
use Rattle.olap_meaning.specs.declared.tables.Record.{Record}
use Rattle.olap_meaning.specs.declared.tables.Column.{Column}
use Rattle.olap_meaning.specs.declared.tables.Hierarchy.{Hierarchy}
use Rattle.olap_meaning.specs.declared.tables.Cube.{Cube}
use Rattle.olap_meaning.specs.declared.tables.Catalog.{Catalog}
use Rattle.olap_meaning.specs.Catalog.{paths}
use Rattle.olap_meaning.specs.History.{is_some_and}
use Rattle.olap_meaning.specs.Legal.{rise}
use Rattle.olap_meaning.specs.Schema.{all_hierarchies, cube_over, dimension_with}
use Rattle.olap_meaning.specs.Whole.{IsWhole}
use Rattle.catalog_tables.specs.Tables.{TableOf, have_fields, are_filled}
use Rattle.member_trees.specs.Trees.{TreeOf}
use Rattle.olap_catalog.specs.Roots.{hierarchies_among, full_name_in, level_names_in, measure_names, root_names_in}

-- the records of some tables
abbrev pub records_in : List TableOf → List (List Record)
records_in tables = map (λ t. t.records) tables

-- the plain catalog that the parts are
abbrev pub plain : Schema → List TableOf → List Column → List Hierarchy → List Cube → Catalog
plain schema tables columns hierarchies cubes =
    record {
      schema = schema;
      dimensions = map dimension_with (zip schema.dimensions (records_in tables));
      columns = columns;
      hierarchies = hierarchies;
      cubes = cubes;
    }

-- a column is a field of its dimension's table
abbrev pub is_column : List TableOf → Column → Bool
is_column tables column =
    is_some_and (λ t. nat_lt column.field t.levels) (slice_get tables column.dimension)

-- a number is that of a column of a dimension
abbrev pub is_level : List Column → ℕ → ℕ → Bool
is_level columns dimension c =
    is_some_and (λ column. column.dimension == dimension) (slice_get columns c)

-- the levels of a hierarchy are columns of its dimension
abbrev pub has_levels : List Column → Hierarchy → Bool
has_levels columns hierarchy = list_all (is_level columns hierarchy.dimension) hierarchy.levels

-- a cube has no more measures than a schema allows
abbrev pub has_few_measures : Cube → Bool
has_few_measures cube = nat_le (length cube.measures) MEASURE_LIMIT

-- the tree of a hierarchy's members
abbrev pub tree_of : Catalog → Hierarchy → TreeOf
tree_of catalog hierarchy = record {
  levels = length hierarchy.levels;
  leaves = paths catalog hierarchy;
}

-- the names that a catalog looks among: of its cubes and aggregate tables, in each cube of its measures and of what a
-- path may begin with, and of each hierarchy's levels
pub record Names : Type 0 where
  pub cubes : List (List ℕ)
  pub tables : List (List ℕ)
  pub measures : List (List (List ℕ))
  pub roots : List (List (List ℕ))
  pub levels : List (List (List ℕ))

-- what ties the parts of a catalog together
pub record AreParts (schema : Schema) (tables : List TableOf) (columns : List Column)
    (hierarchies : List Hierarchy) (cubes : List Cube) (trees : List TreeOf)
    (full_names : List (List ℕ)) (roots : List (List ℕ)) (names : Names) : Type 0 where
  pub whole : IsWhole schema
  pub hierarchies_are : hierarchies ≡ all_hierarchies 0 0 schema.dimensions
  pub cubes_are : cubes ≡ map (cube_over schema.dimensions) schema.cubes
  pub paired : length tables ≡ length schema.dimensions
  pub even : list_all (λ t. have_fields t.levels t.records) tables ≡ true
  pub filled : list_all (λ t. are_filled t.records) tables ≡ true
  pub columned : list_all (is_column tables) columns ≡ true
  pub leveled : list_all (has_levels columns) hierarchies ≡ true
  pub rising : rise (flat_map (λ hierarchy. hierarchy.levels) hierarchies) ≡ true
  pub treed : trees ≡ map (tree_of (plain schema tables columns hierarchies cubes)) hierarchies
  pub named : full_names ≡ map (full_name_in schema.dimensions) hierarchies
  pub rooted : roots ≡ map (λ cube. flat_map (hierarchies_among hierarchies) cube.dimensions) cubes
  pub cubes_named : names.cubes ≡ map (λ cube. cube.name) cubes
  pub tables_named : names.tables ≡ map (λ table. table.name) schema.aggregates
  pub measures_named : names.measures ≡ map measure_names cubes
  pub roots_named : names.roots ≡ map (root_names_in full_names) roots
  pub levels_named : names.levels ≡ map (level_names_in columns) hierarchies
  pub few_tables : length tables ≤ DIMENSION_LIMIT
  pub few_columns : length columns ≤ LEVEL_LIMIT
  pub few_hierarchies : length hierarchies ≤ LEVEL_LIMIT
  pub few_levels : All (λ hierarchy. length hierarchy.levels ≤ LEVEL_LIMIT) hierarchies
  pub few_cubes : length cubes ≤ CUBE_LIMIT
  pub few_measures : list_all has_few_measures cubes ≡ true
