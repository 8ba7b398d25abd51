-- The catalog that a schema and the records of its dimensions' tables make. (Schema Guide)
use Rattle.std.specs.Prelude.{ℕ, suc, ◌+◌, ◌≤◌, List, [], ◌∷◌, ◌++◌, Option, Some, None, length, map, flat_map, filter_map, position, bytes_eq, if◌then◌else◌}
use Rattle.std.specs.List.{zip, All}
use Rattle.olap_meaning.specs.declared.schema.TheConstants.{DIMENSION_LIMIT, CUBE_LIMIT, LEVEL_LIMIT, USE_LIMIT, MEASURE_LIMIT}
use Rattle.olap_meaning.specs.declared.schema.Schema.{Schema}
use Rattle.olap_meaning.specs.declared.schema.SchemaDimension.{SchemaDimension}
use Rattle.olap_meaning.specs.declared.schema.SchemaHierarchy.{SchemaHierarchy}
use Rattle.olap_meaning.specs.declared.schema.SchemaLevel.{SchemaLevel}
use Rattle.olap_meaning.specs.declared.schema.SchemaCube.{SchemaCube}
use Rattle.olap_meaning.specs.declared.tables.Record.{Record}
use Rattle.olap_meaning.specs.declared.tables.Dimension.{Dimension}
use Rattle.olap_meaning.specs.declared.tables.Column.{Column}
use Rattle.olap_meaning.specs.declared.tables.Hierarchy.{Hierarchy}
use Rattle.olap_meaning.specs.declared.tables.Cube.{Cube}
use Rattle.olap_meaning.specs.declared.tables.Catalog.{Catalog}

-- the levels of a dimension: those of its hierarchies, in order. A record of its table has a field for each
abbrev pub levels_of : SchemaDimension → List SchemaLevel
levels_of dimension = flat_map (λ hierarchy. hierarchy.levels) dimension.hierarchies

-- the columns of some levels of a dimension, from one field on
abbrev pub columns_from : ℕ → ℕ → List SchemaLevel → List Column
columns_from dimension field [] = []
columns_from dimension field (level ∷ levels) =
    (record { name = level.name; dimension = dimension; field = field }) ∷ columns_from dimension
    (suc field) levels

-- the columns of some dimensions, from one on: each level has a column of its own
abbrev pub all_columns : ℕ → List SchemaDimension → List Column
all_columns place [] = []
all_columns place (dimension ∷ dimensions) =
    columns_from place 0 (levels_of dimension) ++ all_columns (suc place) dimensions

-- this many numbers, from one on
abbrev pub numbers_from : ℕ → List SchemaLevel → List ℕ
numbers_from first [] = []
numbers_from first (level ∷ levels) = first ∷ numbers_from (suc first) levels

-- the all member's name, where a hierarchy has an all member
abbrev pub all_name : SchemaHierarchy → Option (List ℕ)
all_name hierarchy = if hierarchy.has_all then Some hierarchy.all_member_name else None

-- some hierarchies of a dimension; the columns of their levels follow one another from one on
abbrev pub hierarchies_from : ℕ → ℕ → List SchemaHierarchy → List Hierarchy
hierarchies_from dimension column [] = []
hierarchies_from dimension column (hierarchy ∷ hierarchies) =
    (record {
      name = hierarchy.name;
      dimension = dimension;
      all_member = all_name hierarchy;
      levels = numbers_from column hierarchy.levels;
    })
    ∷ hierarchies_from dimension (column + length hierarchy.levels) hierarchies

-- the hierarchies of some dimensions, from one dimension and one column on
abbrev pub all_hierarchies : ℕ → ℕ → List SchemaDimension → List Hierarchy
all_hierarchies place column [] = []
all_hierarchies place column (dimension ∷ dimensions) =
    hierarchies_from place column dimension.hierarchies
    ++ all_hierarchies (suc place) (column + length (levels_of dimension)) dimensions

-- the place of a dimension, by its name
abbrev pub dimension_place : List SchemaDimension → List ℕ → Option ℕ
dimension_place dimensions source =
    position (λ dimension. bytes_eq source dimension.name) dimensions

-- a cube over some dimensions
abbrev pub cube_over : List SchemaDimension → SchemaCube → Cube
cube_over dimensions cube =
    record {
      name = cube.name;
      dimensions = filter_map (λ used. dimension_place dimensions used.source) cube.dimensions;
      measures = cube.measures;
    }

-- a dimension with the records of its table
abbrev pub dimension_with : SchemaDimension × List Record → Dimension
dimension_with pair = record { name = pair.0.name; records = pair.1 }

-- the catalog of a schema and the records of its dimensions' tables, in order
abbrev pub catalog_of : Schema → List (List Record) → Catalog
catalog_of schema tables =
    record {
      schema = schema;
      dimensions = map dimension_with (zip schema.dimensions tables);
      columns = all_columns 0 schema.dimensions;
      hierarchies = all_hierarchies 0 0 schema.dimensions;
      cubes = map (cube_over schema.dimensions) schema.cubes;
    }

-- the hierarchies of a schema
abbrev pub hierarchies_in : Schema → List SchemaHierarchy
hierarchies_in schema = flat_map (λ dimension. dimension.hierarchies) schema.dimensions

-- a cube is within the limits: of its dimensions, and of its measures
pub record IsWithinCube (cube : SchemaCube) : Type 0 where
  pub dimensions : length cube.dimensions ≤ USE_LIMIT
  pub measures : length cube.measures ≤ MEASURE_LIMIT

-- a schema is within the limits: of dimensions, of hierarchies, of levels over all hierarchies, and of cubes, each within
-- its own
pub record IsWithinLimits (schema : Schema) : Type 0 where
  pub dimensions : length schema.dimensions ≤ DIMENSION_LIMIT
  pub hierarchies : length (hierarchies_in schema) ≤ LEVEL_LIMIT
  pub levels : length (flat_map levels_of schema.dimensions) ≤ LEVEL_LIMIT
  pub cubes : length schema.cubes ≤ CUBE_LIMIT
  pub each : All IsWithinCube schema.cubes
