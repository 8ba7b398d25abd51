-- Whole schemas: each name in one means something. (Schema Guide, "Cube", "Aggregate Tables")
use Rattle.std.specs.Prelude.{ℕ, ◌≡◌, ◌≢◌, ◌≤◌, List, [], ◌∷◌, All, Bool, true, false, Option, Some, None, length, find, is_some, bytes_eq, if◌then◌else◌}
use Rattle.std.specs.List.{list_any}
use Rattle.std.specs.Option.{option_or}
use Rattle.olap_meaning.specs.declared.Aggregator.{Aggregator}
use Rattle.olap_meaning.specs.declared.Aggregator.TheVariants.{Avg, DistinctCount}
use Rattle.olap_meaning.specs.declared.schema.TheConstants.{AGGREGATE_LIMIT}
use Rattle.olap_meaning.specs.declared.schema.AggregateLevel.{AggregateLevel}
use Rattle.olap_meaning.specs.declared.schema.AggregateMeasure.{AggregateMeasure}
use Rattle.olap_meaning.specs.declared.schema.Schema.{Schema}
use Rattle.olap_meaning.specs.declared.schema.SchemaAggregate.{SchemaAggregate}
use Rattle.olap_meaning.specs.declared.schema.SchemaCube.{SchemaCube}
use Rattle.olap_meaning.specs.declared.schema.SchemaDimension.{SchemaDimension}
use Rattle.olap_meaning.specs.declared.schema.SchemaHierarchy.{SchemaHierarchy}
use Rattle.olap_meaning.specs.declared.schema.SchemaLevel.{SchemaLevel}
use Rattle.olap_meaning.specs.declared.schema.SchemaUse.{SchemaUse}
use Rattle.olap_meaning.specs.declared.tables.Measure.{Measure}
use Rattle.olap_meaning.specs.FullNames.{joined_name}
use Rattle.olap_meaning.specs.Schema.{IsWithinLimits, dimension_place}

-- the cube of this name
abbrev pub cube_named : List SchemaCube → List ℕ → Option SchemaCube
cube_named cubes name = find (λ cube. bytes_eq name cube.name) cubes

-- the measure of this name in a cube
abbrev pub measure_named : SchemaCube → List ℕ → Option Measure
measure_named cube name = find (λ measure. bytes_eq name measure.name) cube.measures

-- a cube uses the dimension of this name
abbrev pub has_use : List ℕ → List SchemaUse → Bool
has_use name uses = list_any (λ used. bytes_eq name used.source) uses

-- the hierarchy of a dimension with this full name
abbrev pub hierarchy_in : SchemaDimension → List ℕ → Option SchemaHierarchy
hierarchy_in dimension name =
    find (λ hierarchy. bytes_eq name (joined_name dimension.name hierarchy.name))
    dimension.hierarchies

-- the hierarchy with this full name among those of the dimensions that a cube uses
abbrev pub hierarchy_named : List SchemaDimension → SchemaCube → List ℕ → Option SchemaHierarchy
hierarchy_named [] cube name = None
hierarchy_named (dimension ∷ dimensions) cube name =
    option_or
    (if has_use dimension.name cube.dimensions then hierarchy_in dimension name else None)
    (hierarchy_named dimensions cube name)

-- a level of this name is among some
abbrev pub has_level : List ℕ → List SchemaLevel → Bool
has_level name levels = list_any (λ level. bytes_eq name level.name) levels

-- an average is kept as a sum and a count
abbrev pub is_average : Aggregator → Bool
is_average Avg = true
is_average _ = false

-- a level of an aggregate table of a cube: one of a hierarchy of the cube
pub record IsLevelOf (schema : Schema) (cube : SchemaCube) (level : AggregateLevel) : Type 0 where
  pub hierarchy : SchemaHierarchy
  pub named : hierarchy_named schema.dimensions cube level.hierarchy ≡ Some hierarchy
  pub within : has_level level.level hierarchy.levels ≡ true

-- a measure of an aggregate table of a cube: one of the cube that is no distinct count, with a column of counts where
-- it is an average, and only there
pub record IsMeasureOf (cube : SchemaCube) (measure : AggregateMeasure) : Type 0 where
  pub own : Measure
  pub named : measure_named cube measure.measure ≡ Some own
  pub summed : own.aggregator ≢ DistinctCount
  pub counted : is_some measure.count_column ≡ is_average own.aggregator

-- an aggregate table is one of a cube, with levels and measures of it
pub record IsTableOf (schema : Schema) (table : SchemaAggregate) : Type 0 where
  pub cube : SchemaCube
  pub named : cube_named schema.cubes table.cube ≡ Some cube
  pub levels : All (IsLevelOf schema cube) table.levels
  pub measures : All (IsMeasureOf cube) table.measures

-- each use of a cube names a dimension
abbrev pub AreUsesNamed : Schema → SchemaCube → Type 0
AreUsesNamed schema cube =
    All (λ used. is_some (dimension_place schema.dimensions used.source) ≡ true) cube.dimensions

-- no name of a hierarchy is empty: its own, its all member's, and its levels'
pub record IsNamedHierarchy (hierarchy : SchemaHierarchy) : Type 0 where
  pub own : hierarchy.name ≢ []
  pub all_member : hierarchy.all_member_name ≢ []
  pub levels : All (λ level. level.name ≢ []) hierarchy.levels

-- no name of a dimension is empty: its own, and its hierarchies'
pub record IsNamedDimension (dimension : SchemaDimension) : Type 0 where
  pub own : dimension.name ≢ []
  pub hierarchies : All IsNamedHierarchy dimension.hierarchies

-- a cube has a measure, and no name of it is empty: its own, and its measures'
pub record IsNamedCube (cube : SchemaCube) : Type 0 where
  pub own : cube.name ≢ []
  pub some : cube.measures ≢ []
  pub measures : All (λ measure. measure.name ≢ []) cube.measures

-- a schema is whole: it is within the limits, no name of its dimensions and of its cubes is empty, each use of a cube names
-- a dimension, and each aggregate table speaks of a cube, and of levels and measures that the cube has
pub record IsWhole (schema : Schema) : Type 0 where
  pub limits : IsWithinLimits schema
  pub named : All IsNamedDimension schema.dimensions
  pub named_cubes : All IsNamedCube schema.cubes
  pub uses : All (AreUsesNamed schema) schema.cubes
  pub few_tables : length schema.aggregates ≤ AGGREGATE_LIMIT
  pub tables : All (IsTableOf schema) schema.aggregates
