-- The aggregate tables of a schema. (Schema Guide, "Aggregate Tables")
use Rattle.std.specs.Prelude.{ℕ, List, [], ◌∷◌, ◌++◌, length, Bool, not, ◌&&◌, Option, Some, None, Result, Ok, Err, bytes_eq, if◌then◌else◌}
use Rattle.std.specs.List.{list_any}
use Rattle.olap_meaning.specs.Results.{◌>>=◌}
use Rattle.olap_meaning.specs.Whole.{cube_named, has_level, hierarchy_named, is_average, measure_named}
use Rattle.olap_meaning.specs.declared.Aggregator.{Aggregator}
use Rattle.olap_meaning.specs.declared.Aggregator.TheVariants.{DistinctCount}
use Rattle.olap_meaning.specs.declared.schema.AggregateLevel.{AggregateLevel}
use Rattle.olap_meaning.specs.declared.schema.AggregateMeasure.{AggregateMeasure}
use Rattle.olap_meaning.specs.declared.schema.SchemaAggregate.{SchemaAggregate}
use Rattle.olap_meaning.specs.declared.schema.SchemaCube.{SchemaCube}
use Rattle.olap_meaning.specs.declared.schema.SchemaDimension.{SchemaDimension}
use Rattle.olap_meaning.specs.declared.schema.SchemaHierarchy.{SchemaHierarchy}
use Rattle.olap_meaning.specs.declared.tables.Measure.{Measure}
use Rattle.serde_json.specs.Data.{Data}
use Rattle.cube_schema.specs.declared.fault.SchemaFault.{SchemaFault}
use Rattle.cube_schema.specs.declared.fault.SchemaFault.TheVariants.{TwiceNamed, UnknownDimension, UnknownLevel, UnknownMeasure}
use Rattle.cube_schema.specs.declared.place.SchemaKey.{SchemaKey}
use Rattle.cube_schema.specs.declared.place.SchemaKey.TheVariants.{Name, Levels, Column, Measures, Cube, File, FactCount, Hierarchy, Level, Measure as MeasureKey, CountColumn}
use Rattle.cube_schema.specs.declared.place.SchemaNode.{SchemaNode}
use Rattle.cube_schema.specs.declared.place.SchemaNode.TheVariants.{Aggregate, AggregateLevel as LevelNode, AggregateMeasure as MeasureNode}
use Rattle.cube_schema.specs.declared.place.SchemaPlace.{SchemaPlace}
use Rattle.cube_schema.specs.declared.place.SchemaPlace.TheVariants.{Key}
use Rattle.cube_schema.specs.Fields.{refused_if, object_at, name_at, optional_file_at}
use Rattle.cube_schema.specs.Lists.{any_number, items_at}

-- an aggregate table of this name is among some
abbrev pub has_aggregate : List ℕ → List SchemaAggregate → Bool
has_aggregate name aggregates = list_any (λ aggregate. bytes_eq name aggregate.name) aggregates

-- a cube that must be one of the schema
abbrev pub known_cube : SchemaPlace → Option SchemaCube → Result SchemaCube SchemaFault
known_cube place None = Err (UnknownDimension place)
known_cube place (Some cube) = Ok cube

-- a hierarchy that must be one of the cube
abbrev pub known_hierarchy : SchemaPlace → Option SchemaHierarchy
    → Result SchemaHierarchy SchemaFault
known_hierarchy place None = Err (UnknownDimension place)
known_hierarchy place (Some hierarchy) = Ok hierarchy

-- an aggregator whose values can be summed up over the rows of a table: no distinct count
abbrev pub summed : SchemaPlace → Aggregator → Result Aggregator SchemaFault
summed place DistinctCount = Err (UnknownMeasure place)
summed place aggregator = Ok aggregator

-- the aggregator of a measure that must be one of the cube, and no distinct count
abbrev pub known_measure : SchemaPlace → Option Measure → Result Aggregator SchemaFault
known_measure place None = Err (UnknownMeasure place)
known_measure place (Some measure) = summed place measure.aggregator

-- two levels have the same hierarchy and the same name
abbrev pub is_same_level : AggregateLevel → AggregateLevel → Bool
is_same_level level other =
    bytes_eq level.hierarchy other.hierarchy && bytes_eq level.level other.level

-- one more level after some, if it is none of them
abbrev pub with_level : List AggregateLevel → AggregateLevel → List AggregateLevel
with_level kept level = if list_any (is_same_level level) kept then kept else kept ++ level ∷ []

-- some levels after others, each once: as it stands first
abbrev pub first_levels : List AggregateLevel → List AggregateLevel → List AggregateLevel
first_levels kept [] = kept
first_levels kept (level ∷ levels) = first_levels (with_level kept level) levels

-- a level of the table of this number, of a cube over some dimensions, after earlier ones: its keys in order
unfoldable pub aggregate_level_of : List SchemaDimension → SchemaCube → ℕ → List AggregateLevel
    → Data → Result AggregateLevel SchemaFault
aggregate_level_of dimensions cube table earlier value = do
  let node = LevelNode table (length earlier)
  whole ← object_at node value
  name ← name_at node Hierarchy whole
  hierarchy ← known_hierarchy (Key node Hierarchy) (hierarchy_named dimensions cube name)
  level ← name_at node Level whole
  _ ← refused_if (not (has_level level hierarchy.levels)) (UnknownLevel (Key node Level))
  column ← name_at node Column whole
  Ok (record { hierarchy = name; level = level; column = column })

-- the name at a key that must be there, where others need none
abbrev pub some_name_at : SchemaNode → SchemaKey → Data → Result (Option (List ℕ)) SchemaFault
some_name_at node key whole = do
  name ← name_at node key whole
  Ok (Some name)

-- the column of counts, which an average must have; of every other aggregator the key is passed over
unfoldable pub count_column_at : SchemaNode → Aggregator → Data
    → Result (Option (List ℕ)) SchemaFault
count_column_at node aggregator whole =
    if is_average aggregator then some_name_at node CountColumn whole else Ok None

-- a measure of the table of this number, of a cube, after earlier ones: its keys in order
unfoldable pub aggregate_measure_of : SchemaCube → ℕ → List AggregateMeasure → Data
    → Result AggregateMeasure SchemaFault
aggregate_measure_of cube table earlier value = do
  let node = MeasureNode table (length earlier)
  whole ← object_at node value
  measure ← name_at node MeasureKey whole
  aggregator ← known_measure (Key node MeasureKey) (measure_named cube measure)
  column ← name_at node Column whole
  count_column ← count_column_at node aggregator whole
  Ok (record { measure = measure; column = column; count_column = count_column })

-- an aggregate table over some dimensions and some cubes, after earlier ones: its keys in order
unfoldable pub aggregate_of : List SchemaDimension → List SchemaCube → List SchemaAggregate → Data
    → Result SchemaAggregate SchemaFault
aggregate_of dimensions cubes earlier value = do
  let table = length earlier
  let node = Aggregate table
  whole ← object_at node value
  name ← name_at node Name whole
  _ ← refused_if (has_aggregate name earlier) (TwiceNamed (Key node Name))
  cube_name ← name_at node Cube whole
  cube ← known_cube (Key node Cube) (cube_named cubes cube_name)
  file ← optional_file_at node File whole
  fact_count ← name_at node FactCount whole
  levels ← items_at node Levels any_number (aggregate_level_of dimensions cube table) whole
  measures ← items_at node Measures any_number (aggregate_measure_of cube table) whole
  Ok (record {
    name = name;
    cube = cube_name;
    file = file;
    fact_count = fact_count;
    levels = first_levels [] levels;
    measures = measures;
  })
