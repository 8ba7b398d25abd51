-- The cubes of a schema. (Schema Guide, "Cube", "Measures", "Dimensions, Hierarchies, and Levels")
use Rattle.std.specs.Prelude.{ℕ, List, length, Bool, not, Option, Some, None, Result, Ok, Err, bytes_eq}
use Rattle.std.specs.List.{list_any}
use Rattle.olap_meaning.specs.Texts.{aggregator_named}
use Rattle.olap_meaning.specs.Results.{◌>>=◌}
use Rattle.olap_meaning.specs.Whole.{has_use}
use Rattle.olap_meaning.specs.declared.Aggregator.{Aggregator}
use Rattle.olap_meaning.specs.declared.schema.TheConstants.{USE_LIMIT, MEASURE_LIMIT}
use Rattle.olap_meaning.specs.declared.schema.SchemaCube.{SchemaCube}
use Rattle.olap_meaning.specs.declared.schema.SchemaDimension.{SchemaDimension}
use Rattle.olap_meaning.specs.declared.schema.SchemaUse.{SchemaUse}
use Rattle.olap_meaning.specs.declared.tables.Measure.{Measure}
use Rattle.serde_json.specs.Data.{Data, string}
use Rattle.cube_schema.specs.declared.fault.SchemaFault.{SchemaFault}
use Rattle.cube_schema.specs.declared.fault.SchemaFault.TheVariants.{WrongKind, TwiceNamed, UnknownAggregator, UnknownDimension}
use Rattle.cube_schema.specs.declared.place.SchemaKey.TheVariants.{Dimensions, Name, Column, Fact, Source, ForeignKey, Measures, Aggregator as AggregatorKey}
use Rattle.cube_schema.specs.declared.place.SchemaNode.{SchemaNode}
use Rattle.cube_schema.specs.declared.place.SchemaNode.TheVariants.{Cube, Use, Measure as MeasureNode}
use Rattle.cube_schema.specs.declared.place.SchemaPlace.{SchemaPlace}
use Rattle.cube_schema.specs.declared.place.SchemaPlace.TheVariants.{Key}
use Rattle.cube_schema.specs.Dimensions.{has_dimension}
use Rattle.cube_schema.specs.Fields.{refused_if, object_at, value_at, name_at, file_at}
use Rattle.cube_schema.specs.Lists.{at_most, items_at, some_at_most}

-- a measure of this name is among some
abbrev pub has_measure : List ℕ → List Measure → Bool
has_measure name measures = list_any (λ measure. bytes_eq name measure.name) measures

-- a cube of this name is among some
abbrev pub has_cube : List ℕ → List SchemaCube → Bool
has_cube name cubes = list_any (λ cube. bytes_eq name cube.name) cubes

-- an aggregator that must be one of the six
abbrev pub known_aggregator : SchemaPlace → Option Aggregator → Result Aggregator SchemaFault
known_aggregator place None = Err (UnknownAggregator place)
known_aggregator place (Some aggregator) = Ok aggregator

-- an aggregator: a text that names one
abbrev pub aggregator_of : SchemaPlace → Data → Result Aggregator SchemaFault
aggregator_of place (string s) = known_aggregator place (aggregator_named s)
aggregator_of place _ = Err (WrongKind place)

-- the aggregator at a key
unfoldable pub aggregator_at : SchemaNode → Data → Result Aggregator SchemaFault
aggregator_at node d = do
  value ← value_at node AggregatorKey d
  aggregator_of (Key node AggregatorKey) value

-- a use of one of some dimensions, after earlier ones of the cube of this number: its keys in order
unfoldable pub use_of : List SchemaDimension → ℕ → List SchemaUse → Data
    → Result SchemaUse SchemaFault
use_of dimensions cube earlier value = do
  let node = Use cube (length earlier)
  whole ← object_at node value
  source ← name_at node Source whole
  _ ← refused_if (not (has_dimension source dimensions)) (UnknownDimension (Key node Source))
  _ ← refused_if (has_use source earlier) (TwiceNamed (Key node Source))
  foreign_key ← name_at node ForeignKey whole
  Ok (record { source = source; foreign_key = foreign_key })

-- a measure, after earlier ones of the cube of this number: its keys in order
unfoldable pub measure_of : ℕ → List Measure → Data → Result Measure SchemaFault
measure_of cube earlier value = do
  let node = MeasureNode cube (length earlier)
  whole ← object_at node value
  name ← name_at node Name whole
  _ ← refused_if (has_measure name earlier) (TwiceNamed (Key node Name))
  column ← name_at node Column whole
  aggregator ← aggregator_at node whole
  Ok (record { name = name; column = column; aggregator = aggregator })

-- a cube over some dimensions, after earlier ones: its keys in order
unfoldable pub cube_of : List SchemaDimension → List SchemaCube → Data
    → Result SchemaCube SchemaFault
cube_of dimensions earlier value = do
  let cube = length earlier
  let node = Cube cube
  whole ← object_at node value
  name ← name_at node Name whole
  _ ← refused_if (has_cube name earlier) (TwiceNamed (Key node Name))
  fact ← file_at node Fact whole
  uses ← items_at node Dimensions (at_most USE_LIMIT) (use_of dimensions cube) whole
  measures ← items_at node Measures (some_at_most (MeasureNode cube 0) MEASURE_LIMIT)
      (measure_of cube) whole
  Ok (record { name = name; fact = fact; dimensions = uses; measures = measures })
