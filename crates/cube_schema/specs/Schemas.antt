-- What schema a file's bytes are, or their first fault. (Schema Guide)
use Rattle.std.specs.Prelude.{ℕ, List, [], is_some, Result, Ok, if◌then◌else◌}
use Rattle.olap_meaning.specs.Results.{◌>>=◌}
use Rattle.olap_meaning.specs.declared.schema.TheConstants.{AGGREGATE_LIMIT, CUBE_LIMIT, DIMENSION_LIMIT}
use Rattle.olap_meaning.specs.declared.schema.Schema.{Schema}
use Rattle.olap_meaning.specs.declared.schema.SchemaAggregate.{SchemaAggregate}
use Rattle.olap_meaning.specs.declared.schema.SchemaCube.{SchemaCube}
use Rattle.olap_meaning.specs.declared.schema.SchemaDimension.{SchemaDimension}
use Rattle.serde_json.specs.Data.{Data}
use Rattle.serde_json.specs.Find.{get}
use Rattle.cube_schema.specs.declared.fault.SchemaFault.{SchemaFault}
use Rattle.cube_schema.specs.declared.place.SchemaKey.TheVariants.{Dimensions, Cubes, Aggregates}
use Rattle.cube_schema.specs.declared.place.SchemaNode.TheVariants as SchemaNode
use Rattle.cube_schema.specs.Aggregates.{aggregate_of}
use Rattle.cube_schema.specs.Cubes.{cube_of}
use Rattle.cube_schema.specs.Dimensions.{dimension_of}
use Rattle.cube_schema.specs.Fields.{json_of, json_or_fault, object_at}
use Rattle.cube_schema.specs.Lists.{at_most, items_at, some_at_most}
use Rattle.cube_schema.specs.Places.{key_text}

-- the aggregate tables of a schema, over its dimensions and its cubes: none where there is no such key
unfoldable pub aggregates_at : List SchemaDimension → List SchemaCube → Data
    → Result (List SchemaAggregate) SchemaFault
aggregates_at dimensions cubes whole =
    if is_some (get (key_text Aggregates) whole)
    then
    items_at SchemaNode.Schema Aggregates (at_most AGGREGATE_LIMIT)
    (aggregate_of dimensions cubes) whole
    else Ok []

-- the schema that a JSON value is: its keys in order
unfoldable pub schema_in : Data → Result Schema SchemaFault
schema_in value = do
  whole ← object_at SchemaNode.Schema value
  dimensions ← items_at SchemaNode.Schema Dimensions (at_most DIMENSION_LIMIT) dimension_of whole
  cubes ← items_at SchemaNode.Schema Cubes (some_at_most (SchemaNode.Cube 0) CUBE_LIMIT)
      (cube_of dimensions) whole
  aggregates ← aggregates_at dimensions cubes whole
  Ok (record { dimensions = dimensions; cubes = cubes; aggregates = aggregates })

-- the schema that a file's bytes are
unfoldable pub schema_of : List ℕ → Result Schema SchemaFault
schema_of bytes = do
  value ← json_or_fault (json_of bytes)
  schema_in value
