-- The texts of keys and places.
use Rattle.std.specs.Prelude.{ℕ, List, [], ◌++◌, codes}
use Rattle.std.specs.Fmt.{decimal}
use Rattle.cube_schema.specs.declared.place.SchemaKey.{SchemaKey}
use Rattle.cube_schema.specs.declared.place.SchemaKey.TheVariants.{Dimensions, Cubes, Aggregates, Name, Table, PrimaryKey, Hierarchies, HasAll, AllMemberName, Levels, Column, Fact, Source, ForeignKey, Measures, Aggregator, Cube as CubeKey, File, FactCount, Hierarchy as HierarchyKey, Level as LevelKey, Measure as MeasureKey, CountColumn}
use Rattle.cube_schema.specs.declared.place.SchemaNode.{SchemaNode}
use Rattle.cube_schema.specs.declared.place.SchemaNode.TheVariants.{Schema, Dimension, Hierarchy, Level, Cube, Use, Measure, Aggregate, AggregateLevel, AggregateMeasure}
use Rattle.cube_schema.specs.declared.place.SchemaPlace.{SchemaPlace}
use Rattle.cube_schema.specs.declared.place.SchemaPlace.TheVariants.{Node, Key}

-- a key as schemas spell it
unfoldable pub key_text : SchemaKey → List ℕ
key_text Dimensions = codes "dimensions"
key_text Cubes = codes "cubes"
key_text Aggregates = codes "aggregates"
key_text Name = codes "name"
key_text Table = codes "table"
key_text PrimaryKey = codes "primaryKey"
key_text Hierarchies = codes "hierarchies"
key_text HasAll = codes "hasAll"
key_text AllMemberName = codes "allMemberName"
key_text Levels = codes "levels"
key_text Column = codes "column"
key_text Fact = codes "fact"
key_text Source = codes "source"
key_text ForeignKey = codes "foreignKey"
key_text Measures = codes "measures"
key_text Aggregator = codes "aggregator"
key_text CubeKey = codes "cube"
key_text File = codes "file"
key_text FactCount = codes "factCount"
key_text HierarchyKey = codes "hierarchy"
key_text LevelKey = codes "level"
key_text MeasureKey = codes "measure"
key_text CountColumn = codes "countColumn"

-- an object's place: the keys and the places in lists that lead to it from the top, joined by `/`
unfoldable pub node_text : SchemaNode → List ℕ
node_text Schema = []
node_text (Dimension i) = codes "dimensions/" ++ decimal i
node_text (Hierarchy i j) =
    codes "dimensions/" ++ (decimal i ++ (codes "/hierarchies/" ++ decimal j))
node_text (Level i j k) =
    codes "dimensions/"
    ++ (decimal i ++ (codes "/hierarchies/" ++ (decimal j ++ (codes "/levels/" ++ decimal k))))
node_text (Cube i) = codes "cubes/" ++ decimal i
node_text (Use i j) = codes "cubes/" ++ (decimal i ++ (codes "/dimensions/" ++ decimal j))
node_text (Measure i j) = codes "cubes/" ++ (decimal i ++ (codes "/measures/" ++ decimal j))
node_text (Aggregate i) = codes "aggregates/" ++ decimal i
node_text (AggregateLevel i j) =
    codes "aggregates/" ++ (decimal i ++ (codes "/levels/" ++ decimal j))
node_text (AggregateMeasure i j) =
    codes "aggregates/" ++ (decimal i ++ (codes "/measures/" ++ decimal j))

-- what stands between an object's place and a key of it: nothing at the top
abbrev pub between : SchemaNode → List ℕ
between Schema = []
between (Dimension i) = codes "/"
between (Hierarchy i j) = codes "/"
between (Level i j k) = codes "/"
between (Cube i) = codes "/"
between (Use i j) = codes "/"
between (Measure i j) = codes "/"
between (Aggregate i) = codes "/"
between (AggregateLevel i j) = codes "/"
between (AggregateMeasure i j) = codes "/"

-- a place as a path, as `cubes/0/measures/1/name`
unfoldable pub place_text : SchemaPlace → List ℕ
place_text (Node node) = node_text node
place_text (Key node key) = node_text node ++ (between node ++ key_text key)
