-- What a declared aggregate table is in a catalog. (Aggregate Tables)
use Rattle.std.specs.Prelude.{ℕ, zero, suc, List, [], ◌∷◌, ◌++◌, Bool, ◌==◌, ◌&&◌, not, Option, option_and_then, option_map, filter, filter_map, find, position, slice_get, bytes_eq, if◌then◌else◌}
use Rattle.std.specs.List.{list_any}
use Rattle.olap_meaning.specs.declared.schema.AggregateLevel.{AggregateLevel}
use Rattle.olap_meaning.specs.declared.schema.AggregateMeasure.{AggregateMeasure}
use Rattle.olap_meaning.specs.declared.schema.SchemaAggregate.{SchemaAggregate}
use Rattle.olap_meaning.specs.declared.tables.Catalog.{Catalog}
use Rattle.olap_meaning.specs.declared.tables.Cube.{Cube}
use Rattle.olap_meaning.specs.declared.tables.Hierarchy.{Hierarchy}
use Rattle.olap_meaning.specs.declared.tables.Measure.{Measure}
use Rattle.olap_meaning.specs.Catalog.{full_name, table_cube}
use Rattle.olap_meaning.specs.Covering.{among}
use Rattle.olap_meaning.specs.History.{is_some_and}
use Rattle.agg_tables.specs.declared.declared.Declared.{Declared}
use Rattle.agg_tables.specs.declared.declared.TableLevel.{TableLevel}
use Rattle.agg_tables.specs.declared.declared.TableMeasure.{TableMeasure}

-- a hierarchy is the one of a cube with this full name
abbrev pub is_hierarchy : Catalog → Cube → List ℕ → Hierarchy → Bool
is_hierarchy catalog cube name hierarchy =
    among cube.dimensions hierarchy.dimension && bytes_eq name (full_name catalog hierarchy)

-- a column is that of a level of this name
abbrev pub is_named : Catalog → List ℕ → ℕ → Bool
is_named catalog name column =
    is_some_and (λ own. bytes_eq name own.name) (slice_get catalog.columns column)

-- the column of the catalog that a level of a cube's table has the values of: that of the level of this name, in the
-- cube's hierarchy of this full name
abbrev pub level_column : Catalog → Cube → AggregateLevel → Option ℕ
level_column catalog cube level =
    option_and_then
    (λ hierarchy. find (is_named catalog level.level) hierarchy.levels)
    (find (is_hierarchy catalog cube level.hierarchy) catalog.hierarchies)

-- a level as the table has it: the catalog's column, and the name of the table's
abbrev pub table_level : Catalog → Cube → AggregateLevel → Option TableLevel
table_level catalog cube level =
    option_map
    (λ column. record { column = column; name = level.column }) (level_column catalog cube level)

-- some levels have a column of the catalog
abbrev pub has_column : List TableLevel → ℕ → Bool
has_column levels column = list_any (λ level. level.column == column) levels

-- each column of the catalog once, by the first level that has it
abbrev pub each_once : List TableLevel → List TableLevel
each_once [] = []
each_once (level ∷ levels) =
    level ∷ filter (λ later. not (level.column == later.column)) (each_once levels)

-- the levels of a cube's table, in the order of the schema
abbrev pub levels_of : Catalog → Cube → List AggregateLevel → List TableLevel
levels_of catalog cube levels = each_once (filter_map (table_level catalog cube) levels)

-- a measure of a cube, by its place, with the columns that a table has for it
abbrev pub measure_with : ℕ → AggregateMeasure → Measure → TableMeasure
measure_with place declared measure =
    record {
      measure = place;
      aggregator = measure.aggregator;
      column = declared.column;
      count_column = declared.count_column;
    }

-- a measure as the table has it: the cube's measure of this name
abbrev pub table_measure : Cube → AggregateMeasure → Option TableMeasure
table_measure cube declared =
    option_and_then
    (λ place. option_map (measure_with place declared) (slice_get cube.measures place))
    (position (λ measure. bytes_eq declared.measure measure.name) cube.measures)

-- the measures of a cube's table, in the order of the schema
abbrev pub measures_of : Cube → List AggregateMeasure → List TableMeasure
measures_of cube measures = filter_map (table_measure cube) measures

-- what a table of a cube is: the cube's place, the column with the number of fact rows, its levels and its measures
abbrev pub declared_for : Catalog → SchemaAggregate → ℕ → Cube → Declared
declared_for catalog table place cube =
    record {
      cube = place;
      fact_count = table.fact_count;
      levels = levels_of catalog cube table.levels;
      measures = measures_of cube table.measures;
    }

-- the table that a schema declares at a place
abbrev pub declared_table : Catalog → ℕ → Option Declared
declared_table catalog table =
    option_and_then
    (λ own. option_and_then
    (λ place. option_map (declared_for catalog own place) (slice_get catalog.cubes place))
    (table_cube catalog table))
    (slice_get catalog.schema.aggregates table)

-- the columns of some levels, rising, as far as they are below a number
abbrev pub columns_below : List TableLevel → ℕ → List ℕ
columns_below levels zero = []
columns_below levels (suc column) =
    columns_below levels column ++ (if has_column levels column then column ∷ [] else [])
