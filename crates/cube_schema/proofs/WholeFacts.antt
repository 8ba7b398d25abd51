-- A schema that is read is whole.
use Rattle.std.proofs.Common.{◌≡◌, ◌≢◌, ◌≤◌, ◌+◌, ◌∙◌, refl, sym, ap, subst, ℕ, List, [], ◌∷◌, length, Bool, true, false, not, Option, Some, None, is_some, Result, Ok, Err, IfOk, arith, bytes_eq, inl, inr}
use Rattle.std.proofs.lemmas.Bool.{cases_Bool}
use Rattle.std.proofs.lemmas.Iterator.Adapters.{position_from-zero}
use Rattle.std.proofs.lemmas.List.Elements.{All-nil}
use Rattle.std.specs.Prelude.{if◌then◌else◌}
use Rattle.std.specs.List.{All, list_any, position_from}
use Rattle.olap_meaning.specs.Schema.{IsWithinLimits, dimension_place}
use Rattle.olap_meaning.specs.Whole.{AreUsesNamed, IsLevelOf, IsMeasureOf, IsNamedCube, IsNamedDimension, IsTableOf, IsWhole, cube_named, has_level, has_use, hierarchy_named, is_average, measure_named}
use Rattle.olap_meaning.specs.declared.Aggregator.{Aggregator}
use Rattle.olap_meaning.specs.declared.Aggregator.TheVariants.{Sum, Count, Min, Max, Avg, DistinctCount}
use Rattle.olap_meaning.specs.declared.schema.TheConstants.{AGGREGATE_LIMIT, CUBE_LIMIT, DIMENSION_LIMIT, MEASURE_LIMIT, USE_LIMIT}
use Rattle.olap_meaning.specs.declared.schema.AggregateLevel.{AggregateLevel}
use Rattle.olap_meaning.specs.declared.schema.AggregateMeasure.{AggregateMeasure}
use Rattle.olap_meaning.specs.declared.schema.Schema.{Schema}
use Rattle.olap_meaning.specs.declared.schema.SchemaAggregate.{SchemaAggregate}
use Rattle.olap_meaning.specs.declared.schema.SchemaCube.{SchemaCube}
use Rattle.olap_meaning.specs.declared.schema.SchemaDimension.{SchemaDimension}
use Rattle.olap_meaning.specs.declared.schema.SchemaHierarchy.{SchemaHierarchy}
use Rattle.olap_meaning.specs.declared.schema.SchemaUse.{SchemaUse}
use Rattle.olap_meaning.specs.declared.tables.Measure.{Measure}
use Rattle.serde_json.specs.Data.{Data}
use Rattle.serde_json.specs.Find.{get}
use Rattle.cube_schema.specs.declared.fault.SchemaFault.{SchemaFault}
use Rattle.cube_schema.specs.declared.fault.SchemaFault.TheVariants.{TwiceNamed, UnknownDimension, UnknownLevel}
use Rattle.cube_schema.specs.declared.place.SchemaKey.{SchemaKey}
use Rattle.cube_schema.specs.declared.place.SchemaNode.{SchemaNode}
use Rattle.cube_schema.specs.declared.place.SchemaPlace.{SchemaPlace}
use Rattle.cube_schema.specs.declared.place.SchemaPlace.TheVariants.{Key}
use Rattle.cube_schema.specs.Aggregates.{aggregate_level_of, aggregate_measure_of, aggregate_of, count_column_at, has_aggregate, known_cube, known_hierarchy, known_measure, some_name_at, summed}
use Rattle.cube_schema.specs.Cubes.{cube_of, has_cube, measure_of, use_of}
use Rattle.cube_schema.specs.Dimensions.{dimension_of, has_dimension}
use Rattle.cube_schema.specs.Fields.{refused_if, object_at, name_at, file_at, optional_file_at}
use Rattle.cube_schema.specs.Lists.{any_number, at_most, items_at, some_at_most}
use Rattle.cube_schema.specs.Places.{key_text}
use Rattle.cube_schema.specs.Schemas.{aggregates_at, schema_in}
use Rattle.cube_schema.proofs.FirstFacts.{first_levels_all}
use Rattle.cube_schema.proofs.LimitFacts.{schema-limits}
use Rattle.cube_schema.proofs.ListFacts.{all-read, items_at-parts, items_from-length}
use Rattle.cube_schema.proofs.NameFacts.{cube_is_named, dimension_is_named}
use Rattle.cube_schema.proofs.StepFacts.{both-ok, same-ok, within-ok}

-- a test that must be passed, and was
passed : (test : Bool) (fault : SchemaFault) (u : Unit {0}) → refused_if (not test) fault ≡ Ok u → test ≡ true
passed true fault u e = refl
passed false fault u e = absurd (let n : ⊥ = cc in n)

-- ---- cubes

found_from : {A : Type 0} (p : A → Bool) (xs : List A) (n : ℕ) → list_any p xs ≡ true → is_some (position_from p n xs) ≡ true
found_from p [] n h = absurd (let n : ⊥ = cc in n)
found_from p (x ∷ xs) n h =
    elim (cases_Bool (p x)) [
      | inl passes ↦ rw passes refl
      | inr fails ↦ let rest = rw fails at h in rw fails (found_from p xs (n + 1) rest)
    ]

use_named : (dimensions : List SchemaDimension) (cube : ℕ) (earlier : List SchemaUse) (v : Data) (used : SchemaUse)
    → use_of dimensions cube earlier v ≡ Ok used → is_some (dimension_place dimensions used.source) ≡ true
unfolding use_of
use_named dimensions cube earlier v used e =
    let node = SchemaNode.Use cube (length earlier) in
    let place = Key node SchemaKey.Source in
    let whole = both-ok (object_at node v) _ used e in
    let source = both-ok (name_at node SchemaKey.Source whole.0) _ used whole.2 in
    let known = both-ok (refused_if (not (has_dimension source.0 dimensions)) (UnknownDimension place)) _ used source.2 in
    let fresh = both-ok (refused_if (has_use source.0 earlier) (TwiceNamed place)) _ used known.2 in
    let key = both-ok (name_at node SchemaKey.ForeignKey whole.0) _ used fresh.2 in
    let same = ap (λ (u : SchemaUse). u.source) (same-ok _ used key.2) in
    let has = subst (λ name. has_dimension name dimensions ≡ true) same (passed (has_dimension source.0 dimensions) (UnknownDimension place) known.0 known.1) in
    let p : SchemaDimension → Bool = λ d. bytes_eq used.source d.name in
    ap is_some (position_from-zero p dimensions) ∙ found_from p dimensions 0 has

cube_whole : (schema : Schema) (earlier : List SchemaCube) (v : Data) (cube : SchemaCube) → cube_of schema.dimensions earlier v ≡ Ok cube → AreUsesNamed schema cube
unfolding cube_of
cube_whole schema earlier v cube e =
    let dimensions = schema.dimensions in
    let i = length earlier in
    let node = SchemaNode.Cube i in
    let whole = both-ok (object_at node v) _ cube e in
    let name = both-ok (name_at node SchemaKey.Name whole.0) _ cube whole.2 in
    let fresh = both-ok (refused_if (has_cube name.0 earlier) (TwiceNamed (Key node SchemaKey.Name))) _ cube name.2 in
    let fact = both-ok (file_at node SchemaKey.Fact whole.0) _ cube fresh.2 in
    let uses = both-ok (items_at node SchemaKey.Dimensions (at_most USE_LIMIT) (use_of dimensions i) whole.0) _ cube fact.2 in
    let measures = both-ok (items_at node SchemaKey.Measures (some_at_most (SchemaNode.Measure i 0) MEASURE_LIMIT) (measure_of i) whole.0) _ cube uses.2 in
    subst (AreUsesNamed schema) (same-ok _ cube measures.2)
    (all-read (λ (u : SchemaUse). is_some (dimension_place dimensions u.source) ≡ true) node SchemaKey.Dimensions (at_most USE_LIMIT) (use_of dimensions i) whole.0 uses.0 (use_named dimensions i) uses.1)

-- ---- aggregate tables

cube-known : (place : SchemaPlace) (o : Option SchemaCube) (cube : SchemaCube) → known_cube place o ≡ Ok cube → o ≡ Some cube
cube-known place None cube e = absurd (let n : ⊥ = cc in n)
cube-known place (Some c) cube e = ap Some (same-ok c cube e)

hierarchy-known : (place : SchemaPlace) (o : Option SchemaHierarchy) (hierarchy : SchemaHierarchy) → known_hierarchy place o ≡ Ok hierarchy → o ≡ Some hierarchy
hierarchy-known place None hierarchy e = absurd (let n : ⊥ = cc in n)
hierarchy-known place (Some h) hierarchy e = ap Some (same-ok h hierarchy e)

summed-ok : (place : SchemaPlace) (a b : Aggregator) → summed place a ≡ Ok b → (a ≡ b) × (a ≢ DistinctCount)
summed-ok place Sum b e = (same-ok Sum b e, λ is. let n : ⊥ = cc in n)
summed-ok place Count b e = (same-ok Count b e, λ is. let n : ⊥ = cc in n)
summed-ok place Min b e = (same-ok Min b e, λ is. let n : ⊥ = cc in n)
summed-ok place Max b e = (same-ok Max b e, λ is. let n : ⊥ = cc in n)
summed-ok place Avg b e = (same-ok Avg b e, λ is. let n : ⊥ = cc in n)
summed-ok place DistinctCount b e = absurd (let n : ⊥ = cc in n)

measure-known : (place : SchemaPlace) (o : Option Measure) (a : Aggregator) → known_measure place o ≡ Ok a → (own : Measure) × (o ≡ Some own) × (own.aggregator ≡ a) × (own.aggregator ≢ DistinctCount)
measure-known place None a e = absurd (let n : ⊥ = cc in n)
measure-known place (Some m) a e = let both = summed-ok place m.aggregator a e in (m, refl, both.0, both.1)

counted : (node : SchemaNode) (a : Aggregator) (v : Data) (column : Option (List ℕ)) → count_column_at node a v ≡ Ok column → is_some column ≡ is_average a
unfolding count_column_at
counted node a v column e = by (is_average a) e
  where
    by : (b : Bool) → (if b then some_name_at node SchemaKey.CountColumn v else Ok None) ≡ Ok column → is_some column ≡ b
    by true e =
        let name = both-ok (name_at node SchemaKey.CountColumn v) _ column e in
        ap is_some (sym (same-ok (Some name.0) column name.2))
    by false e = ap is_some (sym (same-ok None column e))

level_whole : (schema : Schema) (cube : SchemaCube) (table : ℕ) (earlier : List AggregateLevel) (v : Data) (level : AggregateLevel)
    → aggregate_level_of schema.dimensions cube table earlier v ≡ Ok level → IsLevelOf schema cube level
unfolding aggregate_level_of
level_whole schema cube table earlier v level e =
    let node = SchemaNode.AggregateLevel table (length earlier) in
    let whole = both-ok (object_at node v) _ level e in
    let name = both-ok (name_at node SchemaKey.Hierarchy whole.0) _ level whole.2 in
    let place = Key node SchemaKey.Hierarchy in
    let known = both-ok (known_hierarchy place (hierarchy_named schema.dimensions cube name.0)) _ level name.2 in
    let own = both-ok (name_at node SchemaKey.Level whole.0) _ level known.2 in
    let fault = UnknownLevel (Key node SchemaKey.Level) in
    let has = both-ok (refused_if (not (has_level own.0 known.0.levels)) fault) _ level own.2 in
    let column = both-ok (name_at node SchemaKey.Column whole.0) _ level has.2 in
    subst (IsLevelOf schema cube) (same-ok _ level column.2)
    (record {
      hierarchy = known.0;
      named = hierarchy-known place (hierarchy_named schema.dimensions cube name.0) known.0 known.1;
      within = passed (has_level own.0 known.0.levels) fault has.0 has.1;
    })

measure_whole : (cube : SchemaCube) (table : ℕ) (earlier : List AggregateMeasure) (v : Data) (measure : AggregateMeasure)
    → aggregate_measure_of cube table earlier v ≡ Ok measure → IsMeasureOf cube measure
unfolding aggregate_measure_of
measure_whole cube table earlier v measure e =
    let node = SchemaNode.AggregateMeasure table (length earlier) in
    let whole = both-ok (object_at node v) _ measure e in
    let name = both-ok (name_at node SchemaKey.Measure whole.0) _ measure whole.2 in
    let place = Key node SchemaKey.Measure in
    let known = both-ok (known_measure place (measure_named cube name.0)) _ measure name.2 in
    let column = both-ok (name_at node SchemaKey.Column whole.0) _ measure known.2 in
    let count = both-ok (count_column_at node known.0 whole.0) _ measure column.2 in
    let own = measure-known place (measure_named cube name.0) known.0 known.1 in
    subst (IsMeasureOf cube) (same-ok _ measure count.2)
    (record {
      own = own.0;
      named = own.1;
      summed = own.3;
      counted = counted node known.0 whole.0 count.0 count.1 ∙ ap is_average (sym own.2);
    })

table_whole : (schema : Schema) (earlier : List SchemaAggregate) (v : Data) (aggregate : SchemaAggregate)
    → aggregate_of schema.dimensions schema.cubes earlier v ≡ Ok aggregate → IsTableOf schema aggregate
unfolding aggregate_of
table_whole schema earlier v aggregate e =
    let table = length earlier in
    let node = SchemaNode.Aggregate table in
    let whole = both-ok (object_at node v) _ aggregate e in
    let name = both-ok (name_at node SchemaKey.Name whole.0) _ aggregate whole.2 in
    let fresh = both-ok (refused_if (has_aggregate name.0 earlier) (TwiceNamed (Key node SchemaKey.Name))) _ aggregate name.2 in
    let cube_name = both-ok (name_at node SchemaKey.Cube whole.0) _ aggregate fresh.2 in
    let place = Key node SchemaKey.Cube in
    let cube = both-ok (known_cube place (cube_named schema.cubes cube_name.0)) _ aggregate cube_name.2 in
    let file = both-ok (optional_file_at node SchemaKey.File whole.0) _ aggregate cube.2 in
    let fact_count = both-ok (name_at node SchemaKey.FactCount whole.0) _ aggregate file.2 in
    let level = aggregate_level_of schema.dimensions cube.0 table in
    let levels = both-ok (items_at node SchemaKey.Levels any_number level whole.0) _ aggregate fact_count.2 in
    let measure = aggregate_measure_of cube.0 table in
    let measures = both-ok (items_at node SchemaKey.Measures any_number measure whole.0) _ aggregate levels.2 in
    let each_level = all-read (IsLevelOf schema cube.0) node SchemaKey.Levels any_number level whole.0 levels.0 (level_whole schema cube.0 table) levels.1 in
    subst (IsTableOf schema) (same-ok _ aggregate measures.2)
    (record {
      cube = cube.0;
      named = cube-known place (cube_named schema.cubes cube_name.0) cube.0 cube.1;
      levels = first_levels_all (IsLevelOf schema cube.0) [] levels.0 (All-nil (IsLevelOf schema cube.0)) each_level;
      measures = all-read (IsMeasureOf cube.0) node SchemaKey.Measures any_number measure whole.0 measures.0 (measure_whole cube.0 table) measures.1;
    })

-- some aggregate tables are few enough, and each is one of a schema
abbrev pub AreTables : Schema → List SchemaAggregate → Type 0
AreTables schema aggregates = (length aggregates ≤ AGGREGATE_LIMIT) × All (IsTableOf schema) aggregates

tables_whole : (schema : Schema) (v : Data) (aggregates : List SchemaAggregate) → aggregates_at schema.dimensions schema.cubes v ≡ Ok aggregates → AreTables schema aggregates
unfolding aggregates_at
tables_whole schema v aggregates e = by (is_some (get (key_text SchemaKey.Aggregates) v)) e
  where
    by : (b : Bool) → (if b then items_at SchemaNode.Schema SchemaKey.Aggregates (at_most AGGREGATE_LIMIT) (aggregate_of schema.dimensions schema.cubes) v else Ok []) ≡ Ok aggregates → AreTables schema aggregates
    by true e =
        let top = SchemaNode.Schema in
        let item = aggregate_of schema.dimensions schema.cubes in
        let parts = items_at-parts top SchemaKey.Aggregates (at_most AGGREGATE_LIMIT) item v aggregates e in
        let most = within-ok (Key top SchemaKey.Aggregates) (length parts.items) AGGREGATE_LIMIT tt parts.sized in
        let count = items_from-length item [] parts.items aggregates parts.read in
        (omega (arith, most, count), all-read (IsTableOf schema) top SchemaKey.Aggregates (at_most AGGREGATE_LIMIT) item v aggregates (table_whole schema) e)
    by false e = subst (AreTables schema) (same-ok [] aggregates e) (omega arith, All-nil (IsTableOf schema))

-- ---- schemas

pub schema_whole : (v : Data) (schema : Schema) → schema_in v ≡ Ok schema → IsWhole schema
unfolding schema_in
schema_whole v schema e =
    let top = SchemaNode.Schema in
    let whole = both-ok (object_at top v) _ schema e in
    let dimensions = both-ok (items_at top SchemaKey.Dimensions (at_most DIMENSION_LIMIT) dimension_of whole.0) _ schema whole.2 in
    let size = some_at_most (SchemaNode.Cube 0) CUBE_LIMIT in
    let cubes = both-ok (items_at top SchemaKey.Cubes size (cube_of dimensions.0) whole.0) _ schema dimensions.2 in
    let aggregates = both-ok (aggregates_at dimensions.0 cubes.0 whole.0) _ schema cubes.2 in
    let read : Schema = record { dimensions = dimensions.0; cubes = cubes.0; aggregates = aggregates.0 } in
    let same = same-ok read schema aggregates.2 in
    let named = all-read IsNamedDimension top SchemaKey.Dimensions (at_most DIMENSION_LIMIT) dimension_of whole.0 dimensions.0 dimension_is_named dimensions.1 in
    let named_cubes = all-read IsNamedCube top SchemaKey.Cubes size (cube_of dimensions.0) whole.0 cubes.0 (cube_is_named dimensions.0) cubes.1 in
    let uses = all-read (AreUsesNamed read) top SchemaKey.Cubes size (cube_of dimensions.0) whole.0 cubes.0 (cube_whole read) cubes.1 in
    let tables = tables_whole read whole.0 aggregates.0 aggregates.1 in
    let limits = subst IsWithinLimits (sym same) (schema-limits v schema e) in
    subst IsWhole same
    (record { limits = limits; named = named; named_cubes = named_cubes; uses = uses; few_tables = tables.0; tables = tables.1 })

pub whole-if-ok : (v : Data) (r : Result Schema SchemaFault) → IfOk r (λ schema. schema_in v ≡ Ok schema) → IfOk r (λ schema. IsWhole schema)
whole-if-ok v (Ok schema) e = schema_whole v schema e
whole-if-ok v (Err fault) e = tt
