-- A schema that is read is within the limits.
use Rattle.std.proofs.Common.{◌≡◌, ℕ, ◌+◌, ◌≤◌, List, [], ◌∷◌, ◌++◌, length, flat_map, true, unwrap_or, Ok, ap, subst, ◌∙◌, arith, length-append, ◌||◌, bytes_eq, codes}
use Rattle.std.proofs.lemmas.List.Elements.{All-nil, All-push}
use Rattle.std.specs.List.{All}
use Rattle.olap_meaning.specs.FullNames.{joined_name}
use Rattle.olap_meaning.specs.Schema.{IsWithinCube, IsWithinLimits, levels_of}
use Rattle.olap_meaning.specs.declared.schema.TheConstants.{DIMENSION_LIMIT, CUBE_LIMIT, LEVEL_LIMIT, USE_LIMIT, MEASURE_LIMIT}
use Rattle.olap_meaning.specs.declared.schema.Schema.{Schema}
use Rattle.olap_meaning.specs.declared.schema.SchemaCube.{SchemaCube}
use Rattle.olap_meaning.specs.declared.schema.SchemaDimension.{SchemaDimension}
use Rattle.olap_meaning.specs.declared.schema.SchemaHierarchy.{SchemaHierarchy}
use Rattle.olap_meaning.specs.declared.schema.SchemaLevel.{SchemaLevel}
use Rattle.olap_meaning.specs.declared.schema.SchemaUse.{SchemaUse}
use Rattle.olap_meaning.specs.declared.tables.Measure.{Measure}
use Rattle.serde_json.specs.Data.{Data}
use Rattle.cube_schema.specs.declared.fault.SchemaFault.TheVariants.{TwiceNamed}
use Rattle.cube_schema.specs.declared.place.SchemaKey.TheVariants.{Dimensions, Cubes, Name, Table, PrimaryKey, Hierarchies, HasAll, AllMemberName, Levels, Fact, Measures}
use Rattle.cube_schema.specs.declared.place.SchemaNode.TheVariants as SchemaNode
use Rattle.cube_schema.specs.declared.place.SchemaPlace.TheVariants.{Node, Key}
use Rattle.cube_schema.specs.Cubes.{cube_of, has_cube, measure_of, use_of}
use Rattle.cube_schema.specs.Dimensions.{all_full_names, dimension_of, full_names, has_dimension, hierarchy_of, is_taken, level_of, levels_in, some_beside}
use Rattle.cube_schema.specs.Fields.{refused_if, object_at, name_at, optional_name_at, file_at, bool_at, within}
use Rattle.cube_schema.specs.Lists.{at_most, items_at, items_from, some, some_at_most}
use Rattle.cube_schema.specs.Schemas.{aggregates_at, schema_in}
use Rattle.cube_schema.proofs.ListFacts.{items_at-parts, items_from-keep, items_from-length}
use Rattle.cube_schema.proofs.StepFacts.{both-ok, same-ok, within-ok, filled-ok}
use Rattle.cube_schema.proofs.TakenFacts.{flat_more}

-- ---- dimensions

-- some hierarchies, which each have a level, and with this many other levels at most as many as a schema may have
pub record AreCounted (others : ℕ) (hierarchies : List SchemaHierarchy) : Type 0 where
  pub room : others + length (levels_in hierarchies) ≤ LEVEL_LIMIT
  pub each : length hierarchies ≤ length (levels_in hierarchies)

levels-count : (i j others : ℕ) (v : Data) (levels : List SchemaLevel)
    → items_at (SchemaNode.Hierarchy i j) Levels (some_beside (SchemaNode.Level i j 0) others) (level_of i j) v ≡ Ok levels
    → (1 ≤ length levels) × (others + length levels ≤ LEVEL_LIMIT)
levels-count i j others v levels e =
    let place = Key (SchemaNode.Hierarchy i j) Levels in
    let parts = items_at-parts (SchemaNode.Hierarchy i j) Levels (some_beside (SchemaNode.Level i j 0) others) (level_of i j) v levels e in
    let room = both-ok (within place (others + length parts.items) LEVEL_LIMIT) _ tt parts.sized in
    let count : length levels ≡ 0 + length parts.items = items_from-length (level_of i j) [] parts.items levels parts.read in
    let least = filled-ok (SchemaNode.Level i j 0) parts.items tt room.2 in
    let most = within-ok place (others + length parts.items) LEVEL_LIMIT room.0 room.1 in
    (omega (arith, count, least), omega (arith, count, most))

hierarchy-count : (dimensions : List SchemaDimension) (n : List ℕ) (earlier : List SchemaHierarchy) (v : Data) (hierarchy : SchemaHierarchy) → hierarchy_of dimensions n earlier v ≡ Ok hierarchy
    → (1 ≤ length hierarchy.levels) × (length (flat_map levels_of dimensions) + length (levels_in earlier) + length hierarchy.levels ≤ LEVEL_LIMIT)
unfolding hierarchy_of
hierarchy-count dimensions n earlier v hierarchy e =
    let i = length dimensions in
    let j = length earlier in
    let node = SchemaNode.Hierarchy i j in
    let others = length (flat_map levels_of dimensions) + length (levels_in earlier) in
    let whole = both-ok (object_at node v) _ hierarchy e in
    let own = both-ok (optional_name_at node Name whole.0) _ hierarchy whole.2 in
    let fresh = both-ok (refused_if (is_taken (joined_name n (unwrap_or own.0 n)) (all_full_names dimensions ++ full_names n earlier)) (TwiceNamed (Node node))) _ hierarchy own.2 in
    let has_all = both-ok (bool_at node HasAll true whole.0) _ hierarchy fresh.2 in
    let all_member = both-ok (optional_name_at node AllMemberName whole.0) _ hierarchy has_all.2 in
    let levels = both-ok (items_at node Levels (some_beside (SchemaNode.Level i j 0) others) (level_of i j) whole.0) _ hierarchy all_member.2 in
    let same = ap (λ (h : SchemaHierarchy). h.levels) (same-ok _ hierarchy levels.2) in
    let P : List SchemaLevel → Type 0 = λ ls. (1 ≤ length ls) × (others + length ls ≤ LEVEL_LIMIT) in
    subst P same (levels-count i j others whole.0 levels.0 levels.1)

hierarchies-count : (dimensions : List SchemaDimension) (n : List ℕ) (items : List Data) (found : List SchemaHierarchy)
    → length (flat_map levels_of dimensions) ≤ LEVEL_LIMIT → items_from (hierarchy_of dimensions n) [] items ≡ Ok found → AreCounted (length (flat_map levels_of dimensions)) found
hierarchies-count dimensions n items found room e =
    items_from-keep (hierarchy_of dimensions n) (AreCounted (length (flat_map levels_of dimensions))) more [] items found (record { room = omega arith; each = omega arith }) e
  where
    more : (earlier : List SchemaHierarchy) (v : Data) (x : SchemaHierarchy) → hierarchy_of dimensions n earlier v ≡ Ok x
        → AreCounted (length (flat_map levels_of dimensions)) earlier → AreCounted (length (flat_map levels_of dimensions)) (earlier ++ x ∷ [])
    more earlier v x is h =
        let one = hierarchy-count dimensions n earlier v x is in
        let added = ap length (flat_more (λ (y : SchemaHierarchy). y.levels) earlier x) ∙ length-append (levels_in earlier) x.levels in
        record { room = omega (arith, added, one.1); each = omega (arith, added, one.0, h.each, length-append earlier (x ∷ [])) }

-- some dimensions, whose hierarchies each have a level, and of which there are at most as many as a schema may have
pub record AreMeasured (dimensions : List SchemaDimension) : Type 0 where
  pub room : length (flat_map levels_of dimensions) ≤ LEVEL_LIMIT
  pub each : length (flat_map (λ dimension. dimension.hierarchies) dimensions) ≤ length (flat_map levels_of dimensions)

dimension-count : (earlier : List SchemaDimension) (v : Data) (dimension : SchemaDimension)
    → dimension_of earlier v ≡ Ok dimension → AreMeasured earlier → AreCounted (length (flat_map levels_of earlier)) dimension.hierarchies
unfolding dimension_of
dimension-count earlier v dimension e h =
    let i = length earlier in
    let node = SchemaNode.Dimension i in
    let whole = both-ok (object_at node v) _ dimension e in
    let name = both-ok (name_at node Name whole.0) _ dimension whole.2 in
    let fresh = both-ok (refused_if (bytes_eq name.0 (codes "Measures") || has_dimension name.0 earlier) (TwiceNamed (Key node Name))) _ dimension name.2 in
    let table = both-ok (file_at node Table whole.0) _ dimension fresh.2 in
    let primary_key = both-ok (name_at node PrimaryKey whole.0) _ dimension table.2 in
    let hierarchies = both-ok (items_at node Hierarchies (some (SchemaNode.Hierarchy i 0)) (hierarchy_of earlier name.0) whole.0) _ dimension primary_key.2 in
    let parts = items_at-parts node Hierarchies (some (SchemaNode.Hierarchy i 0)) (hierarchy_of earlier name.0) whole.0 hierarchies.0 hierarchies.1 in
    let same = ap (λ (d : SchemaDimension). d.hierarchies) (same-ok _ dimension hierarchies.2) in
    subst (AreCounted (length (flat_map levels_of earlier))) same (hierarchies-count earlier name.0 parts.items hierarchies.0 h.room parts.read)

dimensions-count : (items : List Data) (found : List SchemaDimension) → items_from dimension_of [] items ≡ Ok found → AreMeasured found
dimensions-count items found e = items_from-keep dimension_of AreMeasured more [] items found (record { room = omega arith; each = omega arith }) e
  where
    more : (earlier : List SchemaDimension) (v : Data) (x : SchemaDimension) → dimension_of earlier v ≡ Ok x → AreMeasured earlier → AreMeasured (earlier ++ x ∷ [])
    more earlier v x is h =
        let one = dimension-count earlier v x is h in
        let levels = ap length (flat_more levels_of earlier x) ∙ length-append (flat_map levels_of earlier) (levels_of x) in
        let hierarchies = ap length (flat_more (λ (d : SchemaDimension). d.hierarchies) earlier x) ∙ length-append (flat_map (λ (d : SchemaDimension). d.hierarchies) earlier) x.hierarchies in
        record { room = omega (arith, levels, one.room); each = omega (arith, levels, hierarchies, one.each, h.each) }

-- ---- cubes

uses-count : (dimensions : List SchemaDimension) (i : ℕ) (v : Data) (uses : List SchemaUse)
    → items_at (SchemaNode.Cube i) Dimensions (at_most USE_LIMIT) (use_of dimensions i) v ≡ Ok uses → length uses ≤ USE_LIMIT
uses-count dimensions i v uses e =
    let parts = items_at-parts (SchemaNode.Cube i) Dimensions (at_most USE_LIMIT) (use_of dimensions i) v uses e in
    let limit = within-ok (Key (SchemaNode.Cube i) Dimensions) (length parts.items) USE_LIMIT tt parts.sized in
    omega (arith, limit, items_from-length (use_of dimensions i) [] parts.items uses parts.read)

measures-count : (i : ℕ) (v : Data) (measures : List Measure)
    → items_at (SchemaNode.Cube i) Measures (some_at_most (SchemaNode.Measure i 0) MEASURE_LIMIT) (measure_of i) v ≡ Ok measures → length measures ≤ MEASURE_LIMIT
measures-count i v measures e =
    let place = Key (SchemaNode.Cube i) Measures in
    let parts = items_at-parts (SchemaNode.Cube i) Measures (some_at_most (SchemaNode.Measure i 0) MEASURE_LIMIT) (measure_of i) v measures e in
    let most = both-ok (within place (length parts.items) MEASURE_LIMIT) _ tt parts.sized in
    let limit = within-ok place (length parts.items) MEASURE_LIMIT most.0 most.1 in
    omega (arith, limit, items_from-length (measure_of i) [] parts.items measures parts.read)

cube-count : (dimensions : List SchemaDimension) (earlier : List SchemaCube) (v : Data) (cube : SchemaCube) → cube_of dimensions earlier v ≡ Ok cube → IsWithinCube cube
unfolding cube_of
cube-count dimensions earlier v cube e =
    let i = length earlier in
    let node = SchemaNode.Cube i in
    let whole = both-ok (object_at node v) _ cube e in
    let name = both-ok (name_at node Name whole.0) _ cube whole.2 in
    let fresh = both-ok (refused_if (has_cube name.0 earlier) (TwiceNamed (Key node Name))) _ cube name.2 in
    let fact = both-ok (file_at node Fact whole.0) _ cube fresh.2 in
    let uses = both-ok (items_at node Dimensions (at_most USE_LIMIT) (use_of dimensions i) whole.0) _ cube fact.2 in
    let measures = both-ok (items_at node Measures (some_at_most (SchemaNode.Measure i 0) MEASURE_LIMIT) (measure_of i) whole.0) _ cube uses.2 in
    subst IsWithinCube (same-ok _ cube measures.2)
    (record { dimensions = uses-count dimensions i whole.0 uses.0 uses.1; measures = measures-count i whole.0 measures.0 measures.1 })

cubes-count : (dimensions : List SchemaDimension) (items : List Data) (found : List SchemaCube) → items_from (cube_of dimensions) [] items ≡ Ok found → All IsWithinCube found
cubes-count dimensions items found e = items_from-keep (cube_of dimensions) (All IsWithinCube) more [] items found (All-nil IsWithinCube) e
  where
    more : (earlier : List SchemaCube) (v : Data) (x : SchemaCube) → cube_of dimensions earlier v ≡ Ok x → All IsWithinCube earlier → All IsWithinCube (earlier ++ x ∷ [])
    more earlier v x is h = All-push IsWithinCube earlier x h (cube-count dimensions earlier v x is)

-- ---- schemas

pub schema-limits : (v : Data) (schema : Schema) → schema_in v ≡ Ok schema → IsWithinLimits schema
unfolding schema_in
schema-limits v schema e =
    let top = SchemaNode.Schema in
    let whole = both-ok (object_at top v) _ schema e in
    let dimensions = both-ok (items_at top Dimensions (at_most DIMENSION_LIMIT) dimension_of whole.0) _ schema whole.2 in
    let cubes = both-ok (items_at top Cubes (some_at_most (SchemaNode.Cube 0) CUBE_LIMIT) (cube_of dimensions.0) whole.0) _ schema dimensions.2 in
    let aggregates = both-ok (aggregates_at dimensions.0 cubes.0 whole.0) _ schema cubes.2 in
    let d = items_at-parts top Dimensions (at_most DIMENSION_LIMIT) dimension_of whole.0 dimensions.0 dimensions.1 in
    let c = items_at-parts top Cubes (some_at_most (SchemaNode.Cube 0) CUBE_LIMIT) (cube_of dimensions.0) whole.0 cubes.0 cubes.1 in
    let most_dimensions = within-ok (Key top Dimensions) (length d.items) DIMENSION_LIMIT tt d.sized in
    let most = both-ok (within (Key top Cubes) (length c.items) CUBE_LIMIT) _ tt c.sized in
    let most_cubes = within-ok (Key top Cubes) (length c.items) CUBE_LIMIT most.0 most.1 in
    let measured = dimensions-count d.items dimensions.0 d.read in
    subst IsWithinLimits (same-ok _ schema aggregates.2)
    (record {
      dimensions = omega (arith, most_dimensions, items_from-length dimension_of [] d.items dimensions.0 d.read);
      hierarchies = omega (arith, measured.each, measured.room);
      levels = measured.room;
      cubes = omega (arith, most_cubes, items_from-length (cube_of dimensions.0) [] c.items cubes.0 c.read);
      each = cubes-count dimensions.0 c.items cubes.0 c.read;
    })
