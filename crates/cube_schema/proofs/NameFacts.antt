-- No name of a schema that is read is empty.
use Rattle.std.proofs.Common.{◌≡◌, ◌≢◌, ◌+◌, ◌++◌, ◌||◌, ℕ, List, [], ◌∷◌, length, flat_map, true, Option, Some, None, Result, Ok, arith, ap, bytes_eq, codes, unwrap_or, subst}
use Rattle.olap_meaning.specs.FullNames.{joined_name}
use Rattle.olap_meaning.specs.Schema.{levels_of}
use Rattle.olap_meaning.specs.Whole.{IsNamedCube, IsNamedDimension, IsNamedHierarchy, has_level}
use Rattle.olap_meaning.specs.declared.schema.TheConstants.{MEASURE_LIMIT, USE_LIMIT}
use Rattle.olap_meaning.specs.declared.schema.SchemaCube.{SchemaCube}
use Rattle.olap_meaning.specs.declared.schema.SchemaDimension.{SchemaDimension}
use Rattle.olap_meaning.specs.declared.schema.SchemaHierarchy.{SchemaHierarchy}
use Rattle.olap_meaning.specs.declared.schema.SchemaLevel.{SchemaLevel}
use Rattle.olap_meaning.specs.declared.tables.Measure.{Measure}
use Rattle.serde_json.specs.Data.{Data, array, boolean, null, number, object, string}
use Rattle.serde_json.specs.Find.{get}
use Rattle.cube_schema.specs.declared.fault.SchemaFault.{SchemaFault}
use Rattle.cube_schema.specs.declared.fault.SchemaFault.TheVariants.{TwiceNamed}
use Rattle.cube_schema.specs.declared.place.SchemaKey.{SchemaKey}
use Rattle.cube_schema.specs.declared.place.SchemaKey.TheVariants.{AllMemberName, Column, Dimensions, Fact, HasAll, Hierarchies, Levels, Measures, Name, PrimaryKey, Table}
use Rattle.cube_schema.specs.declared.place.SchemaNode.{SchemaNode}
use Rattle.cube_schema.specs.declared.place.SchemaPlace.{SchemaPlace}
use Rattle.cube_schema.specs.declared.place.SchemaPlace.TheVariants.{Key, Node}
use Rattle.cube_schema.specs.Cubes.{aggregator_at, cube_of, has_cube, has_measure, measure_of, use_of}
use Rattle.cube_schema.specs.Dimensions.{all_full_names, default_all_member, dimension_of, full_names, has_dimension, hierarchy_of, is_taken, level_of, levels_in, some_beside}
use Rattle.cube_schema.specs.Fields.{bool_at, file_at, filled, filled_text, name_at, name_if_there, name_of, object_at, optional_name_at, refused_if, value_at, within}
use Rattle.cube_schema.specs.Lists.{at_most, items_at, some, some_at_most}
use Rattle.cube_schema.specs.Places.{key_text}
use Rattle.cube_schema.proofs.ListFacts.{all-read, items_at-parts, items_from-length}
use Rattle.cube_schema.proofs.StepFacts.{both-ok, same-ok}

-- ---- names under keys

text_filled : (place : SchemaPlace) (text name : List ℕ) → filled_text place text ≡ Ok name → name ≢ []
text_filled place [] name e is = cc
text_filled place (b ∷ bs) name e is = cc

name_filled : (place : SchemaPlace) (v : Data) (name : List ℕ) → name_of place v ≡ Ok name → name ≢ []
name_filled place (string text) name e = text_filled place text name e
name_filled place null name e = absurd (let n : ⊥ = cc in n)
name_filled place (boolean b) name e = absurd (let n : ⊥ = cc in n)
name_filled place (number m) name e = absurd (let n : ⊥ = cc in n)
name_filled place (array vs) name e = absurd (let n : ⊥ = cc in n)
name_filled place (object ms) name e = absurd (let n : ⊥ = cc in n)

-- a name that must be there
name_some : (node : SchemaNode) (key : SchemaKey) (v : Data) (name : List ℕ) → name_at node key v ≡ Ok name → name ≢ []
unfolding name_at
name_some node key v name e =
    let value = both-ok (value_at node key v) _ name e in
    name_filled (Key node key) value.0 name value.2

default_filled : (place : SchemaPlace) (found : Option Data) (own : Option (List ℕ)) (default : List ℕ)
    → name_if_there place found ≡ Ok own → default ≢ [] → unwrap_or own default ≢ []
default_filled place None own default e filled = subst (λ (o : Option (List ℕ)). unwrap_or o default ≢ []) (same-ok None own e) filled
default_filled place (Some v) own default e filled =
    let name = both-ok (name_of place v) _ own e in
    subst (λ (o : Option (List ℕ)). unwrap_or o default ≢ []) (same-ok (Some name.0) own name.2) (name_filled place v name.0 name.1)

-- a name that need not be there, or its default
default_some : (node : SchemaNode) (key : SchemaKey) (v : Data) (own : Option (List ℕ)) (default : List ℕ)
    → optional_name_at node key v ≡ Ok own → default ≢ [] → unwrap_or own default ≢ []
unfolding optional_name_at
default_some node key v own default e filled = default_filled (Key node key) (get (key_text key) v) own default e filled

all_member_some : (hierarchy : List ℕ) → default_all_member hierarchy ≢ []
all_member_some hierarchy is = cc

-- ---- dimensions

level_is_named : (i j : ℕ) (earlier : List SchemaLevel) (v : Data) (level : SchemaLevel) → level_of i j earlier v ≡ Ok level → level.name ≢ []
unfolding level_of
level_is_named i j earlier v level e =
    let node = SchemaNode.Level i j (length earlier) in
    let whole = both-ok (object_at node v) _ level e in
    let name = both-ok (name_at node Name whole.0) _ level whole.2 in
    let fresh = both-ok (refused_if (has_level name.0 earlier) (TwiceNamed (Key node Name))) _ level name.2 in
    let column = both-ok (name_at node Column whole.0) _ level fresh.2 in
    subst (λ (l : SchemaLevel). l.name ≢ []) (same-ok _ level column.2) (name_some node Name whole.0 name.0 name.1)

hierarchy_is_named : (dimensions : List SchemaDimension) (n : List ℕ) (earlier : List SchemaHierarchy) (v : Data) (hierarchy : SchemaHierarchy)
    → n ≢ [] → hierarchy_of dimensions n earlier v ≡ Ok hierarchy → IsNamedHierarchy hierarchy
unfolding hierarchy_of
hierarchy_is_named dimensions n earlier v hierarchy filled e =
    let i = length dimensions in
    let j = length earlier in
    let node = SchemaNode.Hierarchy i j in
    let taken = all_full_names dimensions ++ full_names n earlier in
    let size = some_beside (SchemaNode.Level i j 0) (length (flat_map levels_of dimensions) + length (levels_in earlier)) in
    let whole = both-ok (object_at node v) _ hierarchy e in
    let own = both-ok (optional_name_at node Name whole.0) _ hierarchy whole.2 in
    let name = unwrap_or own.0 n in
    let fresh = both-ok (refused_if (is_taken (joined_name n name) taken) (TwiceNamed (Node node))) _ hierarchy own.2 in
    let has_all = both-ok (bool_at node HasAll true whole.0) _ hierarchy fresh.2 in
    let all_member = both-ok (optional_name_at node AllMemberName whole.0) _ hierarchy has_all.2 in
    let levels = both-ok (items_at node Levels size (level_of i j) whole.0) _ hierarchy all_member.2 in
    subst IsNamedHierarchy (same-ok _ hierarchy levels.2)
    (record {
      own = default_some node Name whole.0 own.0 n own.1 filled;
      all_member = default_some node AllMemberName whole.0 all_member.0 (default_all_member name) all_member.1 (all_member_some name);
      levels = all-read (λ (l : SchemaLevel). l.name ≢ []) node Levels size (level_of i j) whole.0 levels.0 (level_is_named i j) levels.1;
    })

pub dimension_is_named : (earlier : List SchemaDimension) (v : Data) (dimension : SchemaDimension) → dimension_of earlier v ≡ Ok dimension → IsNamedDimension dimension
unfolding dimension_of
dimension_is_named earlier v dimension e =
    let i = length earlier in
    let node = SchemaNode.Dimension i in
    let size = some (SchemaNode.Hierarchy i 0) in
    let whole = both-ok (object_at node v) _ dimension e in
    let name = both-ok (name_at node Name whole.0) _ dimension whole.2 in
    let fresh = both-ok (refused_if (bytes_eq name.0 (codes "Measures") || has_dimension name.0 earlier) (TwiceNamed (Key node Name))) _ dimension name.2 in
    let table = both-ok (file_at node Table whole.0) _ dimension fresh.2 in
    let primary_key = both-ok (name_at node PrimaryKey whole.0) _ dimension table.2 in
    let item = hierarchy_of earlier name.0 in
    let hierarchies = both-ok (items_at node Hierarchies size item whole.0) _ dimension primary_key.2 in
    let filled = name_some node Name whole.0 name.0 name.1 in
    let each = λ (before : List SchemaHierarchy) (w : Data) (h : SchemaHierarchy). hierarchy_is_named earlier name.0 before w h filled in
    subst IsNamedDimension (same-ok _ dimension hierarchies.2)
    (record {
      own = filled;
      hierarchies = all-read IsNamedHierarchy node Hierarchies size item whole.0 hierarchies.0 each hierarchies.1;
    })

-- ---- cubes

measure_is_named : (i : ℕ) (earlier : List Measure) (v : Data) (measure : Measure) → measure_of i earlier v ≡ Ok measure → measure.name ≢ []
unfolding measure_of
measure_is_named i earlier v measure e =
    let node = SchemaNode.Measure i (length earlier) in
    let whole = both-ok (object_at node v) _ measure e in
    let name = both-ok (name_at node Name whole.0) _ measure whole.2 in
    let fresh = both-ok (refused_if (has_measure name.0 earlier) (TwiceNamed (Key node Name))) _ measure name.2 in
    let column = both-ok (name_at node Column whole.0) _ measure fresh.2 in
    let aggregator = both-ok (aggregator_at node whole.0) _ measure column.2 in
    subst (λ (m : Measure). m.name ≢ []) (same-ok _ measure aggregator.2) (name_some node Name whole.0 name.0 name.1)

-- a list that has an item is no list of none
filled-some : (first : SchemaNode) (items : List Data) → filled first items ≡ Ok tt → length items ≢ 0
filled-some first [] e none = let n : ⊥ = cc in n
filled-some first (d ∷ ds) e none = let n : ⊥ = omega (arith, none) in n

-- a list that must have an item was read, so it has one
some-read : {A : Type 0} (node : SchemaNode) (key : SchemaKey) (first : SchemaNode) (limit : ℕ) (item : List A → Data → Result A SchemaFault) (v : Data) (found : List A)
    → items_at node key (some_at_most first limit) item v ≡ Ok found → found ≢ []
some-read node key first limit item v found e none =
    let parts = items_at-parts node key (some_at_most first limit) item v found e in
    let count = items_from-length item [] parts.items found parts.read in
    let sized = both-ok (within (Key node key) (length parts.items) limit) _ tt parts.sized in
    filled-some first parts.items sized.2 (omega (arith, count, ap length none))

pub cube_is_named : (dimensions : List SchemaDimension) (earlier : List SchemaCube) (v : Data) (cube : SchemaCube) → cube_of dimensions earlier v ≡ Ok cube → IsNamedCube cube
unfolding cube_of
cube_is_named dimensions earlier v cube e =
    let i = length earlier in
    let node = SchemaNode.Cube i in
    let size = some_at_most (SchemaNode.Measure i 0) MEASURE_LIMIT in
    let whole = both-ok (object_at node v) _ cube e in
    let name = both-ok (name_at node Name whole.0) _ cube whole.2 in
    let fresh = both-ok (refused_if (has_cube name.0 earlier) (TwiceNamed (Key node Name))) _ cube name.2 in
    let fact = both-ok (file_at node Fact whole.0) _ cube fresh.2 in
    let uses = both-ok (items_at node Dimensions (at_most USE_LIMIT) (use_of dimensions i) whole.0) _ cube fact.2 in
    let measures = both-ok (items_at node Measures size (measure_of i) whole.0) _ cube uses.2 in
    subst IsNamedCube (same-ok _ cube measures.2)
    (record {
      own = name_some node Name whole.0 name.0 name.1;
      some = some-read node Measures (SchemaNode.Measure i 0) MEASURE_LIMIT (measure_of i) whole.0 measures.0 measures.1;
      measures = all-read (λ (m : Measure). m.name ≢ []) node Measures size (measure_of i) whole.0 measures.0 (measure_is_named i) measures.1;
    })
