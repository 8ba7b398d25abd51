-- What a reader of dimensions keeps of those that it has read.
use Rattle.std.specs.Prelude.{◌≡◌, ◌+◌, ◌≤◌, ◌++◌, ℕ, List, length, flat_map}
use Rattle.olap_meaning.specs.Schema.{levels_of}
use Rattle.olap_meaning.specs.declared.schema.TheConstants.{LEVEL_LIMIT}
use Rattle.olap_meaning.specs.declared.schema.SchemaDimension.{SchemaDimension}
use Rattle.olap_meaning.specs.declared.schema.SchemaHierarchy.{SchemaHierarchy}
use Rattle.cube_schema.specs.declared.hierarchies.Taken.{Taken}
use Rattle.cube_schema.specs.Dimensions.{all_full_names, full_names, levels_in}

-- it is what some dimensions have: the full names of their hierarchies, and the number of their levels
pub record IsTakenBy (dimensions : List SchemaDimension) (taken : Taken) : Type 0 where
  pub names : taken.names ≡ all_full_names dimensions
  pub levels : taken.levels ≡ length (flat_map levels_of dimensions)
  pub room : taken.levels ≤ LEVEL_LIMIT

-- it is what some dimensions have, and some hierarchies of the dimension of this name that follows them
pub record IsTakenWith (dimensions : List SchemaDimension) (name : List ℕ)
    (earlier : List SchemaHierarchy) (taken : Taken) : Type 0 where
  pub names : taken.names ≡ all_full_names dimensions ++ full_names name earlier
  pub levels : taken.levels ≡ length (flat_map levels_of dimensions) + length (levels_in earlier)
  pub room : taken.levels ≤ LEVEL_LIMIT
