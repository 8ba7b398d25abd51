-- What is known of a declared table, and of its file's columns.
use Rattle.std.specs.Prelude.{◌≡◌, ◌<◌, ◌++◌, List, [], ◌∷◌, Some, IsTrue, length, nat_lt, slice_get, if◌then◌else◌}
use Rattle.std.specs.List.{list_all}
use Rattle.olap_meaning.specs.declared.tables.Catalog.{Catalog}
use Rattle.olap_meaning.specs.declared.tables.Cube.{Cube}
use Rattle.olap_meaning.specs.Legal.{is_column_of}
use Rattle.agg_tables.specs.declared.declared.Declared.{Declared}
use Rattle.agg_tables.specs.declared.declared.Fold.{Fold}
use Rattle.agg_tables.specs.declared.declared.TableLevel.{TableLevel}
use Rattle.agg_tables.specs.Declarations.{has_column}

-- a table is one of a catalog: its levels are columns of its cube's dimensions, and its measures are its cube's, which
-- has one
pub record IsPlaced (catalog : Catalog) (declared : Declared) : Type 0 where
  pub cube : Cube
  pub known : slice_get catalog.cubes declared.cube ≡ Some cube
  pub own : IsTrue
      (list_all (λ level. is_column_of catalog cube.dimensions level.column) declared.levels)
  pub measured : IsTrue
      (list_all (λ own. nat_lt own.measure (length cube.measures)) declared.measures)
  pub some : 0 < length cube.measures

-- folds are of measures that a table's cube has
pub record AreFolds (catalog : Catalog) (declared : Declared) (folds : List Fold) : Type 0 where
  pub cube : Cube
  pub known : slice_get catalog.cubes declared.cube ≡ Some cube
  pub measured : IsTrue (list_all (λ fold. nat_lt fold.measure (length cube.measures)) folds)

-- a level is added to others where none of them has its column
abbrev pub with_level : List TableLevel → TableLevel → List TableLevel
with_level levels level = if has_column levels level.column then levels else levels ++ level ∷ []
