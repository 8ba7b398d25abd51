-- Axes whose members a catalog knows.
use Rattle.std.specs.Prelude.{ℕ, ◌<◌, List, All, length}
use Rattle.olap_meaning.specs.declared.cells.Member.{Member}
use Rattle.olap_meaning.specs.declared.tables.Catalog.{Catalog}
use Rattle.olap_meaning.specs.MemberOf.{IsMemberOf}
use Rattle.query_meaning.specs.declared.axes.Axes.{Axes}
use Rattle.query_meaning.specs.Grids.{row_tuples}

-- the members of some tuples are ones that a catalog knows, their measures the cube's
abbrev pub AreTuplesOf : Catalog → ℕ → List (List Member) → Type 0
AreTuplesOf catalog cube tuples = All (All (IsMemberOf catalog cube)) tuples

-- axes are of a catalog: their cube is one of its cubes, and it knows their members and those of the slicer
pub record AreAxesOf (catalog : Catalog) (axes : Axes) : Type 0 where
  pub cube : axes.cube < length catalog.cubes
  pub columns : AreTuplesOf catalog axes.cube axes.columns.tuples
  pub rows : AreTuplesOf catalog axes.cube (row_tuples axes)
  pub slicer : All (IsMemberOf catalog axes.cube) axes.slicer
