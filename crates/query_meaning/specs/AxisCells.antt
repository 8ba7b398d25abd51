-- The cells of a query's axes.
use Rattle.std.specs.Prelude.{ℕ, ◌++◌, List, [], map, flat_map, find, Option}
use Rattle.std.specs.Option.{option_map_or, option_or}
use Rattle.olap_meaning.specs.declared.tables.Catalog.{Catalog}
use Rattle.olap_meaning.specs.declared.cells.Cell.{Cell}
use Rattle.olap_meaning.specs.declared.cells.Member.{Member}
use Rattle.olap_meaning.specs.declared.cells.Member.TheVariants as member
use Rattle.olap_meaning.specs.declared.cells.LevelRef.{LevelRef}
use Rattle.olap_meaning.specs.declared.cells.LevelRef.TheVariants.{Measures, Whole}
use Rattle.olap_meaning.specs.Catalog.{box, default_member, hierarchies_within}
use Rattle.query_meaning.specs.declared.axes.Axes.{Axes}
use Rattle.query_meaning.specs.Grids.{row_tuples}
use Rattle.query_meaning.specs.Resolution.{is_root, root_of}

-- the member on which a root stands in a cell: the first of the cell's members that is of the root, or else the root's
-- default member
abbrev pub standing_among : Catalog → ℕ → List Member → LevelRef → Option Member
standing_among catalog cube members root =
    option_or
    (find (λ one. is_root (root_of one) root) members) (default_member catalog cube root)

-- the number of a measure, and 0 for another member
abbrev pub measure_number : Member → ℕ
measure_number (member.Measure m) = m
measure_number (member.All h) = 0
measure_number (member.At h path) = 0

-- the cell of some members of a cube: of the measure among them, or else the cube's first, where each hierarchy of the
-- cube's dimensions stands on its member among them, or else on its default member. A hierarchy without any member
-- leaves its columns open: its dimension has no record, and so no fact row has a leaf of it
abbrev pub cell_among : Catalog → ℕ → List Member → Cell
cell_among catalog cube members = record {
  cube = cube;
  measure = option_map_or measure_number (standing_among catalog cube members Measures) 0;
  at = flat_map
      (λ h. option_map_or (box catalog) (standing_among catalog cube members (Whole h)) [])
      (hierarchies_within catalog cube);
}

-- the cells of axes: row by row, columns fastest
abbrev pub cells_of : Catalog → Axes → List Cell
cells_of catalog axes =
    flat_map
    (λ row. map
    (λ column. cell_among catalog axes.cube (column ++ row ++ axes.slicer)) axes.columns.tuples)
    (row_tuples axes)
