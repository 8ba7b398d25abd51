-- The members on which the roots of a cell stand: one of the cell's members, or else what was kept for them all.
use Rattle.std.specs.Prelude.{ℕ, ◌==◌, ◌++◌, Bool, false, List, Option, find, map}
use Rattle.std.specs.Option.{option_map_or}
use Rattle.olap_meaning.specs.declared.cells.Cell.{Cell}
use Rattle.olap_meaning.specs.declared.cells.Member.{Member}
use Rattle.olap_meaning.specs.declared.cells.Member.TheVariants as member
use Rattle.olap_meaning.specs.declared.cells.LevelRef.{LevelRef}
use Rattle.olap_meaning.specs.declared.cells.LevelRef.TheVariants.{Measures, Whole}
use Rattle.olap_meaning.specs.declared.tables.Catalog.{Catalog}
use Rattle.olap_meaning.specs.Catalog.{box}
use Rattle.query_meaning.specs.AxisCells.{cell_among, measure_number}
use Rattle.query_meaning.specs.declared.axes.Axes.{Axes}
use Rattle.query_meaning.specs.Resolution.{is_root, root_of}
use Rattle.cell_request.specs.declared.defaults.DefaultBox.{DefaultBox}

-- a member is one of a hierarchy
abbrev pub is_of : Member → ℕ → Bool
is_of (member.Measure m) h = false
is_of (member.All of) h = of == h
is_of (member.At of path) h = of == h

-- the first of some members that is of a root
abbrev pub member_of_root : LevelRef → List Member → Option Member
member_of_root root members = find (λ one. is_root (root_of one) root) members

-- the number of the first measure among some members, or else 0, that of a cube's first
abbrev pub measure_among : List Member → ℕ
measure_among members = option_map_or measure_number (member_of_root Measures members) 0

-- the box on which a hierarchy stands in a cell: of the first of the cell's members that is of it, or else the kept one
abbrev pub box_among : Catalog → List Member → DefaultBox → List (ℕ × ℕ)
box_among catalog members kept =
    option_map_or (box catalog) (member_of_root (Whole kept.hierarchy) members) kept.pairs

-- the cells of a row, column by column
abbrev pub row_cells : Catalog → Axes → List Member → List Cell
row_cells catalog axes row =
    map
    (λ column. cell_among catalog axes.cube (column ++ row ++ axes.slicer)) axes.columns.tuples
