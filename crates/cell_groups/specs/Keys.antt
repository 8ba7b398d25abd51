-- What cells of one group have in common, as plain numbers.
use Rattle.std.specs.Prelude.{ℕ}
use Rattle.olap_meaning.specs.declared.cells.Cell.{Cell}
use Rattle.segment_header.specs.Masks.{cell_mask}

-- the cube, the measure and the mask of the columns of a cell
abbrev pub key_of : Cell → ℕ × ℕ × ℕ
key_of cell = (cell.cube, cell.measure, cell_mask cell)
