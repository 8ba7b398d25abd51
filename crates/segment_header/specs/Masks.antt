-- The mask of a list of columns.
use Rattle.std.specs.Prelude.{ℕ, List, ◌^◌, ◌%◌, bit_or, fold, map}
use Rattle.olap_meaning.specs.declared.cells.Cell.{Cell}
use Rattle.olap_meaning.specs.declared.cells.Header.{Header}

-- a mask with the bit of one column more
abbrev pub with_column : ℕ → ℕ → ℕ
with_column mask column = bit_or mask (2 ^ (column % 64))

-- the mask of columns: the bit c mod 64 for each column c
abbrev pub mask : List ℕ → ℕ
mask columns = fold with_column 0 columns

-- the mask of a header's columns
abbrev pub header_mask : Header → ℕ
header_mask header = mask (map (λ own. own.0) header.columns)

-- the mask of a cell's columns
abbrev pub cell_mask : Cell → ℕ
cell_mask cell = mask (map (λ pair. pair.0) cell.at)
