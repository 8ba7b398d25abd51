-- The masks under which loads stand in the lists: those of columns that are all below 64 differ where the columns do.
use Rattle.std.specs.Prelude.{ℕ, Bool, List, if◌then◌else◌, map, nat_le}
use Rattle.std.specs.List.{list_any}
use Rattle.olap_meaning.specs.declared.cells.Cell.{Cell}
use Rattle.olap_meaning.specs.declared.cells.Header.{Header}
use Rattle.olap_meaning.specs.Covering.{columns_of}
use Rattle.segment_header.specs.Masks.{mask}
use Rattle.segment_index.specs.declared.masks.TheConstants.{ALL_BITS}

-- a column is too great for a bit of its own
abbrev pub is_beyond : ℕ → Bool
is_beyond column = nat_le 64 column

-- one of some columns is
abbrev pub goes_beyond : List ℕ → Bool
goes_beyond columns = list_any is_beyond columns

-- the mask of columns: the bit c for each column c, where each has a bit of its own, and else all bits
abbrev pub list_mask : List ℕ → ℕ
list_mask columns = if goes_beyond columns then ALL_BITS else mask columns

-- the mask under which a load of a header stands
abbrev pub header_list_mask : Header → ℕ
header_list_mask header = list_mask (map (λ own. own.0) header.columns)

-- the mask of a load with just a cell's columns
abbrev pub cell_list_mask : Cell → ℕ
cell_list_mask cell = list_mask (columns_of cell)
