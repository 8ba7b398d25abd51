-- Cells and columns, by how many values each column has.
use Rattle.std.specs.Prelude.{ℕ, ◌&&◌, List, Bool, nat_lt}
use Rattle.std.specs.List.{list_all, range_with_len}
use Rattle.olap_meaning.specs.declared.cells.Allowed.{Allowed}
use Rattle.olap_meaning.specs.declared.cells.Allowed.TheVariants.{Any, Set}
use Rattle.olap_meaning.specs.declared.cells.Cell.{Cell}
use Rattle.olap_meaning.specs.Covering.{columns_of}
use Rattle.olap_meaning.specs.Legal.{rise}

-- a cell is well formed, where sizes tell how many values each column has: its columns rise, and each of its values is one of
-- the column's
abbrev pub is_formed : (ℕ → ℕ) → Cell → Bool
is_formed sizes cell =
    rise (columns_of cell) && list_all (λ pair. nat_lt pair.1 (sizes pair.0)) cell.at

-- the values that a column of this size allows: a set of them, or any
abbrev pub values_of : ℕ → Allowed → List ℕ
values_of size Any = range_with_len 0 size
values_of size (Set values) = values
