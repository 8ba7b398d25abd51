-- Cells put side by side: into groups, and their values in a column.
use Rattle.std.specs.Prelude.{ℕ, zero, suc, List, [], ◌∷◌, ◌++◌, get_or}
use Rattle.olap_meaning.specs.declared.cells.Cell.{Cell}
use Rattle.cell_groups.specs.declared.groups.Group.{Group}
use Rattle.cell_groups.specs.Lent.{lent}

-- a group as its first cell and its cells
abbrev pub seen : Group → Cell × List Cell
seen group = (group.first.now, lent group.cells.items)

-- groups, with one cell more in the group at a place: past the last one it begins a group
abbrev pub with_cell : ℕ → Cell → List (Cell × List Cell) → List (Cell × List Cell)
with_cell place cell [] = (cell, cell ∷ []) ∷ []
with_cell zero cell (group ∷ groups) = (group.0, group.1 ++ cell ∷ []) ∷ groups
with_cell (suc place) cell (group ∷ groups) = group ∷ with_cell place cell groups

-- the column at a place of a cell
abbrev pub column_at : ℕ → Cell → ℕ
column_at place cell = (get_or cell.at place (0, 0)).0

-- the value that a cell has at a place among its columns
abbrev pub value_at : ℕ → Cell → ℕ
value_at place cell = (get_or cell.at place (0, 0)).1
