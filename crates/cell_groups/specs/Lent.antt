-- Cells that are borrowed.
use Rattle.std.specs.Prelude.{List, map}
use Rattle.std.specs.Borrow.{Bor}
use Rattle.olap_meaning.specs.declared.cells.Cell.{Cell}

-- the cells that references lend
abbrev pub lent : List (Bor Cell) → List Cell
lent cells = map (λ cell. cell.now) cells
