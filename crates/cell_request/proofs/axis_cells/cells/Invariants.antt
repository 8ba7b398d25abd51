-- What holds at each turn of `cells`.
use Rattle.std.proofs.Common.{◌≡◌, flat_map, take}
use Rattle.cell_request.specs.Standing.{row_cells}
use Rattle.cell_request.proofs.axis_cells.cells.Given as goal

abbrev pub invariant-loop-row : goal.invariant-loop-row
invariant-loop-row l = l.cells ≡ flat_map (row_cells l.catalog l.axes) (take l.row-index l.row-items)
