-- What holds at each turn of `add_row`.
use Rattle.std.proofs.Common.{◌≡◌, ◌++◌, map, take}
use Rattle.query_meaning.specs.AxisCells.{cell_among}
use Rattle.cell_request.proofs.axis_cells.add_row.Given as goal

abbrev pub invariant-loop-column : goal.invariant-loop-column
invariant-loop-column l = l.cells ≡ l.initial.cells ++ map (λ column. cell_among l.catalog l.axes.cube (column ++ l.row ++ l.axes.slicer)) (take l.column-index l.axes.columns.tuples)
