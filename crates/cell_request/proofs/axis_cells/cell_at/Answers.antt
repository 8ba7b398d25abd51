-- That `cell_at` makes the cell of the column, the row and the slicer.
use Rattle.std.proofs.Common.{◌∙◌, ◌++◌, ap, flat_map}
use Rattle.cell_request.specs.Standing.{box_among, measure_among}
use Rattle.cell_request.proofs.CellFacts.{cell_is}
use Rattle.cell_request.proofs.axis_cells.cell_at.Goals as goal

pub returns : goal.returns
returns c =
    let members = c.args.column.now ++ c.args.row.now ++ c.args.axes.now.slicer in
    cell_is c.args.catalog.now c.args.axes.now.cube members c.measure_among.result c.in_ok-boxes_among.field-0
    (c.measure_among.ensures ∙ ap (λ slicer. measure_among (c.args.column.now ++ c.args.row.now ++ slicer)) c.as_slice-slicer.ensures)
    (c.in_ok-boxes_among.ensures
    ∙ ap (λ slicer. flat_map (box_among c.args.catalog.now (c.args.column.now ++ c.args.row.now ++ slicer)) c.args.defaults.now) c.as_slice-slicer.ensures
    ∙ ap (flat_map (box_among c.args.catalog.now members)) c.requires)
