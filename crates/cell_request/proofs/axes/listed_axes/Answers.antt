-- That `listed_axes` ensures `axes`.
use Rattle.cell_request.proofs.AxesFacts.{shown}
use Rattle.cell_request.proofs.axes.listed_axes.Goals as goal

pub returns-clause-axes : goal.returns-clause-axes
returns-clause-axes c =
    shown c.args.catalog.now c.args.query.now c.args.cube c.args.columns.now c.args.rows.now c.args.slicer c.in_ok-columns.columns c.in_ok-rows.rows c.are_non_empty.result
    c.in_ok-columns.ensures.axis c.are_non_empty.ensures c.in_ok-rows.ensures.axis
