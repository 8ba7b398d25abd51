-- Each turn puts one cell more into its group.
use Rattle.std.proofs.Common.{◌∙◌, rules, sym}
use Rattle.cell_groups.specs.Lent.{lent}
use Rattle.cell_groups.proofs.GroupFacts.{all_cells, all_firsts, length-lent, lent_at, lent_within, so_far_next}
use Rattle.cell_groups.proofs.groups.group_cells.Goals as goal

pub loop-cell-preserved : goal.loop-cell-preserved
loop-cell-preserved c =
    so_far_next c.args.catalog.now (lent c.args.cells.now) c.loop-cell.cell-index c.cell-item.result.now c.loop-cell.keys.keys _ _ _ c.column_count.ensures.limit c.requires.known
    (lent_within c.args.cells.now c.loop-cell.cell-index c.loop-cell-test.true) (lent_at c.args.cells.now c.loop-cell.cell-index c.cell-item.result c.loop-cell-test.true c.cell-item.is)
    (search rules) (search rules) c.loop-cell.invariant

pub returns-clause-firsts : goal.returns-clause-firsts
returns-clause-firsts c = all_firsts c.args.catalog.now (lent c.args.cells.now) c.loop-cell.cell-index _ c.loop-cell.groups.items (search rules ∙ sym (length-lent c.args.cells.now)) c.loop-cell.invariant

pub returns-clause-cells : goal.returns-clause-cells
returns-clause-cells c = all_cells c.args.catalog.now (lent c.args.cells.now) c.loop-cell.cell-index _ c.loop-cell.groups.items (search rules ∙ sym (length-lent c.args.cells.now)) c.loop-cell.invariant
