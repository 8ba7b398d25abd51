-- Each turn adds the value of one cell more.
use Rattle.std.proofs.Common.{rules}
use Rattle.cell_groups.proofs.ValueFacts.{lent_holds, value_more}
use Rattle.cell_groups.proofs.values.read_values.Goals as goal

pub value_at-requires : goal.value_at-requires
value_at-requires c = lent_holds c.args.place c.args.cells.now c.loop-cell.cell-index c.cell-item.result c.requires c.loop-cell-test.true c.cell-item.is

pub loop-cell-preserved : goal.loop-cell-preserved
loop-cell-preserved c =
    value_more c.args.place c.args.cells.now c.loop-cell.cell-index c.cell-item.result c.loop-cell.values.items _ c.loop-cell-test.true c.cell-item.is (search rules) c.loop-cell.invariant
