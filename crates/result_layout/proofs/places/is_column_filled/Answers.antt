-- That `is_column_filled` finds a cell that is not empty, and keeps what holds at each turn.
use Rattle.std.proofs.Common.{◌∙◌, sym, ap, length}
use Rattle.query_meaning.specs.Grids.{is_filled, value_at}
use Rattle.result_layout.specs.Axes.{values_of}
use Rattle.result_layout.proofs.PlaceFacts.{any_found, none_more}
use Rattle.result_layout.proofs.places.is_column_filled.Goals as goal

pub returns-then-is_filled : goal.returns-then-is_filled
returns-then-is_filled c =
    any_found (λ row. is_filled (value_at (length c.args.axes.now.columns.tuples) (values_of c.args.cells.now) row c.args.column)) _ c.loop-row.row (rw c.row_count-row-end.ensures at c.loop-row-test.true)
    (ap is_filled (sym c.value_at.ensures.value) ∙ sym c.is_filled.ensures ∙ c.if-is_filled.true)

pub loop-row-preserved : goal.loop-row-preserved
loop-row-preserved c =
    none_more (λ row. is_filled (value_at (length c.args.axes.now.columns.tuples) (values_of c.args.cells.now) row c.args.column)) c.loop-row.row c.loop-row.invariant
    (ap is_filled (sym c.value_at.ensures.value) ∙ sym c.is_filled.ensures ∙ c.if-is_filled.false)
