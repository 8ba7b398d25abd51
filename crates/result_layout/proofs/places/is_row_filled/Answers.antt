-- That `is_row_filled` finds a cell that is not empty, and keeps what holds at each turn.
use Rattle.std.proofs.Common.{◌∙◌, sym, ap, length}
use Rattle.query_meaning.specs.Grids.{is_filled, value_at}
use Rattle.result_layout.specs.Axes.{values_of}
use Rattle.result_layout.proofs.PlaceFacts.{any_found, none_more}
use Rattle.result_layout.proofs.places.is_row_filled.Goals as goal

pub returns-then-is_filled : goal.returns-then-is_filled
returns-then-is_filled c =
    any_found (λ column. is_filled (value_at (length c.args.axes.now.columns.tuples) (values_of c.args.cells.now) c.args.row column)) _ c.loop-column.column (rw c.len-column-end.ensures at c.loop-column-test.true)
    (ap is_filled (sym c.value_at.ensures.value) ∙ sym c.is_filled.ensures ∙ c.if-is_filled.true)

pub loop-column-preserved : goal.loop-column-preserved
loop-column-preserved c =
    none_more (λ column. is_filled (value_at (length c.args.axes.now.columns.tuples) (values_of c.args.cells.now) c.args.row column)) c.loop-column.column c.loop-column.invariant
    (ap is_filled (sym c.value_at.ensures.value) ∙ sym c.is_filled.ensures ∙ c.if-is_filled.false)
