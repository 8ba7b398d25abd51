-- What holds at each turn of `is_column_filled`.
use Rattle.std.proofs.Common.{◌≡◌, false, length}
use Rattle.std.specs.List.{list_any, range_with_len}
use Rattle.query_meaning.specs.Grids.{is_filled, value_at}
use Rattle.result_layout.specs.Axes.{values_of}
use Rattle.result_layout.proofs.places.is_column_filled.Given as goal

abbrev pub invariant-loop-row : goal.invariant-loop-row
invariant-loop-row l =
    list_any (λ row. is_filled (value_at (length l.axes.columns.tuples) (values_of l.cells) row l.fn.column)) (range_with_len 0 l.row) ≡ false
