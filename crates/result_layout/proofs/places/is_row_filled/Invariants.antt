-- What holds at each turn of `is_row_filled`.
use Rattle.std.proofs.Common.{◌≡◌, false, length}
use Rattle.std.specs.List.{list_any, range_with_len}
use Rattle.query_meaning.specs.Grids.{is_filled, value_at}
use Rattle.result_layout.specs.Axes.{values_of}
use Rattle.result_layout.proofs.places.is_row_filled.Given as goal

abbrev pub invariant-loop-column : goal.invariant-loop-column
invariant-loop-column l =
    list_any (λ column. is_filled (value_at (length l.axes.columns.tuples) (values_of l.cells) l.fn.row column)) (range_with_len 0 l.column) ≡ false
