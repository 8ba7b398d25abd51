-- What holds at each turn of `shown_rows`.
use Rattle.std.proofs.Common.{◌≡◌, ◌||◌, not, filter}
use Rattle.std.specs.List.{range_with_len}
use Rattle.query_meaning.specs.Grids.{are_rows_non_empty, is_row_filled}
use Rattle.result_layout.specs.Axes.{values_of}
use Rattle.result_layout.proofs.places.shown_rows.Given as goal

abbrev pub invariant-loop-row : goal.invariant-loop-row
invariant-loop-row l = l.places.items ≡ filter (λ row. not (are_rows_non_empty l.axes) || is_row_filled l.axes (values_of l.cells) row) (range_with_len 0 l.row)
