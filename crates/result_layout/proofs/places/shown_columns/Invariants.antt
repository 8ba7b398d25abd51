-- What holds at each turn of `shown_columns`.
use Rattle.std.proofs.Common.{◌≡◌, ◌||◌, not, filter}
use Rattle.std.specs.List.{range_with_len}
use Rattle.query_meaning.specs.Grids.{is_column_filled}
use Rattle.result_layout.specs.Axes.{values_of}
use Rattle.result_layout.proofs.places.shown_columns.Given as goal

abbrev pub invariant-loop-column : goal.invariant-loop-column
invariant-loop-column l = l.places.items ≡ filter (λ column. not l.axes.columns.non_empty || is_column_filled l.axes (values_of l.cells) column) (range_with_len 0 l.column)
