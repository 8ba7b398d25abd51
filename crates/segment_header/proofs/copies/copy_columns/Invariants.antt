-- What holds at each turn of `copy_columns`.
use Rattle.std.proofs.Common.{◌≡◌, take}
use Rattle.segment_header.proofs.copies.copy_columns.Given as goal

abbrev pub invariant-loop-column : goal.invariant-loop-column
invariant-loop-column l = l.copy ≡ take l.column-index l.columns
