-- What holds at each turn of `add_columns`.
use Rattle.std.proofs.Common.{◌≡◌, ◌++◌, take}
use Rattle.region_algebra.proofs.copies.add_columns.Given as goal

abbrev pub invariant-loop-column : goal.invariant-loop-column
invariant-loop-column l = l.columns ≡ l.initial.columns ++ take l.column-index l.more
