-- What holds at each turn of `columns_before`.
use Rattle.std.proofs.Common.{◌≡◌, ◌++◌}
use Rattle.region_algebra.proofs.boxes.columns_before.Given as goal

abbrev pub invariant-loop-column : goal.invariant-loop-column
invariant-loop-column l = l.columns ≡ l.firsts ++ l.yielded
