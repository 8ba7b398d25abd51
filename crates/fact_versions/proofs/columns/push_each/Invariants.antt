-- What holds at each turn of `push_each`.
use Rattle.std.proofs.Common.{◌≡◌, take}
use Rattle.fact_versions.specs.Columns.{with_row}
use Rattle.fact_versions.proofs.columns.push_each.Given as goal

abbrev pub invariant-loop-i : goal.invariant-loop-i
invariant-loop-i g l = l.columns ≡ with_row l.initial.columns (take l.i l.items)
