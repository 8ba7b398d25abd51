-- What holds at each turn of `reserve_each`.
use Rattle.std.proofs.Common.{◌≡◌}
use Rattle.fact_versions.proofs.columns.reserve_each.Given as goal

abbrev pub invariant-loop-column : goal.invariant-loop-column
invariant-loop-column g l = l.columns ≡ l.initial.columns
