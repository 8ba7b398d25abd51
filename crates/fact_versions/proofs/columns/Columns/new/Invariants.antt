-- What holds at each turn of `new`.
use Rattle.std.proofs.Common.{◌≡◌, [], replicate}
use Rattle.fact_versions.proofs.columns.Columns.new.Given as goal

abbrev pub invariant-loop : goal.invariant-loop
invariant-loop g l = l.columns.items ≡ replicate l.counter []
