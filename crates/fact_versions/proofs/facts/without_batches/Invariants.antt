-- What holds at each turn of `without_batches`.
use Rattle.std.proofs.Common.{◌≡◌, [], replicate}
use Rattle.fact_versions.proofs.facts.without_batches.Given as goal

abbrev pub invariant-loop : goal.invariant-loop
invariant-loop l = l.lists.items ≡ replicate l.counter []
