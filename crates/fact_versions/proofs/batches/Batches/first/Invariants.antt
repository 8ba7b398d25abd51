-- What holds at each turn of `first`.
use Rattle.std.proofs.Common.{◌≡◌, map, take}
use Rattle.fact_versions.proofs.batches.Batches.first.Given as goal

abbrev pub invariant-loop-batch : goal.invariant-loop-batch
invariant-loop-batch l = map (λ batch. batch.value) l.batches.items ≡ take l.batch-index (map (λ batch. batch.value) l.batch-items)
