-- What holds at each turn of `rows`.
use Rattle.std.proofs.Common.{◌≡◌, map, take}
use Rattle.fact_versions.specs.Facts.{rows_of_batches}
use Rattle.fact_versions.proofs.batches.Batches.rows.Given as goal

abbrev pub invariant-loop-batch : goal.invariant-loop-batch
invariant-loop-batch l = l.rows ≡ rows_of_batches (take l.batch-index (map (λ batch. batch.value) l.batch-items))
