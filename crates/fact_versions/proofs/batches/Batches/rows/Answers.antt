-- That `rows` keeps what holds at each turn and stays within its numbers.
use Rattle.std.proofs.Common.{refl, add-one, arith}
use Rattle.fact_versions.proofs.BatchFacts.{rows_next, rows_within}
use Rattle.fact_versions.proofs.batches.Batches.rows.Goals as goal

pub overflow_cast-rows : goal.overflow_cast-rows
overflow_cast-rows c =
    let few = rows_within (λ batch. batch.value) c.deref-batch-items.result.now c.loop-batch.batch-index c.batch-item.result (omega arith) c.batch-item.is in
    let all = rw (c.deref-batch-items.ensures.value, c.self.view_is) at few in
    let rows = rw c.deref.ensures at c.len.ensures.rows in
    omega (arith, all, rows, c.requires)

pub overflow_add-rows : goal.overflow_add-rows
overflow_add-rows c =
    let few = rows_within (λ batch. batch.value) c.deref-batch-items.result.now c.loop-batch.batch-index c.batch-item.result (omega arith) c.batch-item.is in
    let all = rw (c.deref-batch-items.ensures.value, c.self.view_is) at few in
    let rows = rw c.deref.ensures at c.len.ensures.rows in
    let done = rw (c.deref-batch-items.ensures.value, c.self.view_is) at c.loop-batch.invariant in
    omega (arith, all, rows, done, c.requires)

pub loop-batch-preserved : goal.loop-batch-preserved
loop-batch-preserved c =
    rw (c.len.ensures.rows, c.deref.ensures, c.loop-batch.invariant, add-one, rows_next (λ batch. batch.value) c.deref-batch-items.result.now c.loop-batch.batch-index c.batch-item.result (omega arith) c.batch-item.is) refl
