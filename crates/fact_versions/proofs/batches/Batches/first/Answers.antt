-- That `first` ensures what it says and keeps what holds at each turn.
use Rattle.std.proofs.Common.{◌≤◌, ◌∙◌, map, take, length, refl, add-one, arith}
use Rattle.std.proofs.lemmas.List.{length-map, map-append, take-map, take_all}
use Rattle.fact_versions.proofs.BatchFacts.{take_next}
use Rattle.fact_versions.proofs.batches.Batches.first.Goals as goal

pub loop-batch-preserved : goal.loop-batch-preserved
loop-batch-preserved c =
    rw (c.in_ok-push.ensures.items, map-append, c.in_ok-try_clone.ensures, c.loop-batch.invariant, add-one, take_next (λ batch. batch.value) (take c.args.count c.deref.result.now) c.loop-batch.batch-index c.batch-item.result (omega arith) c.batch-item.is) refl

pub returns : goal.returns
returns c =
    let first = take c.args.count c.deref.result.now in
    let ended : length (map (λ batch. batch.value) first) ≤ c.loop-batch.batch-index = rw (length-map first (λ batch. batch.value)) (omega arith) in
    c.loop-batch.invariant ∙ take_all c.loop-batch.batch-index (map (λ batch. batch.value) first) ended ∙ rw (← take-map, c.deref.ensures.value, c.self.view_is) refl
