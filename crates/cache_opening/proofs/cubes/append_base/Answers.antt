-- That `append_base` ensures `ok` and `fault`, and has an answer to each refusal that comes.
use Rattle.std.proofs.Common.{◌∙◌, ap}
use Rattle.cache_opening.proofs.BatchSteps.{batch_fits, batch_refused, batch_stops}
use Rattle.cache_opening.proofs.cubes.append_base.Goals as goal

pub returns-in-Ok-clause-ok : goal.returns-in-Ok-clause-ok
returns-in-Ok-clause-ok c = batch_fits c.args.manager.now c.args.cube c.args.batch.rows c.requires.next c.in-Ok.ensures.admitted

pub returns-in-Err-TooManyRows-clause-fault : goal.returns-in-Err-TooManyRows-clause-fault
returns-in-Err-TooManyRows-clause-fault c =
    batch_refused c.args.manager.now c.args.cube c.args.batch.rows c.requires.next c.deref.result.now c.fact_file-file.result.now c.in-Err-TooManyRows.total c.in-Err-TooManyRows.limit c.too_many_rows.result
    (c.deref.ensures ∙ c.catalog.ensures ∙ ap (λ s. s.catalog) c.append.ensures.setting) c.fact_file-file.ensures (rw c.in-Err-TooManyRows.field-0-is at c.in-Err-TooManyRows.ensures.fault) c.too_many_rows.ensures

pub returns-in-Err-OutOfMemory-clause-fault : goal.returns-in-Err-OutOfMemory-clause-fault
returns-in-Err-OutOfMemory-clause-fault c = batch_stops c.args.manager.now c.args.cube c.args.batch.rows c.requires.next
