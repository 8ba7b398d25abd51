-- What a reader refuses is the fault that is told, or there is no memory.
use Rattle.std.proofs.Common.{◌≡◌, ◌<◌, arith, length, rules}
use Rattle.olap_meaning.specs.declared.schema.SchemaCube.{SchemaCube}
use Rattle.fact_rows.specs.BatchFiles.{batch_of}
use Rattle.fact_rows.specs.declared.fault.BatchFault.{BatchFault}
use Rattle.cache_opening.specs.declared.fault.OpenFault.TheVariants.{Batch}
use Rattle.cache_opening.specs.Asking.{read_by}
use Rattle.cache_opening.proofs.PartFacts.{part_stopped}
use Rattle.cache_opening.proofs.BatchSteps.{refused_batch}
use Rattle.cache_opening.proofs.batches.batch_in.Goals as goal

pub returns-in-Err-OutOfMemory-clause-fault : goal.returns-in-Err-OutOfMemory-clause-fault
returns-in-Err-OutOfMemory-clause-fault c =
    let known : c.args.cube < length c.args.catalog.now.schema.cubes = omega (arith, c.requires.known, c.requires.whole.cubes) in
    part_stopped c.args.catalog.now.schema.cubes c.args.cube (λ (k : SchemaCube). read_by (Batch k.fact) (batch_of c.args.catalog.now c.args.cube c.args.bytes.now)) known

pub returns-in-Err-clause-fault : goal.returns-in-Err-clause-fault
returns-in-Err-clause-fault c =
    let other : c.in-Err.fault ≡ BatchFault.OutOfMemory → ⊥ = search rules in
    let is = c.in-Err.ensures.err in
    refused_batch c.args.catalog.now c.args.cube c.args.bytes.now c.fact_file.result.now c.in-Err.fault c.refused_batch.result other c.fact_file.ensures is c.refused_batch.ensures
