-- The base batch of a cube is what its file is read as.
use Rattle.std.proofs.Common.{◌≡◌, Result, Ok, slice_get}
use Rattle.std.specs.Option.{IsSomeAnd}
use Rattle.std.proofs.lemmas.Result.{err_from_is_err_and}
use Rattle.olap_meaning.specs.declared.schema.SchemaCube.{SchemaCube}
use Rattle.fact_versions.specs.FactRows.{FactRows}
use Rattle.fact_rows.specs.BatchFiles.{batch_of}
use Rattle.cache_opening.specs.declared.fault.OpenFault.{OpenFault}
use Rattle.cache_opening.specs.declared.fault.OpenFault.TheVariants.{Batch}
use Rattle.cache_opening.specs.Asking.{Leads}
use Rattle.cache_opening.specs.Opening.{facts_from}
use Rattle.cache_opening.proofs.LeadFacts.{either}
use Rattle.cache_opening.proofs.PartFacts.{for_some, read_badly, read_well, unread}
use Rattle.cache_opening.proofs.batches.open_batch.Goals as goal

pub returns-in_err-bytes-clause-read : goal.returns-in_err-bytes-clause-read
unfolding facts_from
returns-in_err-bytes-clause-read g c =
    let p = err_from_is_err_and c.from_residual.result c.from_residual.ensures.1 in rw (p.1, p.2)
    (unread (λ (k : SchemaCube). k.fact) (λ (k : SchemaCube). Batch k.fact) (λ (_ : SchemaCube). batch_of c.args.catalog.now c.args.cube) (λ (batch : FactRows). batch) (g.D.Depot.files c.args.depot.now) (g.D.Depot.answers c.args.depot.now) (g.D.Depot.answers c.fetch.new.depot) (slice_get c.args.catalog.now.schema.cubes c.args.cube) c.fact_file.result.now c.in_err-bytes.field-0.0
    c.fact_file.ensures c.in_err-bytes.ensures.read)

pub returns-clause-read : goal.returns-clause-read
unfolding facts_from
returns-clause-read g c =
    either (λ (outcome : Result FactRows OpenFault). IsSomeAnd (slice_get c.args.catalog.now.schema.cubes c.args.cube) (λ k. Leads (g.D.Depot.files c.args.depot.now) (g.D.Depot.answers c.args.depot.now) (g.D.Depot.answers c.fetch.new.depot) (facts_from c.args.catalog.now c.args.cube k) outcome)) c.batch_in.result
    (read_well (λ (k : SchemaCube). k.fact) (λ (k : SchemaCube). Batch k.fact) (λ (_ : SchemaCube). batch_of c.args.catalog.now c.args.cube) (λ (batch : FactRows). batch) (g.D.Depot.files c.args.depot.now) (g.D.Depot.answers c.args.depot.now) (g.D.Depot.answers c.fetch.new.depot) (slice_get c.args.catalog.now.schema.cubes c.args.cube) c.fact_file.result.now c.in_ok-bytes.bytes c.as_slice.result.now c.batch_in.result c.fact_file.ensures c.in_ok-bytes.ensures.read c.as_slice.ensures
    (for_some (slice_get c.args.catalog.now.schema.cubes c.args.cube) (λ (k : SchemaCube). c.fact_file.result.now ≡ k.fact) (λ (batch : FactRows). batch_of c.args.catalog.now c.args.cube c.as_slice.result.now ≡ Ok batch) c.batch_in.result c.fact_file.ensures c.batch_in.ensures.ok))
    (read_badly (λ (k : SchemaCube). k.fact) (λ (k : SchemaCube). Batch k.fact) (λ (_ : SchemaCube). batch_of c.args.catalog.now c.args.cube) (λ (batch : FactRows). batch) (g.D.Depot.files c.args.depot.now) (g.D.Depot.answers c.args.depot.now) (g.D.Depot.answers c.fetch.new.depot) (slice_get c.args.catalog.now.schema.cubes c.args.cube) c.fact_file.result.now c.in_ok-bytes.bytes c.as_slice.result.now c.batch_in.result c.fact_file.ensures c.in_ok-bytes.ensures.read c.as_slice.ensures c.batch_in.ensures.fault)
