-- The table of a dimension is what its file is read as.
use Rattle.std.proofs.Common.{slice_get}
use Rattle.std.proofs.lemmas.Result.{err_from_is_err_and}
use Rattle.olap_meaning.specs.declared.schema.SchemaDimension.{SchemaDimension}
use Rattle.dim_tables.specs.TableFiles.{table_of}
use Rattle.catalog_tables.specs.Tables.{TableOf}
use Rattle.cache_opening.specs.declared.fault.OpenFault.TheVariants.{Table}
use Rattle.cache_opening.specs.Opening.{table_from}
use Rattle.cache_opening.proofs.PartFacts.{read_badly, read_well, unread}
use Rattle.cache_opening.proofs.catalogs.open_table.Goals as goal

pub returns-in_err-bytes-clause-fault : goal.returns-in_err-bytes-clause-fault
unfolding table_from
returns-in_err-bytes-clause-fault g c =
    let p = err_from_is_err_and c.from_residual.result c.from_residual.ensures.1 in rw (p.1, p.2)
    (unread (λ (d : SchemaDimension). d.table) (λ (d : SchemaDimension). Table d.table) table_of (λ (t : TableOf). t.records) (g.D.Depot.files c.args.depot.now) (g.D.Depot.answers c.args.depot.now) (g.D.Depot.answers c.fetch.new.depot) (slice_get c.args.schema.now.dimensions c.args.dimension) c.table_file.result.now c.in_err-bytes.field-0.0
    c.table_file.ensures c.in_err-bytes.ensures.read)

pub returns-clause-ok : goal.returns-clause-ok
unfolding table_from
returns-clause-ok g c =
    read_well (λ (d : SchemaDimension). d.table) (λ (d : SchemaDimension). Table d.table) table_of (λ (t : TableOf). t.records) (g.D.Depot.files c.args.depot.now) (g.D.Depot.answers c.args.depot.now) (g.D.Depot.answers c.fetch.new.depot) (slice_get c.args.schema.now.dimensions c.args.dimension) c.table_file.result.now c.in_ok-bytes.bytes c.as_slice.result.now c.table_in.result
    c.table_file.ensures c.in_ok-bytes.ensures.read c.as_slice.ensures c.table_in.ensures.ok

pub returns-clause-fault : goal.returns-clause-fault
unfolding table_from
returns-clause-fault g c =
    read_badly (λ (d : SchemaDimension). d.table) (λ (d : SchemaDimension). Table d.table) table_of (λ (t : TableOf). t.records) (g.D.Depot.files c.args.depot.now) (g.D.Depot.answers c.args.depot.now) (g.D.Depot.answers c.fetch.new.depot) (slice_get c.args.schema.now.dimensions c.args.dimension) c.table_file.result.now c.in_ok-bytes.bytes c.as_slice.result.now c.table_in.result
    c.table_file.ensures c.in_ok-bytes.ensures.read c.as_slice.ensures c.table_in.ensures.fault
