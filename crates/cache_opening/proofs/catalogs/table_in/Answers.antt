-- What a reader refuses is the fault that is told, or there is no memory.
use Rattle.std.proofs.Common.{◌≡◌, rules, slice_get}
use Rattle.olap_meaning.specs.declared.schema.SchemaDimension.{SchemaDimension}
use Rattle.dim_tables.specs.TableFiles.{table_of}
use Rattle.dim_tables.specs.declared.fault.TableFault.{TableFault}
use Rattle.cache_opening.specs.declared.fault.OpenFault.TheVariants.{Table}
use Rattle.cache_opening.specs.Asking.{read_by}
use Rattle.cache_opening.proofs.PartFacts.{part_refused_by_reader, part_stopped}
use Rattle.cache_opening.proofs.catalogs.table_in.Goals as goal

pub returns-in-Err-OutOfMemory-clause-fault : goal.returns-in-Err-OutOfMemory-clause-fault
returns-in-Err-OutOfMemory-clause-fault c = part_stopped c.args.schema.now.dimensions c.args.dimension (λ (d : SchemaDimension). read_by (Table d.table) (table_of d c.args.bytes.now)) c.requires.known

pub returns-in-Err-clause-fault : goal.returns-in-Err-clause-fault
returns-in-Err-clause-fault c =
    let other : c.in-Err.fault ≡ TableFault.OutOfMemory → ⊥ = search rules in
    part_refused_by_reader (slice_get c.args.schema.now.dimensions c.args.dimension) (λ (d : SchemaDimension). d.table) Table (λ (d : SchemaDimension). table_of d c.args.bytes.now) c.table_file.result.now TableFault.OutOfMemory c.in-Err.fault c.refused_table.result other c.table_file.ensures c.in-Err.ensures.err c.refused_table.ensures
