-- What a reader refuses is the fault that is told, or there is no memory.
use Rattle.std.proofs.Common.{◌≡◌, inl, refl, rules}
use Rattle.cube_schema.specs.Schemas.{schema_of}
use Rattle.cube_schema.specs.declared.fault.SchemaFault.TheVariants.{OutOfMemory}
use Rattle.cache_opening.specs.declared.fault.OpenFault.TheVariants.{Schema}
use Rattle.cache_opening.specs.Asking.{stopped}
use Rattle.cache_opening.proofs.LeadFacts.{refused_by_reader}
use Rattle.cache_opening.proofs.catalogs.schema_in.Goals as goal

pub returns-in-Err-OutOfMemory-clause-fault : goal.returns-in-Err-OutOfMemory-clause-fault
returns-in-Err-OutOfMemory-clause-fault c = stopped

pub returns-in-Err-clause-fault : goal.returns-in-Err-clause-fault
returns-in-Err-clause-fault c =
    let other : c.in-Err.fault ≡ OutOfMemory → ⊥ = search rules in
    refused_by_reader Schema (schema_of c.args.bytes.now) OutOfMemory c.in-Err.fault (Schema c.in-Err.fault) other c.in-Err.ensures.err (inl refl)
