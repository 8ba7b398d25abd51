-- The schema is what its file is read as.
use Rattle.std.proofs.Common.{List, ℕ, Some, Result, refl}
use Rattle.std.proofs.lemmas.Result.{err_from_is_err_and}
use Rattle.olap_meaning.specs.declared.schema.Schema.{Schema}
use Rattle.cube_schema.specs.Schemas.{schema_of}
use Rattle.cache_opening.specs.declared.fault.OpenFault.{OpenFault}
use Rattle.cache_opening.specs.declared.fault.OpenFault.TheVariants as told
use Rattle.cache_opening.specs.Asking.{Leads}
use Rattle.cache_opening.specs.Opening.{schema_from}
use Rattle.cache_opening.proofs.LeadFacts.{either}
use Rattle.cache_opening.proofs.PartFacts.{read_badly, read_well, unread}
use Rattle.cache_opening.proofs.catalogs.open_schema.Goals as goal

pub returns-in_err-bytes-clause-read : goal.returns-in_err-bytes-clause-read
unfolding schema_from
returns-in_err-bytes-clause-read g c =
    let p = err_from_is_err_and c.from_residual.result c.from_residual.ensures.1 in rw (p.1, p.2)
    (unread (λ (file : List ℕ). file) (λ (_ : List ℕ). told.Schema) (λ (file bytes : List ℕ). schema_of bytes) (λ (schema : Schema). schema) (g.D.Depot.files c.args.depot.now) (g.D.Depot.answers c.args.depot.now) (g.D.Depot.answers c.fetch.new.depot) (Some c.args.file.now) c.args.file.now c.in_err-bytes.field-0.0
    refl c.in_err-bytes.ensures.read)

pub returns-clause-read : goal.returns-clause-read
unfolding schema_from
returns-clause-read g c =
    either (λ (outcome : Result Schema OpenFault). Leads (g.D.Depot.files c.args.depot.now) (g.D.Depot.answers c.args.depot.now) (g.D.Depot.answers c.fetch.new.depot) (schema_from c.args.file.now) outcome) c.schema_in.result
    (read_well (λ (file : List ℕ). file) (λ (_ : List ℕ). told.Schema) (λ (file bytes : List ℕ). schema_of bytes) (λ (schema : Schema). schema) (g.D.Depot.files c.args.depot.now) (g.D.Depot.answers c.args.depot.now) (g.D.Depot.answers c.fetch.new.depot) (Some c.args.file.now) c.args.file.now c.in_ok-bytes.bytes c.as_slice.result.now c.schema_in.result refl c.in_ok-bytes.ensures.read c.as_slice.ensures c.schema_in.ensures.ok)
    (read_badly (λ (file : List ℕ). file) (λ (_ : List ℕ). told.Schema) (λ (file bytes : List ℕ). schema_of bytes) (λ (schema : Schema). schema) (g.D.Depot.files c.args.depot.now) (g.D.Depot.answers c.args.depot.now) (g.D.Depot.answers c.fetch.new.depot) (Some c.args.file.now) c.args.file.now c.in_ok-bytes.bytes c.as_slice.result.now c.schema_in.result refl c.in_ok-bytes.ensures.read c.as_slice.ensures c.schema_in.ensures.fault)
