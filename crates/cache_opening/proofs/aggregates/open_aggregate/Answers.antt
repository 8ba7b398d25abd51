-- The aggregate table is what its file is read as.
use Rattle.std.proofs.Common.{◌∷◌, [], List, ℕ, Some, Err, refl, length}
use Rattle.std.proofs.lemmas.Result.{err_from_is_err_and}
use Rattle.agg_tables.specs.Tables.{TableOf}
use Rattle.cache_opening.specs.declared.fault.OpenFault.TheVariants.{Aggregate}
use Rattle.cache_opening.specs.Asking.{bytes_of}
use Rattle.cache_opening.specs.Opening.{base_rows, check_from, table_in}
use Rattle.cache_opening.specs.Steps.{base_in, batches_in}
use Rattle.cache_opening.proofs.CameFacts.{file_came, reads_none, reads_one, where_ok}
use Rattle.cache_opening.proofs.PartFacts.{read_badly, read_well, unread}
use Rattle.cache_opening.proofs.aggregates.open_aggregate.Goals as goal

pub returns-in_err-bytes-clause-fault : goal.returns-in_err-bytes-clause-fault
unfolding check_from
returns-in_err-bytes-clause-fault g c =
    let p = err_from_is_err_and c.from_residual.result c.from_residual.ensures.1 in rw (p.1, p.2)
    (unread (λ (file : List ℕ). file) Aggregate (λ (_ : List ℕ). table_in (base_in c.args.manager.now) c.args.table) (λ (_ : TableOf). c.args.table ∷ []) (g.D.Depot.files c.args.depot.now) (g.D.Depot.answers c.args.depot.now) (g.D.Depot.answers c.fetch.new.depot) (Some c.args.file.now) c.args.file.now c.in_err-bytes.field-0.0
    refl c.in_err-bytes.ensures.read)

pub returns-clause-ok : goal.returns-clause-ok
unfolding check_from
returns-clause-ok g c =
    read_well (λ (file : List ℕ). file) Aggregate (λ (_ : List ℕ). table_in (base_in c.args.manager.now) c.args.table) (λ (_ : TableOf). c.args.table ∷ []) (g.D.Depot.files c.args.depot.now) (g.D.Depot.answers c.args.depot.now) (g.D.Depot.answers c.fetch.new.depot) (Some c.args.file.now) c.args.file.now c.in_ok-bytes.bytes c.as_slice.result.now c.aggregate_in.result
    refl c.in_ok-bytes.ensures.read c.as_slice.ensures c.aggregate_in.ensures.ok

pub returns-clause-fault : goal.returns-clause-fault
unfolding check_from
returns-clause-fault g c =
    read_badly (λ (file : List ℕ). file) Aggregate (λ (_ : List ℕ). table_in (base_in c.args.manager.now) c.args.table) (λ (_ : TableOf). c.args.table ∷ []) (g.D.Depot.files c.args.depot.now) (g.D.Depot.answers c.args.depot.now) (g.D.Depot.answers c.fetch.new.depot) (Some c.args.file.now) c.args.file.now c.in_ok-bytes.bytes c.as_slice.result.now c.aggregate_in.result
    refl c.in_ok-bytes.ensures.read c.as_slice.ensures c.aggregate_in.ensures.fault

pub returns-in_err-bytes-clause-at_most : goal.returns-in_err-bytes-clause-at_most
returns-in_err-bytes-clause-at_most g c =
    reads_none (g.D.Depot.files c.args.depot.now) (g.D.Depot.answers c.args.depot.now) (g.D.Depot.answers c.fetch.new.depot) (bytes_of c.args.file.now) (Err c.in_err-bytes.field-0.0) (length (base_rows c.args.manager.now.setting.catalog (batches_in c.args.manager.now.entries) c.args.table)) c.args.steps.now c.in_err-bytes.ensures.read

pub returns-clause-came : goal.returns-clause-came
returns-clause-came g c =
    where_ok c.aggregate_in.result (file_came (g.D.Depot.files c.args.depot.now) (g.D.Depot.answers c.args.depot.now) (g.D.Depot.answers c.fetch.new.depot) c.args.file.now c.in_ok-bytes.bytes c.in_ok-bytes.ensures.read)

pub returns-clause-at_most : goal.returns-clause-at_most
returns-clause-at_most g c =
    reads_one (g.D.Depot.answers c.args.depot.now) (g.D.Depot.answers c.fetch.new.depot) (length (base_rows c.args.manager.now.setting.catalog (batches_in c.args.manager.now.entries) c.args.table)) c.args.steps.now c.aggregate_in.new.steps
    (file_came (g.D.Depot.files c.args.depot.now) (g.D.Depot.answers c.args.depot.now) (g.D.Depot.answers c.fetch.new.depot) c.args.file.now c.in_ok-bytes.bytes c.in_ok-bytes.ensures.read) c.aggregate_in.ensures.at_most
