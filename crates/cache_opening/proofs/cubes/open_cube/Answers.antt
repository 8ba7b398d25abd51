-- The base batch of a cube is what its file is read as, and it is appended.
use Rattle.std.proofs.Common.{◌∙◌}
use Rattle.std.proofs.lemmas.Result.{err_from_is_err_and}
use Rattle.olap_meaning.specs.Legal.{rows_held}
use Rattle.cache_opening.proofs.BatchSteps.{base_read, base_refused, facts_unread}
use Rattle.cache_opening.proofs.cubes.open_cube.Goals as goal

pub returns-in_err-batch-clause-fault : goal.returns-in_err-batch-clause-fault
returns-in_err-batch-clause-fault g c =
    let p = err_from_is_err_and c.from_residual.result c.from_residual.ensures.1 in rw (p.1, p.2)
    (facts_unread (g.D.Depot.files c.args.depot.now) (g.D.Depot.answers c.args.depot.now) (g.D.Depot.answers c.open_batch.new.depot) c.deref.result.now c.args.manager.now.setting.catalog (c.deref.ensures ∙ c.catalog.ensures) c.args.cube (rows_held c.args.manager.now.entries) c.in_err-batch.field-0.0 c.in_err-batch.ensures.read)

pub returns-clause-ok : goal.returns-clause-ok
returns-clause-ok g c =
    base_read (g.D.Depot.files c.args.depot.now) (g.D.Depot.answers c.args.depot.now) (g.D.Depot.answers c.open_batch.new.depot) c.deref.result.now c.args.manager.now.setting.catalog (c.deref.ensures ∙ c.catalog.ensures) c.args.cube (rows_held c.args.manager.now.entries) c.in_ok-batch.batch
    c.in_ok-batch.ensures.read c.append_base.result c.args.manager.now.entries c.append_base.new.manager.entries c.append_base.ensures.ok c.append_base.ensures.entry

pub returns-clause-fault : goal.returns-clause-fault
returns-clause-fault g c =
    base_refused (g.D.Depot.files c.args.depot.now) (g.D.Depot.answers c.args.depot.now) (g.D.Depot.answers c.open_batch.new.depot) c.deref.result.now c.args.manager.now.setting.catalog (c.deref.ensures ∙ c.catalog.ensures) c.args.cube (rows_held c.args.manager.now.entries) c.in_ok-batch.batch
    c.in_ok-batch.ensures.read c.append_base.result c.append_base.ensures.fault
