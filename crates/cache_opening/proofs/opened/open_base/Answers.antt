-- The manager has the base that a schema's file opens, and a fault is that of the step that failed.
use Rattle.std.proofs.lemmas.Result.{err_from_is_err_and}
use Rattle.cache_opening.proofs.OpenSteps.{batches_unread, begun, catalog_unread, has_base, manager_stops}
use Rattle.cache_opening.proofs.opened.open_base.Goals as goal

pub open_cubes-requires : goal.open_cubes-requires
open_cubes-requires g c = begun c.in_ok-catalog.catalog c.args.budget c.in_ok-manager.manager c.in_ok-catalog.ensures.whole c.in_ok-manager.ensures

pub returns-in_err-catalog-clause-fault : goal.returns-in_err-catalog-clause-fault
returns-in_err-catalog-clause-fault g c =
    let p = err_from_is_err_and c.from_residual.result c.from_residual.ensures.1 in rw (p.1, p.2)
    (catalog_unread c.args.file.now (g.D.Depot.files c.args.depot.now) (g.D.Depot.answers c.args.depot.now) (g.D.Depot.answers c.open_catalog.new.depot) c.in_err-catalog.field-0.0 c.in_err-catalog.ensures.read)

pub returns-in_err-manager-clause-fault : goal.returns-in_err-manager-clause-fault
returns-in_err-manager-clause-fault g c =
    let p = err_from_is_err_and c.from_residual-in_err-manager.result c.from_residual-in_err-manager.ensures.1 in rw (p.1, p.2)
    (manager_stops c.args.file.now (g.D.Depot.files c.args.depot.now) (g.D.Depot.answers c.args.depot.now) (g.D.Depot.answers c.open_catalog.new.depot) c.in_ok-catalog.catalog c.in_ok-catalog.ensures.read)

pub returns-in_err-open_cubes-clause-fault : goal.returns-in_err-open_cubes-clause-fault
returns-in_err-open_cubes-clause-fault g c =
    let p = err_from_is_err_and c.from_residual-in_err-open_cubes.result c.from_residual-in_err-open_cubes.ensures.1 in rw (p.1, p.2)
    (batches_unread c.args.file.now (g.D.Depot.files c.args.depot.now) (g.D.Depot.answers c.args.depot.now) (g.D.Depot.answers c.open_catalog.new.depot) (g.D.Depot.answers c.open_cubes.new.depot) c.in_ok-catalog.catalog c.in_ok-catalog.ensures.read c.args.budget c.in_ok-manager.manager c.in_ok-manager.ensures
    c.in_err-open_cubes.field-0.0 (rw c.open_catalog.ensures.same_files at c.in_err-open_cubes.ensures.fault))

pub returns-clause-base : goal.returns-clause-base
returns-clause-base g c =
    has_base c.args.file.now (g.D.Depot.files c.args.depot.now) (g.D.Depot.answers c.args.depot.now) (g.D.Depot.answers c.open_catalog.new.depot) (g.D.Depot.answers c.open_cubes.new.depot) c.in_ok-catalog.catalog c.in_ok-catalog.ensures.read c.args.budget c.in_ok-manager.manager c.in_ok-manager.ensures
    c.open_cubes.new.manager c.open_cubes.ensures.setting (rw c.open_catalog.ensures.same_files at c.in_ok-open_cubes.ensures.ok)
