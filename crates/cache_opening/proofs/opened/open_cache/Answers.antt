-- The manager is what a schema's file opens, and a fault is that of the step that failed.
use Rattle.std.proofs.Common.{inl, inr, refl}
use Rattle.std.proofs.lemmas.Result.{err_from_is_err_and}
use Rattle.cache_opening.proofs.EntryFacts.{opened_idle, opened_unused}
use Rattle.cache_opening.proofs.OpenSteps.{base_first, base_unread, checks_unread, few_steps, is_based, is_opened}
use Rattle.cache_opening.proofs.opened.open_cache.Goals as goal

pub install_tables-requires : goal.install_tables-requires
install_tables-requires g c =
    let just = c.in_ok-manager.ensures.base in
    record {
      based = is_based c.args.file.now (g.D.Depot.files c.args.depot.now) (g.D.Depot.answers c.args.depot.now) (g.D.Depot.answers c.open_base.new.depot) (g.D.Depot.answers c.open_base.new.depot) c.args.budget c.in_ok-manager.manager just;
      first = base_first c.args.file.now (g.D.Depot.files c.args.depot.now) (g.D.Depot.answers c.args.depot.now) (g.D.Depot.answers c.open_base.new.depot) (g.D.Depot.answers c.open_base.new.depot) c.args.budget c.in_ok-manager.manager just;
    }

pub returns-in_err-manager-clause-fault : goal.returns-in_err-manager-clause-fault
returns-in_err-manager-clause-fault g c =
    let p = err_from_is_err_and c.from_residual.result c.from_residual.ensures.1 in rw (p.1, p.2)
    (base_unread c.args.file.now (g.D.Depot.files c.args.depot.now) (g.D.Depot.answers c.args.depot.now) (g.D.Depot.answers c.open_base.new.depot) c.in_err-manager.field-0.0 c.in_err-manager.ensures.fault)

pub returns-in_err-manager-clause-few : goal.returns-in_err-manager-clause-few
returns-in_err-manager-clause-few g c =
    let p = err_from_is_err_and c.from_residual.result c.from_residual.ensures.1 in rw (p.1) (inl refl)

pub returns-in_err-install_tables-clause-fault : goal.returns-in_err-install_tables-clause-fault
returns-in_err-install_tables-clause-fault g c =
    let p = err_from_is_err_and c.from_residual-in_err-install_tables.result c.from_residual-in_err-install_tables.ensures.1 in rw (p.1, p.2)
    (checks_unread c.args.file.now (g.D.Depot.files c.args.depot.now) (g.D.Depot.answers c.args.depot.now) (g.D.Depot.answers c.open_base.new.depot) (g.D.Depot.answers c.install_tables.new.depot) c.args.budget c.in_ok-manager.manager c.in_ok-manager.ensures.base c.args.steps.now c.install_tables.new.steps c.install_tables.ensures.at_most
    c.in_err-install_tables.field-0.0 (rw c.open_base.ensures.same_files at c.in_err-install_tables.ensures.fault))

pub returns-in_err-install_tables-clause-few : goal.returns-in_err-install_tables-clause-few
returns-in_err-install_tables-clause-few g c =
    let p = err_from_is_err_and c.from_residual-in_err-install_tables.result c.from_residual-in_err-install_tables.ensures.1 in rw (p.1)
    (inr (few_steps c.args.file.now (g.D.Depot.files c.args.depot.now) (g.D.Depot.answers c.args.depot.now) (g.D.Depot.answers c.open_base.new.depot) (g.D.Depot.answers c.install_tables.new.depot) c.args.budget c.in_ok-manager.manager c.in_ok-manager.ensures.base c.args.steps.now c.install_tables.new.steps c.install_tables.ensures.at_most))

pub returns-clause-opened : goal.returns-clause-opened
returns-clause-opened g c =
    is_opened c.args.file.now (g.D.Depot.files c.args.depot.now) (g.D.Depot.answers c.args.depot.now) (g.D.Depot.answers c.open_base.new.depot) (g.D.Depot.answers c.install_tables.new.depot) c.args.budget c.in_ok-manager.manager c.in_ok-manager.ensures.base c.args.steps.now c.install_tables.new.steps c.install_tables.ensures.at_most
    c.install_tables.new.manager c.install_tables.ensures.setting (rw c.open_base.ensures.same_files at c.in_ok-install_tables.ensures.ok) c.in_ok-install_tables.ensures.cost

pub returns-clause-idle : goal.returns-clause-idle
returns-clause-idle g c =
    let opened =
    is_opened c.args.file.now (g.D.Depot.files c.args.depot.now) (g.D.Depot.answers c.args.depot.now) (g.D.Depot.answers c.open_base.new.depot) (g.D.Depot.answers c.install_tables.new.depot) c.args.budget c.in_ok-manager.manager c.in_ok-manager.ensures.base c.args.steps.now c.install_tables.new.steps c.install_tables.ensures.at_most
    c.install_tables.new.manager c.install_tables.ensures.setting (rw c.open_base.ensures.same_files at c.in_ok-install_tables.ensures.ok) c.in_ok-install_tables.ensures.cost in
    rw opened.0.entries (opened_idle opened.0.opening.batches opened.0.opening.tables)

pub returns-clause-unused : goal.returns-clause-unused
returns-clause-unused g c =
    let opened =
    is_opened c.args.file.now (g.D.Depot.files c.args.depot.now) (g.D.Depot.answers c.args.depot.now) (g.D.Depot.answers c.open_base.new.depot) (g.D.Depot.answers c.install_tables.new.depot) c.args.budget c.in_ok-manager.manager c.in_ok-manager.ensures.base c.args.steps.now c.install_tables.new.steps c.install_tables.ensures.at_most
    c.install_tables.new.manager c.install_tables.ensures.setting (rw c.open_base.ensures.same_files at c.in_ok-install_tables.ensures.ok) c.in_ok-install_tables.ensures.cost in
    rw opened.0.entries (opened_unused opened.0.opening.batches opened.0.opening.tables)
