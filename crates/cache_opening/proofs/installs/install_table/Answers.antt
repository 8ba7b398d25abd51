-- The aggregate table is what its file is read as, and it is installed; without a file nothing is.
use Rattle.std.proofs.Common.{◌∙◌, length, slice_get}
use Rattle.std.proofs.lemmas.Result.{err_from_is_err_and}
use Rattle.cache_opening.specs.Opening.{base_rows}
use Rattle.cache_opening.specs.Steps.{base_in, batches_in}
use Rattle.cache_opening.proofs.CameFacts.{none_came, none_cost, none_read, some_came, some_cost, some_read}
use Rattle.cache_opening.proofs.CheckSteps.{none_installed, one_stops}
use Rattle.cache_opening.proofs.EntryFacts.{opened_next}
use Rattle.cache_opening.proofs.installs.install_table.Goals as goal

pub install-requires-clause-call : goal.install-requires-clause-call
install-requires-clause-call g c = rw c.requires.based.entries (opened_next (batches_in c.args.manager.now.entries) c.requires.based.tables)

pub returns-in_err-install-in-Some-clause-fault : goal.returns-in_err-install-in-Some-clause-fault
returns-in_err-install-in-Some-clause-fault g c =
    let p = err_from_is_err_and c.from_residual-in_err-install-in-Some.result c.from_residual-in_err-install-in-Some.ensures.1 in rw (p.1, p.2)
    (one_stops (g.D.Depot.files c.args.depot.now) (g.D.Depot.answers c.args.depot.now) (base_in c.args.manager.now) c.args.table c.args.manager.now.entries (g.D.Depot.answers c.open_aggregate.new.depot) c.in-Some.file.now (slice_get c.args.manager.now.setting.catalog.schema.aggregates c.args.table)
    (rw (c.deref.ensures ∙ c.catalog.ensures) at c.in-Some.ensures) (rw c.as_str.ensures at c.in_ok-made-in-Some.ensures.ok))

pub returns-in-None-clause-ok : goal.returns-in-None-clause-ok
returns-in-None-clause-ok g c =
    none_installed (g.D.Depot.files c.args.depot.now) (g.D.Depot.answers c.args.depot.now) (base_in c.args.manager.now) c.args.table c.args.manager.now.entries (slice_get c.args.manager.now.setting.catalog.schema.aggregates c.args.table)
    (rw (c.deref.ensures ∙ c.catalog.ensures) at c.in-None.ensures)

pub returns-in_err-made-in-Some-clause-at_most : goal.returns-in_err-made-in-Some-clause-at_most
returns-in_err-made-in-Some-clause-at_most g c =
    some_read (slice_get c.args.manager.now.setting.catalog.schema.aggregates c.args.table) c.in-Some.file.now (g.D.Depot.answers c.args.depot.now) (g.D.Depot.answers c.open_aggregate.new.depot) c.args.steps.now c.open_aggregate.new.steps (length (base_rows c.args.manager.now.setting.catalog (batches_in c.args.manager.now.entries) c.args.table))
    (rw (c.deref.ensures ∙ c.catalog.ensures) at c.in-Some.ensures) c.open_aggregate.ensures.at_most

pub returns-in_err-install-in-Some-clause-at_most : goal.returns-in_err-install-in-Some-clause-at_most
returns-in_err-install-in-Some-clause-at_most g c =
    some_read (slice_get c.args.manager.now.setting.catalog.schema.aggregates c.args.table) c.in-Some.file.now (g.D.Depot.answers c.args.depot.now) (g.D.Depot.answers c.open_aggregate.new.depot) c.args.steps.now c.open_aggregate.new.steps (length (base_rows c.args.manager.now.setting.catalog (batches_in c.args.manager.now.entries) c.args.table))
    (rw (c.deref.ensures ∙ c.catalog.ensures) at c.in-Some.ensures) c.open_aggregate.ensures.at_most

pub returns-in_ok-install-in-Some-clause-at_most : goal.returns-in_ok-install-in-Some-clause-at_most
returns-in_ok-install-in-Some-clause-at_most g c =
    some_read (slice_get c.args.manager.now.setting.catalog.schema.aggregates c.args.table) c.in-Some.file.now (g.D.Depot.answers c.args.depot.now) (g.D.Depot.answers c.open_aggregate.new.depot) c.args.steps.now c.open_aggregate.new.steps (length (base_rows c.args.manager.now.setting.catalog (batches_in c.args.manager.now.entries) c.args.table))
    (rw (c.deref.ensures ∙ c.catalog.ensures) at c.in-Some.ensures) c.open_aggregate.ensures.at_most

pub returns-in_ok-install-in-Some-clause-cost : goal.returns-in_ok-install-in-Some-clause-cost
returns-in_ok-install-in-Some-clause-cost g c =
    some_cost (slice_get c.args.manager.now.setting.catalog.schema.aggregates c.args.table) c.in-Some.file.now c.args.steps.now c.open_aggregate.new.steps (length (base_rows c.args.manager.now.setting.catalog (batches_in c.args.manager.now.entries) c.args.table))
    (rw (c.deref.ensures ∙ c.catalog.ensures) at c.in-Some.ensures) c.in_ok-made-in-Some.ensures.cost

pub returns-in-None-clause-cost : goal.returns-in-None-clause-cost
returns-in-None-clause-cost g c =
    none_cost (slice_get c.args.manager.now.setting.catalog.schema.aggregates c.args.table) c.args.steps.now (length (base_rows c.args.manager.now.setting.catalog (batches_in c.args.manager.now.entries) c.args.table))
    (rw (c.deref.ensures ∙ c.catalog.ensures) at c.in-None.ensures)

pub returns-in_ok-install-in-Some-clause-came : goal.returns-in_ok-install-in-Some-clause-came
returns-in_ok-install-in-Some-clause-came g c =
    some_came (slice_get c.args.manager.now.setting.catalog.schema.aggregates c.args.table) c.in-Some.file.now (g.D.Depot.answers c.args.depot.now) (g.D.Depot.answers c.open_aggregate.new.depot)
    (rw (c.deref.ensures ∙ c.catalog.ensures) at c.in-Some.ensures) c.in_ok-made-in-Some.ensures.came

pub returns-in-None-clause-at_most : goal.returns-in-None-clause-at_most
returns-in-None-clause-at_most g c =
    none_read (slice_get c.args.manager.now.setting.catalog.schema.aggregates c.args.table) (g.D.Depot.answers c.args.depot.now) c.args.steps.now (length (base_rows c.args.manager.now.setting.catalog (batches_in c.args.manager.now.entries) c.args.table))
    (rw (c.deref.ensures ∙ c.catalog.ensures) at c.in-None.ensures)

pub returns-in-None-clause-came : goal.returns-in-None-clause-came
returns-in-None-clause-came g c =
    none_came (slice_get c.args.manager.now.setting.catalog.schema.aggregates c.args.table) (g.D.Depot.answers c.args.depot.now)
    (rw (c.deref.ensures ∙ c.catalog.ensures) at c.in-None.ensures)
