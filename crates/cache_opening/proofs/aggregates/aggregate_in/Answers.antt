-- What the check finds over the present version of the table's cube is so of the base batch, or there is no memory.
use Rattle.std.proofs.Common.{◌≡◌, ◌∙◌, rules}
use Rattle.std.proofs.lemmas.Result.{err_from_is_err_and}
use Rattle.agg_tables.specs.declared.fault.AggFault.{AggFault}
use Rattle.cache_opening.specs.Asking.{stopped}
use Rattle.cache_opening.proofs.CheckFacts.{base_table, rows_here, table_right, table_wrong}
use Rattle.cache_opening.proofs.aggregates.aggregate_in.Goals as goal

pub returns-in_err-snapshot-clause-fault : goal.returns-in_err-snapshot-clause-fault
returns-in_err-snapshot-clause-fault g c = let p = err_from_is_err_and c.from_residual.result c.from_residual.ensures.1 in rw (p.1, p.2) stopped

pub returns-in-Ok-clause-ok : goal.returns-in-Ok-clause-ok
returns-in-Ok-clause-ok g c =
    table_right c.args.manager.now c.requires.based c.deref.result.now (c.deref.ensures ∙ c.catalog.ensures) c.args.table c.cube_of.result c.cube_of.ensures.cube c.cube_of.ensures.within c.in_ok-snapshot.snapshot c.in_ok-snapshot.ensures.version c.in_ok-snapshot.ensures.rows
    c.deref-2.result.now (c.deref-2.ensures ∙ c.catalog-2.ensures) c.args.bytes.now c.in-Ok.ensures.sound

pub returns-in-Ok-clause-made : goal.returns-in-Ok-clause-made
returns-in-Ok-clause-made g c =
    base_table c.args.manager.now c.requires.based c.deref.result.now (c.deref.ensures ∙ c.catalog.ensures) c.args.table c.cube_of.result c.cube_of.ensures.cube c.cube_of.ensures.within c.in_ok-snapshot.snapshot c.in_ok-snapshot.ensures.version c.in_ok-snapshot.ensures.rows
    c.deref-2.result.now (c.deref-2.ensures ∙ c.catalog-2.ensures) c.in-Ok.made c.in-Ok.ensures.table

pub returns-in-Ok-clause-cost : goal.returns-in-Ok-clause-cost
returns-in-Ok-clause-cost g c =
    let rows =
    rows_here c.args.manager.now c.requires.based c.deref.result.now (c.deref.ensures ∙ c.catalog.ensures) c.args.table c.cube_of.result c.cube_of.ensures.cube c.cube_of.ensures.within c.in_ok-snapshot.snapshot c.in_ok-snapshot.ensures.version c.in_ok-snapshot.ensures.rows in
    rw (← rows) c.in-Ok.ensures.cost

pub returns-in-Ok-clause-at_most : goal.returns-in-Ok-clause-at_most
returns-in-Ok-clause-at_most g c =
    let rows =
    rows_here c.args.manager.now c.requires.based c.deref.result.now (c.deref.ensures ∙ c.catalog.ensures) c.args.table c.cube_of.result c.cube_of.ensures.cube c.cube_of.ensures.within c.in_ok-snapshot.snapshot c.in_ok-snapshot.ensures.version c.in_ok-snapshot.ensures.rows in
    rw (← rows) c.in-Ok.ensures.at_most

pub returns-in-Err-OutOfMemory-clause-fault : goal.returns-in-Err-OutOfMemory-clause-fault
returns-in-Err-OutOfMemory-clause-fault g c = stopped

pub returns-in-Err-OutOfMemory-clause-at_most : goal.returns-in-Err-OutOfMemory-clause-at_most
returns-in-Err-OutOfMemory-clause-at_most g c =
    let rows =
    rows_here c.args.manager.now c.requires.based c.deref.result.now (c.deref.ensures ∙ c.catalog.ensures) c.args.table c.cube_of.result c.cube_of.ensures.cube c.cube_of.ensures.within c.in_ok-snapshot.snapshot c.in_ok-snapshot.ensures.version c.in_ok-snapshot.ensures.rows in
    rw (← rows) c.check.ensures.at_most

pub returns : goal.returns
returns g c =
    let other : c.in-Err.fault ≡ AggFault.OutOfMemory → ⊥ = search rules in
    let rows =
    rows_here c.args.manager.now c.requires.based c.deref.result.now (c.deref.ensures ∙ c.catalog.ensures) c.args.table c.cube_of.result c.cube_of.ensures.cube c.cube_of.ensures.within c.in_ok-snapshot.snapshot c.in_ok-snapshot.ensures.version c.in_ok-snapshot.ensures.rows in
    record {
      ok = tt;
      made = tt;
      fault =
          table_wrong c.args.manager.now c.requires.based c.deref.result.now (c.deref.ensures ∙ c.catalog.ensures) c.args.table c.cube_of.result c.cube_of.ensures.cube c.cube_of.ensures.within c.in_ok-snapshot.snapshot c.in_ok-snapshot.ensures.version c.in_ok-snapshot.ensures.rows
          c.deref-2.result.now (c.deref-2.ensures ∙ c.catalog-2.ensures) c.args.bytes.now c.args.file.now c.in-Err.fault c.refused_aggregate.result other c.in-Err.ensures.fault c.refused_aggregate.ensures;
      cost = tt;
      at_least = c.check.ensures.at_least;
      at_most = rw (← rows) c.check.ensures.at_most;
    }
