-- The least load in flight that is awaited is the one that the cell awaits.
use Rattle.std.proofs.Common.{◌∙◌, ap}
use Rattle.olap_meaning.specs.History.{awaited_load}
use Rattle.history_core.specs.Cache.{CacheOf}
use Rattle.cache_manager.proofs.Awaiting.{least_told}
use Rattle.cache_manager.proofs.manager.Manager.awaited.Goals as goal

pub returns : goal.returns
returns c =
    least_told c.self.inside.history.entries c.args.cell.now c.self.inside.flights.flights c.self.invariant.flights_are c.self.invariant.flights_all c.flying.result (rw (c.shut_list.ensures, c.self.invariant.regions_are) at c.flying.ensures)
    ∙ ap (λ (k : CacheOf). awaited_load k.entries c.args.cell.now) c.self.view_is
