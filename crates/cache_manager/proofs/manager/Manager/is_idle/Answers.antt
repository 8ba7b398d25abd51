-- No flight is kept just where no load flies.
use Rattle.std.proofs.Common.{◌∙◌, sym, subst}
use Rattle.std.proofs.lemmas.Bool.{eqb-true, eq-eqb}
use Rattle.history_core.specs.Cache.{CacheOf}
use Rattle.history_core.specs.Seats.{NoneFlies}
use Rattle.cache_manager.proofs.Managing.{idle_from, idle_to}
use Rattle.cache_manager.proofs.manager.Manager.is_idle.Goals as goal

pub returns : goal.returns
returns c = (
  (λ empty. subst (λ (k : CacheOf). NoneFlies k.entries) c.self.view_is
      (idle_from c.self.inside.history.entries c.self.inside.flights.flights c.self.invariant.flights_all (eqb-true _ 0 (sym c.is_empty.ensures ∙ empty)))),
  (λ none. c.is_empty.ensures ∙ eq-eqb _ 0 (idle_to c.self.inside.history.entries c.self.inside.flights.flights c.self.invariant.flights_are (subst (λ (k : CacheOf). NoneFlies k.entries) (sym c.self.view_is) none))),
)
