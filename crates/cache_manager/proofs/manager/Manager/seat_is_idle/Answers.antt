-- No flight of a seat is kept just where no load of the seat flies.
use Rattle.std.proofs.Common.{◌∙◌, sym, subst}
use Rattle.std.proofs.lemmas.Bool.{not-true, not_from_false}
use Rattle.history_core.specs.Cache.{CacheOf}
use Rattle.history_core.specs.Seats.{SeatIsIdle}
use Rattle.cache_manager.proofs.Awaiting.{seat_idle_from, seat_idle_to}
use Rattle.cache_manager.proofs.manager.Manager.seat_is_idle.Goals as goal

pub returns : goal.returns
returns c = (
  (λ idle. subst (λ (k : CacheOf). SeatIsIdle k.entries c.args.seat) c.self.view_is
      (seat_idle_from c.self.inside.history.entries c.args.seat c.self.inside.flights.flights c.self.invariant.flights_are c.self.invariant.flights_all (sym c.flies_for.ensures ∙ not-true c.flies_for.result idle))),
  (λ idle. not_from_false c.flies_for.result
      (c.flies_for.ensures ∙ seat_idle_to c.self.inside.history.entries c.args.seat c.self.inside.flights.flights c.self.invariant.flights_are (subst (λ (k : CacheOf). SeatIsIdle k.entries c.args.seat) (sym c.self.view_is) idle))),
)
