-- A flying load has its flight, with its version.
use Rattle.std.proofs.Common.{◌≡◌, ◌∙◌, ap, sym, refl, true, option_map}
use Rattle.olap_meaning.specs.History.{flying, load_version}
use Rattle.history_core.specs.Cache.{CacheOf}
use Rattle.load_sharing.specs.Flights.{FlightOf}
use Rattle.cache_manager.proofs.Managing.{flight_found, flight_version}
use Rattle.cache_manager.proofs.manager.Manager.version_in_flight.Goals as goal

pub unwrap-requires : goal.unwrap-requires
unwrap-requires c =
    let flies : flying c.self.inside.history.entries c.args.load ≡ true = ap (λ (k : CacheOf). flying k.entries c.args.load) c.self.view_is ∙ c.requires in
    let found = flight_found c.self.inside.history.entries c.args.load c.self.inside.flights.flights c.self.invariant.flights_are (c.self.invariant.flights_all c.args.load flies) in
    rw (c.version.ensures, found.1) refl

pub returns : goal.returns
returns c =
    let flies : flying c.self.inside.history.entries c.args.load ≡ true = ap (λ (k : CacheOf). flying k.entries c.args.load) c.self.view_is ∙ c.requires in
    let found = flight_found c.self.inside.history.entries c.args.load c.self.inside.flights.flights c.self.invariant.flights_are (c.self.invariant.flights_all c.args.load flies) in
    ap (λ (k : CacheOf). load_version k.entries c.args.load) (sym c.self.view_is) ∙ flight_version c.self.inside.history.entries c.args.load found.0 found.2 found.3
    ∙ sym (ap (option_map (λ (f : FlightOf). f.version)) found.1) ∙ sym c.version.ensures ∙ c.unwrap.ensures
