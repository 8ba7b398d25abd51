-- That `flies_for` ensures what it says.
use Rattle.std.proofs.Common.{refl}
use Rattle.std.specs.Prelude.{◌==◌}
use Rattle.load_sharing.proofs.ListFacts.{any_mapped}
use Rattle.load_sharing.specs.Flights.{flight_of}
use Rattle.load_sharing.proofs.flights.Flights.flies_for.Goals as goal

pub returns : goal.returns
returns c =
    let own = rw c.as_slice.ensures.value at c.some_flies_for.ensures in
    rw (← c.self.view_is, any_mapped (λ flight. flight.who.seat == c.args.seat) flight_of c.self.inside.flights.items, ← own) refl
