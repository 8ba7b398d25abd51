-- That `header` ensures what it says.
use Rattle.std.proofs.Common.{refl}
use Rattle.std.specs.Prelude.{◌==◌}
use Rattle.load_sharing.proofs.ListFacts.{find_map}
use Rattle.load_sharing.specs.Flights.{flight_of}
use Rattle.load_sharing.proofs.flights.Flights.header.Goals as goal

pub returns : goal.returns
returns c =
    let found = rw c.as_slice.ensures.value at c.in_ok-flight.ensures in
    rw (← c.self.view_is, find_map (λ flight. flight.load == c.args.load) flight_of c.self.inside.flights.items, ← found) refl
