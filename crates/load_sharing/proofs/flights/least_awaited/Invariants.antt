-- What holds at each turn of `least_awaited`.
use Rattle.std.proofs.Common.{map, take}
use Rattle.load_sharing.specs.Flights.{IsLeastAwaited, flight_of}
use Rattle.load_sharing.proofs.flights.least_awaited.Given as goal

-- the least of those that were walked over
abbrev pub invariant-loop-flight : goal.invariant-loop-flight
invariant-loop-flight l = IsLeastAwaited l.shut.regions (map flight_of (take l.flight-index l.flights)) l.cell l.least
