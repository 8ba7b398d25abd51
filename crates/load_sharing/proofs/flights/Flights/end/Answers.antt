-- That `end` takes the load out.
use Rattle.std.proofs.Common.{length, refl, arith}
use Rattle.std.proofs.lemmas.Option.{slice_get_read}
use Rattle.load_sharing.specs.Flights.{flight_of}
use Rattle.cache_flush.proofs.NumberFacts.{is_place}
use Rattle.cache_flush.proofs.ListFacts.{map_mapped}
use Rattle.load_sharing.proofs.FlightFacts.{left_differ, left_flights, taken_place}
use Rattle.load_sharing.proofs.MaskFacts.{counted_less}
use Rattle.load_sharing.proofs.flights.Flights.end.Goals as goal

pub place_of-place-requires : goal.place_of-place-requires
place_of-place-requires c =
    let asked = rw (← c.self.view_is) at c.requires in
    rw (c.as_slice.ensures.value, ← map_mapped (λ flight. flight.load) flight_of c.self.inside.flights.items) asked

pub remove-flight-requires : goal.remove-flight-requires
remove-flight-requires c =
    let there = rw c.as_slice.ensures.value at c.place_of-place.ensures in
    let below = is_place (λ flight. flight.load) c.self.inside.flights.items c.place_of-place.result c.args.load there in
    let len = rw c.as_slice.ensures.value at c.as_slice.ensures.len in
    rw (← len) below

pub invariant_of-self : goal.invariant_of-self
invariant_of-self c =
    let (differ, counted, room, masks) = c.self.invariant in
    let flights = c.self.inside.flights.items in
    let place = c.place_of-place.result in
    let there = rw c.as_slice.ensures.value at c.place_of-place.ensures in
    let below = is_place (λ flight. flight.load) flights place c.args.load there in
    let taken = slice_get_read flights (length flights) place c.remove-flight.result refl below c.remove-flight.ensures.value in (
      rw c.remove-flight.ensures.items (left_differ flights place c.args.load differ there),
      rw c.remove-flight.ensures.items
          (counted_less c.self.inside.masks.counts c.remove.new.self.counts flights place c.remove-flight.result c.header_mask.result c.header_mask.ensures taken counted c.remove.ensures.counts),
      (let len = c.remove-flight.ensures.len in let capacity = c.remove-flight.ensures.capacity in omega (arith, room, len, capacity)),
      (let left = c.remove.ensures.places in omega (arith, masks, left)),
    )

pub returns-clause-flights : goal.returns-clause-flights
returns-clause-flights c =
    let there = rw c.as_slice.ensures.value at c.place_of-place.ensures in
    rw (c.remove-flight.ensures.items, ← c.self.view_is) (left_flights c.self.inside.flights.items c.place_of-place.result c.args.load c.self.invariant.0 there)

pub returns-clause-place : goal.returns-clause-place
returns-clause-place c =
    let there = rw c.as_slice.ensures.value at c.place_of-place.ensures in
    let below = is_place (λ flight. flight.load) c.self.inside.flights.items c.place_of-place.result c.args.load there in
    let taken = slice_get_read c.self.inside.flights.items (length c.self.inside.flights.items) c.place_of-place.result c.remove-flight.result refl below c.remove-flight.ensures.value in
    rw (← c.self.view_is) (taken_place c.self.inside.flights.items c.place_of-place.result c.args.load c.remove-flight.result c.self.invariant.0 there taken)
