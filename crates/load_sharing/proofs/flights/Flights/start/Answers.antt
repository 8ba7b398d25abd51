-- That `start` keeps the numbers different and the masks counted, and uses one place.
use Rattle.std.proofs.Common.{◌≡◌, ◌∙◌, ap, sym, arith}
use Rattle.segment_header.specs.Masks.{header_mask}
use Rattle.load_sharing.specs.Flights.{FlightOf, flight_of}
use Rattle.load_sharing.proofs.FlightFacts.{differ_with}
use Rattle.load_sharing.proofs.MaskFacts.{counted_more}
use Rattle.load_sharing.proofs.flights.Flights.start.Goals as goal

pub invariant_of-self : goal.invariant_of-self
invariant_of-self c =
    let (differ, counted, room, masks) = c.self.invariant in
    let place = rw (← c.self.view_is) at c.requires.place in
    let own : c.header_mask.result ≡ header_mask c.new.result.header = c.header_mask.ensures ∙ sym (ap (λ (f : FlightOf). header_mask f.header) c.new.ensures) in
    let another = rw (← c.self.view_is) at c.requires.another in
    let number : (flight_of c.new.result).load ≡ c.args.load = ap (λ (f : FlightOf). f.load) c.new.ensures in (
      rw c.push_reserved.ensures.items
          (differ_with (λ flight. flight.load) flight_of c.self.inside.flights.items c.new.result differ (rw number another)),
      rw c.push_reserved.ensures.items
          (counted_more c.self.inside.masks.counts c.add.new.self.counts c.self.inside.flights.items c.new.result c.header_mask.result own counted c.add.ensures.counts),
      (let len = c.push_reserved.ensures.len in let capacity = c.push_reserved.ensures.capacity in omega (arith, room, place, len, capacity)),
      (let left = c.add.ensures.places in omega (arith, masks, place, left)),
    )
