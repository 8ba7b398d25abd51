-- That `place_of` finds the place.
use Rattle.std.proofs.Common.{◌∙◌, sym}
use Rattle.cache_flush.proofs.NumberFacts.{has_place, place_has}
use Rattle.load_sharing.proofs.flights.place_of.Goals as goal

pub unwrap-requires : goal.unwrap-requires
unwrap-requires c = rw c.position_of.ensures (has_place (λ flight. flight.load) c.args.load c.args.flights.now c.requires)

pub returns : goal.returns
returns c =
    place_has (λ flight. flight.load) c.args.load c.args.flights.now c.unwrap.result c.requires
    (sym c.position_of.ensures ∙ c.unwrap.ensures)
