-- Loads in flight, as they are seen: their numbers, and what is left where one is taken out.
use Rattle.std.proofs.Common.{◌≡◌, ◌∙◌, ◌++◌, ℕ, suc, true, false, not, List, [], ◌∷◌, Some, refl, map, take, drop, slice_get, filter, option_map}
use Rattle.std.specs.Prelude.{◌==◌}
use Rattle.std.proofs.lemmas.Option.{slice_get-map}
use Rattle.olap_meaning.specs.Covering.{among}
use Rattle.olap_meaning.proofs.Lists.{option_map-map}
use Rattle.cache_flush.specs.Loads.{are_different}
use Rattle.cache_flush.proofs.Differing.{differ_more, found_by}
use Rattle.cache_flush.proofs.ListFacts.{map_append, remove_mapped}
use Rattle.load_sharing.specs.Flights as flying
use Rattle.load_sharing.specs.Flights.{FlightOf, flight_of}
use Rattle.load_sharing.specs.declared.flight.Flight.{Flight}
use Rattle.cache_flush.proofs.NumberFacts.{differ_fewer, left_by}

module _ {X Y : Type 0} where
  -- with one more of another number none stands twice
  pub differ_with : (g : Y → ℕ) (f : X → Y) (xs : List X) (x : X) → are_different (map g (map f xs)) ≡ true → among (map g (map f xs)) (g (f x)) ≡ false → are_different (map g (map f (xs ++ x ∷ []))) ≡ true
  differ_with g f xs x differ another =
      rw (map_append f xs (x ∷ []), map_append g (map f xs) (f x ∷ [])) (differ_more (map g (map f xs)) (g (f x)) differ another)

-- a place, as it is seen
seen_place : (flights : List Flight) (place load : ℕ) → option_map (λ flight. flight.load) (slice_get flights place) ≡ Some load → option_map (λ flight. flight.load) (slice_get (map flight_of flights) place) ≡ Some load
seen_place flights place load is = rw (slice_get-map flight_of flights place, option_map-map (λ flight. flight.load) flight_of (slice_get flights place)) is

-- the loads in flight that are left where one is taken out
pub left_flights : (flights : List Flight) (place load : ℕ) → are_different (flying.numbers_of (map flight_of flights)) ≡ true → option_map (λ flight. flight.load) (slice_get flights place) ≡ Some load → map flight_of (take place flights ++ drop (suc place) flights) ≡ filter (λ flight. not (flight.load == load)) (map flight_of flights)
left_flights flights place load differ is =
    remove_mapped flight_of flights place
    ∙ left_by (λ flight. flight.load) (map flight_of flights) place load differ (seen_place flights place load is)

-- their numbers still differ
pub left_differ : (flights : List Flight) (place load : ℕ) → are_different (flying.numbers_of (map flight_of flights)) ≡ true → option_map (λ flight. flight.load) (slice_get flights place) ≡ Some load → are_different (flying.numbers_of (map flight_of (take place flights ++ drop (suc place) flights))) ≡ true
left_differ flights place load differ is =
    rw (left_flights flights place load differ is) (differ_fewer (λ flight. flight.load) (λ flight. not (flight.load == load)) (map flight_of flights) differ)

-- the place of the load that is taken out
pub taken_place : (flights : List Flight) (place load : ℕ) (taken : Flight) → are_different (flying.numbers_of (map flight_of flights)) ≡ true → option_map (λ flight. flight.load) (slice_get flights place) ≡ Some load → slice_get flights place ≡ Some taken → option_map (λ flight. flight.place) (flying.flight_at (map flight_of flights) load) ≡ Some taken.place
taken_place flights place load taken differ is at =
    rw (found_by (λ flight. flight.load) (map flight_of flights) place load differ (seen_place flights place load is), slice_get-map flight_of flights place, at) refl
