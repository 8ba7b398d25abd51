-- The counts of the masks of the loads in flight: where a load is started, and where one ends.
use Rattle.std.proofs.Common.{◌≡◌, ◌≤◌, ◌+◌, ◌-◌, ◌++◌, ℕ, suc, Bool, true, false, List, [], ◌∷◌, Some, refl, arith, map, take, drop, slice_get, cond, nat_eq, length, if◌then◌else◌}
use Rattle.std.proofs.lemmas.List.{length-map}
use Rattle.std.proofs.lemmas.List.Sums.{count_by-le-length, sum_by_push}
use Rattle.std.proofs.lemmas.Option.{slice_get-map}
use Rattle.segment_header.specs.Masks.{header_mask}
use Rattle.cache_flush.proofs.ListFacts.{map_append, remove_mapped}
use Rattle.load_sharing.specs.Flights.{FlightOf, flight_of}
use Rattle.load_sharing.specs.declared.flight.Flight.{Flight}
use Rattle.load_sharing.specs.Masks.{count_at}
use Rattle.load_sharing.specs.Counted.{AreMaskCounts, count_with}
use Rattle.load_sharing.proofs.TallyFacts.{sum_without}

one_more : (here : Bool) (n : ℕ) → (if here then n + 1 else n) ≡ n + cond here 1 0
one_more true n = refl
one_more false n = omega arith

one_less : (here : Bool) (n left : ℕ) → n ≡ left + cond here 1 0 → (if here then n - 1 else n) ≡ left
one_less true n left is = omega (arith, is)
one_less false n left is = omega (arith, is)

-- with one load more, where the count of its mask is one more
pub counted_more :
    (counts after : List (ℕ × ℕ)) (flights : List Flight) (new : Flight) (mask : ℕ) → mask ≡ header_mask new.header → AreMaskCounts counts (map flight_of flights)
    → ((q : ℕ) → count_at after q ≡ (if nat_eq mask q then count_at counts q + 1 else count_at counts q)) → AreMaskCounts after (map flight_of (flights ++ new ∷ []))
counted_more counts after flights new mask own counted more q =
    let all = sum_by_push (λ (f : FlightOf). cond (nat_eq (header_mask f.header) q) 1 0) (map flight_of flights) (flight_of new) in
    rw (map_append flight_of flights (new ∷ []), more q, counted q, all, own) (one_more (nat_eq (header_mask new.header) q) (count_with q (map flight_of flights)))

-- with one load less, where the count of its mask is one less
pub counted_less :
    (counts after : List (ℕ × ℕ)) (flights : List Flight) (place : ℕ) (taken : Flight) (mask : ℕ) → mask ≡ header_mask taken.header → slice_get flights place ≡ Some taken → AreMaskCounts counts (map flight_of flights)
    → ((q : ℕ) → count_at after q ≡ (if nat_eq mask q then count_at counts q - 1 else count_at counts q)) → AreMaskCounts after (map flight_of (take place flights ++ drop (suc place) flights))
counted_less counts after flights place taken mask own at counted less q =
    let seen : slice_get (map flight_of flights) place ≡ Some (flight_of taken) = rw (slice_get-map flight_of flights place, at) refl in
    let all = sum_without (λ (f : FlightOf). cond (nat_eq (header_mask f.header) q) 1 0) (map flight_of flights) place (flight_of taken) seen in
    rw (remove_mapped flight_of flights place, less q, counted q, own)
    (one_less (nat_eq (header_mask taken.header) q) (count_with q (map flight_of flights)) (count_with q (take place (map flight_of flights) ++ drop (suc place) (map flight_of flights))) all)

-- no mask is counted more often than there are loads
pub count_within : (counts : List (ℕ × ℕ)) (flights : List Flight) (q : ℕ) → AreMaskCounts counts (map flight_of flights) → count_at counts q ≤ length flights
count_within counts flights q counted =
    let le = count_by-le-length (λ (f : FlightOf). nat_eq (header_mask f.header) q) (map flight_of flights) in
    let same = length-map flights flight_of in
    rw (counted q) (omega (arith, le, same))
