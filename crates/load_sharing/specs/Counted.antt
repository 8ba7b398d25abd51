-- Counts of the loads in flight.
use Rattle.std.specs.Prelude.{ℕ, ◌≡◌, List, count_by, nat_eq}
use Rattle.segment_header.specs.Masks.{header_mask}
use Rattle.load_sharing.specs.Flights.{FlightOf}
use Rattle.load_sharing.specs.Masks.{count_at}

-- how many of some loads in flight have a mask
abbrev pub count_with : ℕ → List FlightOf → ℕ
count_with q flights = count_by (λ flight. nat_eq (header_mask flight.header) q) flights

-- the count of each mask is how many of the loads in flight have it
abbrev pub AreMaskCounts : List (ℕ × ℕ) → List FlightOf → Type 0
AreMaskCounts counts flights = (q : ℕ) → count_at counts q ≡ count_with q flights
