-- The least load in flight that a cell awaits, as far as the loads were walked over; and that there is none where none has
-- the cell's mask.
use Rattle.std.proofs.Common.{◌≡◌, ◌∙◌, ◌<◌, ◌≤◌, ◌+◌, ◌++◌, ℕ, List, [], ◌∷◌, Option, None, Some, true, false, true≢false, refl, sym, inl, inr, arith, map, take, length, get_or, nat_eq, add-one}
use Rattle.std.specs.Prelude.{nat_lt}
use Rattle.std.proofs.Math.Seq.{take-suc}
use Rattle.std.proofs.lemmas.Bool.{and_parts, cases_Bool, eq-eqb, ltb-false, ltb-true}
use Rattle.std.proofs.lemmas.List.Elements.{All-push, All-weaker, Contains-append_left, Contains-push}
use Rattle.olap_meaning.specs.declared.cells.Cell.{Cell}
use Rattle.olap_meaning.specs.declared.regions.Region.{Region}
use Rattle.olap_meaning.specs.Covering.{just_covers}
use Rattle.segment_header.specs.Masks.{cell_mask, header_mask}
use Rattle.segment_header.proofs.MaskFacts.{cell_same}
use Rattle.cache_flush.specs.Shuts.{is_live}
use Rattle.cache_flush.proofs.ListFacts.{map_append}
use Rattle.load_sharing.specs.Flights.{FlightOf, IsLeastAwaited, flight_of, is_awaited, is_less, shut_of}
use Rattle.load_sharing.specs.declared.flight.Flight.{Flight}
use Rattle.load_sharing.specs.Masks.{count_at}
use Rattle.load_sharing.specs.Counted.{AreMaskCounts}
use Rattle.load_sharing.proofs.TallyFacts.{none_counted}

-- an awaited load of a lesser number is the least
least_more :
    (regions : List Region) (flights : List FlightOf) (next : FlightOf) (cell : Cell) (least : Option ℕ) → IsLeastAwaited regions flights cell least → is_less next.load least ≡ true → is_awaited regions next cell ≡ true
    → IsLeastAwaited regions (flights ++ next ∷ []) cell (Some next.load)
least_more regions flights next cell None none less awaited = (
  next,
  Contains-push flights next,
  refl,
  awaited,
  All-push (λ f. is_awaited regions f cell ≡ true → next.load ≤ f.load) flights next
      (All-weaker (λ f. is_awaited regions f cell ≡ false) (λ f. is_awaited regions f cell ≡ true → next.load ≤ f.load) (λ f other one. absurd (true≢false (sym one ∙ other))) flights none) (λ _. omega arith),
)
least_more regions flights next cell (Some load) (best, held, is, own, all) less awaited =
    let below = ltb-true next.load load less in (
      next,
      Contains-push flights next,
      refl,
      awaited,
      All-push (λ f. is_awaited regions f cell ≡ true → next.load ≤ f.load) flights next
          (All-weaker (λ f. is_awaited regions f cell ≡ true → load ≤ f.load) (λ f. is_awaited regions f cell ≡ true → next.load ≤ f.load) (λ f from one. let above = from one in omega (arith, below, above)) flights all) (λ _. omega arith),
    )

-- a load that is not awaited leaves the least
least_other :
    (regions : List Region) (flights : List FlightOf) (next : FlightOf) (cell : Cell) (least : Option ℕ) → IsLeastAwaited regions flights cell least → is_awaited regions next cell ≡ false
    → IsLeastAwaited regions (flights ++ next ∷ []) cell least
least_other regions flights next cell None none other = All-push (λ f. is_awaited regions f cell ≡ false) flights next none other
least_other regions flights next cell (Some load) (best, held, is, own, all) other = (
  best,
  Contains-append_left flights (next ∷ []) best held,
  is,
  own,
  All-push (λ f. is_awaited regions f cell ≡ true → load ≤ f.load) flights next all (λ one. absurd (true≢false (sym one ∙ other))),
)

-- so does one of no lesser number
least_passed :
    (regions : List Region) (flights : List FlightOf) (next : FlightOf) (cell : Cell) (least : Option ℕ) → IsLeastAwaited regions flights cell least → is_less next.load least ≡ false
    → IsLeastAwaited regions (flights ++ next ∷ []) cell least
least_passed regions flights next cell None none more = absurd (true≢false more)
least_passed regions flights next cell (Some load) (best, held, is, own, all) more = (
  best,
  Contains-append_left flights (next ∷ []) best held,
  is,
  own,
  All-push (λ f. is_awaited regions f cell ≡ true → load ≤ f.load) flights next all (λ _. ltb-false next.load load more),
)

-- one load more, as it is seen
seen_next : (flights : List Flight) (i : ℕ) (next : Flight) → i < length flights → next ≡ get_or flights i next → map flight_of (take (i + 1) flights) ≡ map flight_of (take i flights) ++ flight_of next ∷ []
seen_next flights i next below is =
    let one : take (i + 1) flights ≡ take i flights ++ next ∷ [] = rw (add-one, take-suc flights i next below, ← is) refl in
    rw one (map_append flight_of (take i flights) (next ∷ []))

module _ (regions : List Region) (flights : List Flight) (i : ℕ) (next : Flight) (cell : Cell) (least : Option ℕ) (below : i < length flights) (is : next ≡ get_or flights i next) (so_far : IsLeastAwaited regions (map flight_of (take i flights)) cell least) where
  pub next_least : is_less next.load least ≡ true → is_awaited regions (flight_of next) cell ≡ true → IsLeastAwaited regions (map flight_of (take (i + 1) flights)) cell (Some next.load)
  next_least less awaited = rw (seen_next flights i next below is) (least_more regions (map flight_of (take i flights)) (flight_of next) cell least so_far less awaited)

  pub next_other : is_awaited regions (flight_of next) cell ≡ false → IsLeastAwaited regions (map flight_of (take (i + 1) flights)) cell least
  next_other other = rw (seen_next flights i next below is) (least_other regions (map flight_of (take i flights)) (flight_of next) cell least so_far other)

  pub next_passed : is_less next.load least ≡ false → IsLeastAwaited regions (map flight_of (take (i + 1) flights)) cell least
  next_passed more = rw (seen_next flights i next below is) (least_passed regions (map flight_of (take i flights)) (flight_of next) cell least so_far more)

-- a load that a cell awaits has the cell's mask
has_mask : (regions : List Region) (flight : FlightOf) (cell : Cell) → is_awaited regions flight cell ≡ true → nat_eq (header_mask flight.header) (cell_mask cell) ≡ true
has_mask regions flight cell awaited =
    let parts = and_parts (just_covers flight.header cell) (is_live (shut_of regions flight) cell) awaited in
    eq-eqb (header_mask flight.header) (cell_mask cell) (cell_same flight.header cell parts.0)

-- where no load has the cell's mask, the cell awaits none
pub none_awaited : (regions : List Region) (counts : List (ℕ × ℕ)) (flights : List FlightOf) (cell : Cell) → AreMaskCounts counts flights → nat_lt 0 (count_at counts (cell_mask cell)) ≡ false → IsLeastAwaited regions flights cell None
none_awaited regions counts flights cell counted not_there =
    let at_most = ltb-false 0 (count_at counts (cell_mask cell)) not_there in
    let none : count_at counts (cell_mask cell) ≡ 0 = omega (arith, at_most) in
    All-weaker (λ f. nat_eq (header_mask f.header) (cell_mask cell) ≡ false) (λ f. is_awaited regions f cell ≡ false)
    (λ f other. elim (cases_Bool (is_awaited regions f cell)) [
      | inl awaited ↦ absurd (true≢false (sym (has_mask regions f cell awaited) ∙ other))
      | inr fails ↦ fails
    ]) flights (none_counted (λ f. nat_eq (header_mask f.header) (cell_mask cell)) flights (sym (counted (cell_mask cell)) ∙ none))
