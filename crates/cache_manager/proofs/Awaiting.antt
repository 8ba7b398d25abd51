-- The loads in flight that cells await, as the history has it.
use Rattle.std.proofs.Common.{◌≡◌, refl, sym, ◌∙◌, ap, subst, ℕ, ◌≤◌, List, [], ◌∷◌, ◌++◌, Bool, true, false, not, ◌&&◌, ◌==◌, map, Option, Some, None, filter_map, option_to_list, All, Contains, ◌+◌, ◌<◌, length, drop, take, get_or}
use Rattle.std.specs.List.{list_any}
use Rattle.std.proofs.Math.Seq.{drop-append_seam}
use Rattle.std.proofs.lemmas.Bool.{and_parts, both_ways, eq-eqb, eqb-true, false_from_ne_true}
use Rattle.std.proofs.lemmas.List.Folds.{list_any_none}
use Rattle.std.proofs.lemmas.List.Elements.{All-contains, All-weaker, filter_map-append}
use Rattle.olap_meaning.specs.declared.cells.Cell.{Cell}
use Rattle.olap_meaning.specs.declared.cells.Header.{Header}
use Rattle.olap_meaning.specs.declared.cells.Who.{Who}
use Rattle.olap_meaning.specs.declared.regions.Region.{Region}
use Rattle.olap_meaning.specs.Covering.{among, concerning, header_covers, just_covers, region_covers}
use Rattle.olap_meaning.specs.History.{Entry, Load, awaited, awaited_load, flushed, flushed_after, flying, is_some_and, load_at, load_just_covers, regions_after, shutting}
use Rattle.olap_meaning.proofs.Evicting.{awaits_none, to_awaited_load}
use Rattle.std.specs.Borrow.{Bor}
use Rattle.std.proofs.lemmas.List.{map_push, take-append-drop}
use Rattle.olap_meaning.proofs.Lists.{take_step}
use Rattle.history_core.specs.Groups.{awaited_loads}
use Rattle.cell_groups.specs.Lent.{lent}
use Rattle.olap_meaning.proofs.Shutting.{regions_shut_off, shutting_of}
use Rattle.history_core.specs.Seats.{SeatIsIdle}
use Rattle.load_sharing.specs.Flights.{FlightOf, IsLeastAwaited, is_awaited, shut_of}
use Rattle.cache_manager.specs.Kept.{IsFlight, regions_of}
use Rattle.olap_meaning.proofs.Members.{any_member, member_any, member_map}

-- the load in flight of a number among theirs
among_member : (flights : List FlightOf) (j : ℕ) → among (map (λ f. f.load) flights) j ≡ true → (f : FlightOf) × Contains flights f × (f.load ≡ j)
among_member flights j h =
    let number = member_any (λ v. v == j) (map (λ (f : FlightOf). f.load) flights) h in
    let member = member_map (λ (f : FlightOf). f.load) flights number.0 number.1 in
    (member.0, member.1, member.2 ∙ eqb-true number.0 j number.2)

-- the regions after the place of a load in flight are those that were flushed since its Start
pub since_start : (entries : List Entry) (j : ℕ) → drop (length (regions_of (take j entries))) (regions_of entries) ≡ regions_after entries j
since_start entries j =
    ap (λ (rs : List Region). drop (length (regions_of (take j entries))) rs) (ap regions_of (sym (take-append-drop j entries)) ∙ filter_map-append flushed (take j entries) (drop j entries))
    ∙ drop-append_seam (regions_of (take j entries)) (regions_after entries j)

-- those of them that concern it shut off part of it
pub shut_told : (entries : List Entry) (f : FlightOf) (is : IsFlight entries f) → shut_of (regions_of entries) f ≡ shutting entries f.load
shut_told entries f is =
    ap (λ (n : ℕ). concerning f.header (drop n (regions_of entries))) is.place
    ∙ ap (concerning f.header) (since_start entries f.load)
    ∙ ap (λ (h : Header). concerning h (regions_after entries f.load)) is.header
    ∙ sym (shutting_of entries f.load is.load is.started)

module _ (entries : List Entry) (cell : Cell) where
  -- a load in flight is awaited for a cell just where the cell awaits it
  pub awaits_told : (f : FlightOf) → IsFlight entries f → is_awaited (regions_of entries) f cell ≡ awaited entries f.load cell
  awaits_told f is = by (just_covers is.load.header cell) refl
    where
      just : load_just_covers entries f.load cell ≡ just_covers is.load.header cell
      just = ap (is_some_and (λ load. just_covers load.header cell)) is.started

      own : just_covers f.header cell ≡ just_covers is.load.header cell
      own = ap (λ h. just_covers h cell) is.header

      by : (b : Bool) → just_covers is.load.header cell ≡ b → is_awaited (regions_of entries) f cell ≡ awaited entries f.load cell
      by false e = rw (own ∙ e, is.flies, just ∙ e) refl
      by true e =
          let wide : header_covers is.load.header cell ≡ true = (and_parts (header_covers is.load.header cell) _ e).0 in
          let shut : flushed_after entries f.load cell ≡ list_any (λ region. region_covers region cell) (shut_of (regions_of entries) f) = regions_shut_off entries f.load is.load cell is.started wide ∙ ap (list_any (λ region. region_covers region cell)) (sym (shut_told entries f is)) in
          rw (own ∙ e, is.flies, just ∙ e, shut) refl

  module _ (flights : List FlightOf) (are : All (IsFlight entries) flights) (every : (j : ℕ) → flying entries j ≡ true → among (map (λ f. f.load) flights) j ≡ true) where
    -- a load that is awaited is in flight, and its cell awaits it there
    in_flight : (j : ℕ) → awaited entries j cell ≡ true → (f : FlightOf) × Contains flights f × (f.load ≡ j) × (is_awaited (regions_of entries) f cell ≡ true)
    in_flight j h =
        let flies : flying entries j ≡ true = (and_parts (flying entries j) (load_just_covers entries j cell) (and_parts (flying entries j && load_just_covers entries j cell) (not (flushed_after entries j cell)) h).0).0 in
        let member = among_member flights j (every j flies) in
        let is : IsFlight entries member.0 = All-contains (IsFlight entries) flights member.0 are member.1 in
        (member.0, member.1, member.2, awaits_told member.0 is ∙ ap (λ i. awaited entries i cell) member.2 ∙ h)

    -- the least load that is found is the one that the cell awaits
    pub least_told : (found : Option ℕ) → IsLeastAwaited (regions_of entries) flights cell found → found ≡ awaited_load entries cell
    least_told None none = sym (awaits_none entries cell (λ j. false_from_ne_true _ (λ h. let f = in_flight j h in both_ways _ (All-contains (λ flight. is_awaited (regions_of entries) flight cell ≡ false) flights f.0 none f.1) f.3)))
    least_told (Some j) (best, held, same, awaits, least) =
        sym (to_awaited_load entries cell j (record {
          awaits = ap (λ i. awaited entries i cell) (sym same) ∙ sym (awaits_told best (All-contains (IsFlight entries) flights best are held)) ∙ awaits;
          least = λ k h. let f = in_flight k h in subst (λ n. j ≤ n) f.2 (All-contains (λ flight. is_awaited (regions_of entries) flight cell ≡ true → j ≤ flight.load) flights f.0 least f.1 f.3);
        }))

-- the load that one cell more awaits comes after those of the cells before it
pub awaited_more :
    (entries : List Entry) (cells : List (Bor Cell)) (i : ℕ) (cell : Bor Cell) → i < length cells → cell ≡ get_or cells i cell
    → awaited_loads entries (lent (take (i + 1) cells)) ≡ awaited_loads entries (lent (take i cells)) ++ option_to_list (awaited_load entries cell.now)
awaited_more entries cells i cell within is =
    ap (λ (some : List (Bor Cell)). awaited_loads entries (lent some)) (take_step cells i cell within is)
    ∙ ap (awaited_loads entries) (map_push (λ (c : Bor Cell). c.now) (take i cells) cell)
    ∙ filter_map-append (awaited_load entries) (lent (take i cells)) (cell.now ∷ [])
    ∙ ap (λ (loads : List ℕ). awaited_loads entries (lent (take i cells)) ++ loads) (one (awaited_load entries cell.now) refl)
  where
    one : (o : Option ℕ) → awaited_load entries cell.now ≡ o → filter_map (awaited_load entries) (cell.now ∷ []) ≡ option_to_list (awaited_load entries cell.now)
    one None e = rw e refl
    one (Some load) e = rw e refl

-- no flight is of a seat just where no load of the seat flies
module _ (entries : List Entry) (seat : ℕ) (flights : List FlightOf) (are : All (IsFlight entries) flights) where
  pub seat_idle_from : ((j : ℕ) → flying entries j ≡ true → among (map (λ f. f.load) flights) j ≡ true) → list_any (λ f. f.who.seat == seat) flights ≡ false → SeatIsIdle entries seat
  seat_idle_from every none j load at own =
      false_from_ne_true _ (λ flies.
      let member = among_member flights j (every j flies) in
      let is : IsFlight entries member.0 = All-contains (IsFlight entries) flights member.0 are member.1 in
      let same : Some is.load ≡ Some load = sym is.started ∙ ap (load_at entries) member.2 ∙ at in
      let load_is : is.load ≡ load = cc in
      let seat_is : member.0.who.seat ≡ seat = ap (λ (who : Who). who.seat) (is.who ∙ ap (λ (l : Load). l.who) load_is) ∙ own in
      both_ways _ none (any_member (λ f. f.who.seat == seat) flights member.0 member.1 (eq-eqb _ seat seat_is)))

  pub seat_idle_to : SeatIsIdle entries seat → list_any (λ f. f.who.seat == seat) flights ≡ false
  seat_idle_to idle = list_any_none (λ f. f.who.seat == seat) flights (All-weaker (IsFlight entries) (λ f. (f.who.seat == seat) ≡ false) others flights are)
    where
      others : (f : FlightOf) → IsFlight entries f → (f.who.seat == seat) ≡ false
      others f is =
          false_from_ne_true _ (λ h. both_ways _ (idle f.load is.load is.started (ap (λ (who : Who). who.seat) (sym is.who) ∙ eqb-true _ seat h)) is.flies)
