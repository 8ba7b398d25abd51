-- What a manager keeps, after one more entry.
use Rattle.std.proofs.Common.{◌≡◌, refl, sym, ◌∙◌, ap, subst, ℕ, ◌<◌, ◌≤◌, List, [], ◌∷◌, ◌++◌, length, map, filter, Bool, true, false, not, ◌==◌, ◌||◌, ◌⊎◌, inl, inr, Option, Some, None, arith, option_map, option_to_list, filter_map, take, All}
use Rattle.std.specs.List.{AllByRecursion, find}
use Rattle.std.proofs.lemmas.Bool.{both_ways, or_cases, or_left, or_right, eqb-true, eq-eqb, false_from_ne_true}
use Rattle.std.proofs.lemmas.List.{append_assoc, append-nil, map-append, take-append-le}
use Rattle.std.proofs.lemmas.List.Elements.{All-cons, All-filter, All-head, All-map, All-nil, All-tail, All-weaker, filter_map-append}
use Rattle.std.proofs.lemmas.List.Folds.{list_any-append}
use Rattle.olap_meaning.specs.declared.cells.Header.{Header}
use Rattle.olap_meaning.specs.declared.cells.Who.{Who}
use Rattle.olap_meaning.specs.declared.regions.Region.{Region}
use Rattle.olap_meaning.specs.declared.tables.Catalog.{Catalog}
use Rattle.olap_meaning.specs.declared.tables.Row.{Row}
use Rattle.olap_meaning.specs.declared.tables.Setting.{Setting}
use Rattle.olap_meaning.specs.Covering.{among, concerning}
use Rattle.olap_meaning.specs.History.{Entry, Flush, Load, load_version, kept, delivers, ends, evicts, flushed, flying, load_at, shutting, started}
use Rattle.olap_meaning.specs.Legal.{Legal}
use Rattle.olap_meaning.proofs.Shutting.{shutting_grows}
use Rattle.olap_meaning.proofs.Versions.{rows_stay}
use Rattle.fact_reader.specs.BodyRows.{HoldsRows}
use Rattle.cache_flush.specs.Loads as of_loads
use Rattle.cache_flush.specs.Loads.{KeptOf}
use Rattle.load_sharing.specs.Flights.{FlightOf}
use Rattle.cache_manager.specs.Kept.{IsKept, IsFlight, headers_of, regions_of}
use Rattle.olap_meaning.proofs.Pushes.{flying_back, flying_on, kept_back, kept_stays, load_on, load_within, recorded}

-- nothing is shut off by an entry that flushes nothing
pub nothing_more : (shut : List Region) (header : Header) (entry : Entry) → flushed entry ≡ None → shut ≡ shut ++ concerning header (option_to_list (flushed entry))
nothing_more shut header entry none = sym (ap (λ (o : Option Region). shut ++ concerning header (option_to_list o)) none ∙ append-nil shut)

-- a kept load stays one, with the region that an entry flushes
pub kept_grown :
    (setting : Setting) (entries : List Entry) (entry : Entry) (k : KeptOf) (shut : List Region) → Legal setting entries → evicts k.load entry ≡ false → shut ≡ k.shut ++ concerning k.body.header (option_to_list (flushed entry)) → IsKept setting.catalog entries k
    → IsKept setting.catalog (entries ++ entry ∷ []) (record k { shut = shut })
kept_grown setting entries entry k shut legal stays more is = record {
  load = is.load;
  started = load_on entries entry k.load is.load is.started;
  delivered = kept_stays entries entry k.load stays is.delivered;
  version = is.version;
  formed = is.formed;
  holds = subst (λ (rows : List Row). HoldsRows setting.catalog is.load.header rows k.body) (sym (rows_stay entries entry is.load.header.cube is.load.version (recorded setting entries k.load is.load legal is.started))) is.holds;
  shut =
      more
      ∙ ap (λ (rs : List Region). rs ++ concerning k.body.header (option_to_list (flushed entry))) is.shut
      ∙ ap (λ (h : Header). shutting entries k.load ++ concerning h (option_to_list (flushed entry))) is.holds.own_header
      ∙ sym (shutting_grows entries entry k.load is.load is.started);
}

pub all_kept_on :
    (setting : Setting) (entries : List Entry) (entry : Entry) (loads : List KeptOf) → ((j : ℕ) → evicts j entry ≡ false) → flushed entry ≡ None → Legal setting entries → All (IsKept setting.catalog entries) loads
    → All (IsKept setting.catalog (entries ++ entry ∷ [])) loads
all_kept_on setting entries entry loads stays none legal all =
    All-weaker (IsKept setting.catalog entries) (IsKept setting.catalog (entries ++ entry ∷ []))
    (λ k is. kept_grown setting entries entry k k.shut legal (stays k.load) (nothing_more k.shut k.body.header entry none) is) loads all

-- the kept loads stay kept, with the region that is flushed
pub all_kept_shut :
    (setting : Setting) (entries : List Entry) (who : Who) (region : Region) (loads : List KeptOf) → Legal setting entries → All (IsKept setting.catalog entries) loads
    → All (IsKept setting.catalog (entries ++ Flush who region ∷ [])) (map (of_loads.shut_off region) loads)
all_kept_shut setting entries who region loads legal all =
    All-map (IsKept setting.catalog (entries ++ Flush who region ∷ [])) (of_loads.shut_off region) loads
    (All-weaker (IsKept setting.catalog entries) (λ k. IsKept setting.catalog (entries ++ Flush who region ∷ []) (of_loads.shut_off region k))
    (λ k is. kept_grown setting entries (Flush who region) k (k.shut ++ concerning k.body.header (region ∷ [])) legal refl refl is) loads all)

pub kept_numbers_shut : (region : Region) (loads : List KeptOf) → of_loads.numbers_of (map (of_loads.shut_off region) loads) ≡ of_loads.numbers_of loads
kept_numbers_shut region [] = refl
kept_numbers_shut region (k ∷ ks) = ap (λ (ns : List ℕ). k.load ∷ ns) (kept_numbers_shut region ks)

-- the numbers of the kept loads are those of loads that are kept
pub numbers_kept : (catalog : Catalog) (entries : List Entry) (loads : List KeptOf) (j : ℕ) → All (IsKept catalog entries) loads → among (map (λ k. k.load) loads) j ≡ true → kept entries j ≡ true
numbers_kept catalog entries [] j all h = absurd (cc)
numbers_kept catalog entries (k ∷ ks) j all h = elim (or_cases (k.load == j) (among (map (λ o. o.load) ks) j) h) [
  | inl here ↦ let is : IsKept catalog entries k = All-head (IsKept catalog entries) k ks all in ap (kept entries) (sym (eqb-true k.load j here)) ∙ is.delivered
  | inr there ↦ numbers_kept catalog entries ks j (All-tail (IsKept catalog entries) k ks all) there
]

-- the regions with one entry more
pub regions_more : (entries : List Entry) (entry : Entry) → regions_of (entries ++ entry ∷ []) ≡ regions_of entries ++ option_to_list (flushed entry)
regions_more entries entry = filter_map-append flushed entries (entry ∷ []) ∙ ap (λ (rs : List Region). regions_of entries ++ rs) (by (flushed entry) refl)
  where
    by : (o : Option Region) → flushed entry ≡ o → filter_map flushed (entry ∷ []) ≡ option_to_list (flushed entry)
    by None e = rw e refl
    by (Some r) e = rw e refl

-- the regions that were flushed before a load that was started stay
regions_still : (entries : List Entry) (entry : Entry) (j : ℕ) (load : Load) → load_at entries j ≡ Some load → take j (entries ++ entry ∷ []) ≡ take j entries
regions_still entries entry j load at = take-append-le j entries (entry ∷ []) (load_within entries j load at).1

-- a load in flight stays one, where it does not end
pub flight_on : (entries : List Entry) (entry : Entry) (f : FlightOf) → ends f.load entry ≡ false → IsFlight entries f → IsFlight (entries ++ entry ∷ []) f
flight_on entries entry f unended is = record {
  load = is.load;
  started = load_on entries entry f.load is.load is.started;
  flies = flying_on entries entry f.load is.flies unended;
  who = is.who;
  header = is.header;
  version = is.version;
  place = is.place ∙ ap (λ (es : List Entry). length (regions_of es)) (sym (regions_still entries entry f.load is.load is.started));
}

pub all_flights_on : (entries : List Entry) (entry : Entry) (flights : List FlightOf) → ((j : ℕ) → ends j entry ≡ false) → All (IsFlight entries) flights → All (IsFlight (entries ++ entry ∷ [])) flights
all_flights_on entries entry flights unended all = All-weaker (IsFlight entries) (IsFlight (entries ++ entry ∷ [])) (λ f is. flight_on entries entry f (unended f.load) is) flights all

-- an entry that flushes nothing leaves the regions
pub regions_on : (entries : List Entry) (entry : Entry) → flushed entry ≡ None → regions_of (entries ++ entry ∷ []) ≡ regions_of entries
regions_on entries entry none = regions_more entries entry ∙ ap (λ (o : Option Region). regions_of entries ++ option_to_list o) none ∙ append-nil (regions_of entries)

-- an entry that delivers nothing leaves the kept loads all that there are
pub kept_all_on :
    (entries : List Entry) (entry : Entry) (held : List ℕ) → ((j : ℕ) → delivers j entry ≡ false) → ((j : ℕ) → kept entries j ≡ true → among held j ≡ true)
    → (j : ℕ) → kept (entries ++ entry ∷ []) j ≡ true → among held j ≡ true
kept_all_on entries entry held none all j h = elim (kept_back entries entry j h) [ inl old ↦ all j old | inr new ↦ absurd (both_ways _ (none j) new) ]

-- an entry that starts nothing leaves the loads in flight all that there are
pub flights_all_on :
    (entries : List Entry) (entry : Entry) (held : List ℕ) → started entry ≡ None → ((j : ℕ) → flying entries j ≡ true → among held j ≡ true)
    → (j : ℕ) → flying (entries ++ entry ∷ []) j ≡ true → among held j ≡ true
flights_all_on entries entry held none all j h = elim (flying_back entries entry j h).1 [ inl old ↦ all j old | inr new ↦ let is = rw none at new.1 in absurd (cc) ]

among_push : (held : List ℕ) (n j : ℕ) → among (held ++ n ∷ []) j ≡ (among held j || ((n == j) || false))
among_push held n j = list_any-append (λ v. v == j) held (n ∷ [])

pub among_last : (held : List ℕ) (n j : ℕ) → n ≡ j → among (held ++ n ∷ []) j ≡ true
among_last held n j h = among_push held n j ∙ or_right _ _ (or_left _ _ (eq-eqb n j h))

pub among_back : (held : List ℕ) (n j : ℕ) → among (held ++ n ∷ []) j ≡ true → (among held j ≡ true) ⊎ (n ≡ j)
among_back held n j h = elim (or_cases (among held j) ((n == j) || false) (sym (among_push held n j) ∙ h)) [
  | inl old ↦ inl old
  | inr new ↦ elim (or_cases (n == j) false new) [ inl same ↦ inr (eqb-true n j same) | inr none ↦ absurd (cc) ]
]

-- those in flight except for one
module _ (j : ℕ) where
  abbrev pub others : List FlightOf → List FlightOf
  others flights = filter (λ f. not (f.load == j)) flights

  pub among_others : (flights : List FlightOf) (i : ℕ) → (i ≡ j → ⊥) → among (map (λ f. f.load) flights) i ≡ true → among (map (λ f. f.load) (others flights)) i ≡ true
  among_others [] i apart h = h
  among_others (f ∷ flights) i apart h = by (f.load == j) refl (among_others flights i apart)
    where
      by : (b : Bool) → (f.load == j) ≡ b → (among (map (λ g. g.load) flights) i ≡ true → among (map (λ g. g.load) (others flights)) i ≡ true) → among (map (λ g. g.load) (others (f ∷ flights))) i ≡ true
      by true e more = rw e (more (elim (or_cases _ _ h) [ inl same ↦ absurd (apart (sym (eqb-true f.load i same) ∙ eqb-true f.load j e)) | inr rest ↦ rest ]))
      by false e more = rw e (elim (or_cases (f.load == i) (among (map (λ g. g.load) flights) i) h) [
        | inl same ↦ or_left (f.load == i) (among (map (λ g. g.load) (others flights)) i) same
        | inr rest ↦ or_right (f.load == i) (among (map (λ g. g.load) (others flights)) i) (more rest)
      ])

  pub length-others-le : (flights : List FlightOf) → length (others flights) ≤ length flights
  length-others-le [] = omega arith
  length-others-le (f ∷ flights) = by (f.load == j) refl (length-others-le flights)
    where
      by : (b : Bool) → (f.load == j) ≡ b → length (others flights) ≤ length flights → length (others (f ∷ flights)) ≤ length (f ∷ flights)
      by true e rest = rw e (omega (arith, rest))
      by false e rest = rw e (omega (arith, rest))

  -- one at least is gone
  pub length-others : (flights : List FlightOf) → among (map (λ f. f.load) flights) j ≡ true → length (others flights) < length flights
  length-others [] h = absurd (cc)
  length-others (f ∷ flights) h = by (f.load == j) refl (length-others flights)
    where
      by : (b : Bool) → (f.load == j) ≡ b → (among (map (λ g. g.load) flights) j ≡ true → length (others flights) < length flights) → length (others (f ∷ flights)) < length (f ∷ flights)
      by true e more = rw e (omega (arith, length-others-le flights))
      by false e more =
          let rest = more (elim (or_cases _ _ h) [ inl same ↦ absurd (both_ways _ e same) | inr rest ↦ rest ]) in
          rw e (omega (arith, rest))

  -- a place less is wanted, where a place that is not needed hinders no other
  pub places_but :
      (places : List Header → Type 0) → ((before : List Header) (header : Header) (after : List Header) → places (before ++ header ∷ after) → places (before ++ after))
      → (before : List Header) (flights : List FlightOf) → places (before ++ headers_of flights) → places (before ++ headers_of (others flights))
  places_but places apart before [] fit = fit
  places_but places apart before (f ∷ flights) fit =
      by (f.load == j) refl (λ fit. places_but places apart before flights fit) (λ fit. places_but places apart (before ++ f.header ∷ []) flights fit)
    where
      next : (rest : List FlightOf) → before ++ headers_of (f ∷ rest) ≡ (before ++ f.header ∷ []) ++ headers_of rest
      next rest = sym (append_assoc before (f.header ∷ []) (headers_of rest))

      by :
          (b : Bool) → (f.load == j) ≡ b → (places (before ++ headers_of flights) → places (before ++ headers_of (others flights)))
          → (places ((before ++ f.header ∷ []) ++ headers_of flights) → places ((before ++ f.header ∷ []) ++ headers_of (others flights))) → places (before ++ headers_of (others (f ∷ flights)))
      by true e gone left = rw e (gone (apart before f.header (headers_of flights) fit))
      by false e gone left = rw e (subst places (sym (next (others flights))) (left (subst places (next flights) fit)))

  others_same : (f : FlightOf) (flights : List FlightOf) → (f.load == j) ≡ true → others (f ∷ flights) ≡ others flights
  others_same f flights e = rw e refl

  others_other : (f : FlightOf) (flights : List FlightOf) → (f.load == j) ≡ false → others (f ∷ flights) ≡ f ∷ others flights
  others_other f flights e = rw e refl

  -- the place of one load in flight, among those of all
  pub place_of_one :
      (header : Header) (flights : List FlightOf) → AllByRecursion (λ f. (f.load == j) ≡ true → f.header ≡ header) flights → among (map (λ f. f.load) flights) j ≡ true
      → (front : List FlightOf) × (rest : List FlightOf) × (headers_of flights ≡ headers_of front ++ header ∷ headers_of rest) × (others flights ≡ others (front ++ rest))
  place_of_one header [] own there = absurd (cc)
  place_of_one header (f ∷ flights) own there = by (f.load == j) refl (λ more. place_of_one header flights own.1 more)
    where
      by :
          (b : Bool) → (f.load == j) ≡ b
          → (among (map (λ g. g.load) flights) j ≡ true → (front : List FlightOf) × (rest : List FlightOf) × (headers_of flights ≡ headers_of front ++ header ∷ headers_of rest) × (others flights ≡ others (front ++ rest)))
          → (front : List FlightOf) × (rest : List FlightOf) × (headers_of (f ∷ flights) ≡ headers_of front ++ header ∷ headers_of rest) × (others (f ∷ flights) ≡ others (front ++ rest))
      by true e more = ([], flights, ap (λ (h : Header). h ∷ headers_of flights) (own.0 e), others_same f flights e)
      by false e more =
          let found = more (elim (or_cases (f.load == j) (among (map (λ g. g.load) flights) j) there) [ inl same ↦ absurd (both_ways _ e same) | inr rest ↦ rest ]) in
          (f ∷ found.0, found.1, ap (λ (hs : List Header). f.header ∷ hs) found.2, others_other f flights e ∙ ap (λ (fs : List FlightOf). f ∷ fs) found.3 ∙ sym (others_other f (found.0 ++ found.1) e))

  -- once that place is used, the places of the others are left
  pub places_left :
      (places : List Header → Type 0) → ((before : List Header) (header : Header) (after : List Header) → places (before ++ header ∷ after) → places (before ++ after))
      → (flights front rest : List FlightOf) → others flights ≡ others (front ++ rest) → places (headers_of front ++ headers_of rest) → places (headers_of (others flights))
  places_left places apart flights front rest same fit =
      rw same (places_but places apart [] (front ++ rest) (rw (map-append (λ (f : FlightOf). f.header) front rest) fit))

  others_apart : (flights : List FlightOf) → All (λ f. (f.load == j) ≡ false) (others flights)
  others_apart [] = All-nil (λ g. (g.load == j) ≡ false)
  others_apart (f ∷ flights) = by (f.load == j) refl (others_apart flights)
    where
      by : (b : Bool) → (f.load == j) ≡ b → All (λ g. (g.load == j) ≡ false) (others flights) → All (λ g. (g.load == j) ≡ false) (others (f ∷ flights))
      by true e rest = rw e rest
      by false e rest = rw e (All-cons (λ g. (g.load == j) ≡ false) f (others flights) e rest)

  -- an entry that ends just this load leaves the others in flight
  pub flights_but :
      (entries : List Entry) (entry : Entry) (flights : List FlightOf) → ((i : ℕ) → ends i entry ≡ (j == i)) → All (IsFlight entries) flights → All (IsFlight (entries ++ entry ∷ [])) (others flights)
  flights_but entries entry flights just all i d l =
      let kept = All-filter (λ f. not (f.load == j)) (IsFlight entries) flights all i d l in
      let apart = others_apart flights i d l in
      flight_on entries entry _ (just _ ∙ eqb_other _ apart) kept
    where
      eqb_other : (n : ℕ) → (n == j) ≡ false → (j == n) ≡ false
      eqb_other n h = false_from_ne_true (j == n) (λ e. both_ways (n == j) h (eq-eqb n j (sym (eqb-true j n e))))

  pub flights_all_but :
      (entries : List Entry) (entry : Entry) (flights : List FlightOf) → ((i : ℕ) → ends i entry ≡ (j == i)) → started entry ≡ None → ((i : ℕ) → flying entries i ≡ true → among (map (λ f. f.load) flights) i ≡ true)
      → (i : ℕ) → flying (entries ++ entry ∷ []) i ≡ true → among (map (λ f. f.load) (others flights)) i ≡ true
  flights_all_but entries entry flights just none all i h =
      let back = flying_back entries entry i h in
      let apart : i ≡ j → ⊥ = λ same. both_ways _ back.0 (just i ∙ eq-eqb j i (sym same)) in
      elim back.1 [ inl old ↦ among_others flights i apart (all i old) | inr new ↦ let is = rw none at new.1 in absurd (cc) ]

-- a load in flight is found by its number
pub flight_found :
    (entries : List Entry) (j : ℕ) (flights : List FlightOf) → All (IsFlight entries) flights → among (map (λ f. f.load) flights) j ≡ true
    → (f : FlightOf) × (find (λ (g : FlightOf). g.load == j) flights ≡ Some f) × IsFlight entries f × (f.load ≡ j)
flight_found entries j [] all h = absurd (cc)
flight_found entries j (f ∷ flights) all h = by (f.load == j) refl (flight_found entries j flights (All-tail (IsFlight entries) f flights all))
  where
    by : (b : Bool) → (f.load == j) ≡ b
        → (among (map (λ g. g.load) flights) j ≡ true → (o : FlightOf) × (find (λ (g : FlightOf). g.load == j) flights ≡ Some o) × IsFlight entries o × (o.load ≡ j))
        → (o : FlightOf) × (find (λ (g : FlightOf). g.load == j) (f ∷ flights) ≡ Some o) × IsFlight entries o × (o.load ≡ j)
    by true e more = (f, rw e refl, All-head (IsFlight entries) f flights all, eqb-true f.load j e)
    by false e more =
        pass e (more (elim (or_cases (f.load == j) (among (map (λ g. g.load) flights) j) h) [ inl same ↦ absurd (both_ways _ e same) | inr rest ↦ rest ]))
      where
        pass : (f.load == j) ≡ false → (o : FlightOf) × (find (λ (g : FlightOf). g.load == j) flights ≡ Some o) × IsFlight entries o × (o.load ≡ j)
            → (o : FlightOf) × (find (λ (g : FlightOf). g.load == j) (f ∷ flights) ≡ Some o) × IsFlight entries o × (o.load ≡ j)
        pass other rest = (rest.0, rw other rest.1, rest.2, rest.3)

-- the version of a load that flies
pub flight_version : (entries : List Entry) (j : ℕ) (f : FlightOf) → IsFlight entries f → f.load ≡ j → load_version entries j ≡ Some f.version
flight_version entries j f is same = ap (load_version entries) (sym same) ∙ ap (option_map (λ (load : Load). load.version)) is.started ∙ ap Some (sym is.version)

-- the numbers in flight are those of entries
pub flights_below : (entries : List Entry) (flights : List FlightOf) (j : ℕ) → All (IsFlight entries) flights → among (map (λ f. f.load) flights) j ≡ true → j ≤ length entries
flights_below entries flights j all h =
    let found = flight_found entries j flights all h in
    let within = load_within entries found.0.load found.2.load found.2.started in
    omega (arith, within.1, found.3)

-- where nothing is in flight, no load flies, and the other way round
pub idle_from : (entries : List Entry) (flights : List FlightOf) → ((j : ℕ) → flying entries j ≡ true → among (map (λ f. f.load) flights) j ≡ true) → length flights ≡ 0 → (j : ℕ) → flying entries j ≡ false
idle_from entries [] all none j = false_from_ne_true _ (λ h. both_ways false refl (all j h))
idle_from entries (f ∷ flights) all none j = absurd (omega (arith, none))

pub idle_to : (entries : List Entry) (flights : List FlightOf) → All (IsFlight entries) flights → ((j : ℕ) → flying entries j ≡ false) → length flights ≡ 0
idle_to entries [] all none = refl
idle_to entries (f ∷ flights) all none = let here : IsFlight entries f = All-head (IsFlight entries) f flights all in absurd (both_ways _ (none f.load) here.flies)
