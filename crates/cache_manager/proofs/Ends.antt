-- What the ends of loads ask for.
use Rattle.std.proofs.Common.{◌≡◌, refl, sym, ◌∙◌, ap, subst, ℕ, ◌<◌, List, [], ◌∷◌, ◌++◌, ◌≤◌, map, length, drop, take, true, false, arith, Some, option_map, All, ◌==◌, Option, None}
use Rattle.std.specs.Prelude.{IsSome, IsTrue, option_copied}
use Rattle.std.specs.Borrow.{Bor}
use Rattle.std.specs.List.{AllByRecursion}
use Rattle.std.proofs.lemmas.Bool.{false_from_ne_true, both_ways, eqb-true}
use Rattle.std.proofs.lemmas.List.{length-append, take-append-drop}
use Rattle.std.proofs.lemmas.List.Elements.{All-weaker, filter_map-append, recursion_from_All}
use Rattle.olap_meaning.specs.declared.cells.Header.{Header}
use Rattle.olap_meaning.specs.declared.cells.Who.{Who}
use Rattle.olap_meaning.specs.declared.regions.Region.{Region}
use Rattle.olap_meaning.specs.declared.tables.Row.{Row}
use Rattle.olap_meaning.specs.Covering.{among, concerning}
use Rattle.olap_meaning.specs.History.{Done, Entry, Load, flushed, flying, load_at, load_version, regions_after, rows_of, shutting}
use Rattle.olap_meaning.specs.Legal.{IsLegalEnd, Legal}
use Rattle.olap_meaning.proofs.Shutting.{shutting_of}
use Rattle.olap_meaning.proofs.Versions.{rows_stay}
use Rattle.fact_versions.specs.Facts.{FactsOf}
use Rattle.history_core.specs.History.{HistoryOf}
use Rattle.history_core.specs.Cache.{CacheOf}
use Rattle.agg_tables.specs.Tables.{TableOf}
use Rattle.cache_flush.specs.Loads.{KeptOf}
use Rattle.load_sharing.specs.Flights.{FlightOf, flight_at}
use Rattle.cache_manager.specs.Jobs.{IsOwn, IsOwnBody}
use Rattle.cache_manager.specs.Kept.{IsFlight, IsKept, IsManager, headers_of, regions_of}
use Rattle.segment_body.specs.BodyOf.{BodyOf}
use Rattle.segment_header.specs.Headers.{is_header}
use Rattle.fact_reader.specs.BodyRows.{HoldsRows}
use Rattle.olap_meaning.proofs.Pushes.{kept_landed, kept_new, load_on, recorded, shutting_on}
use Rattle.cache_manager.proofs.Awaiting.{since_start}
use Rattle.cache_manager.proofs.Managing.{flight_found, length-others, numbers_kept, others, place_of_one}
use Rattle.cache_manager.proofs.Own.{own_ends, own_flies}

-- a history as the cache of its setting and entries
abbrev pub cache_of : HistoryOf → CacheOf
cache_of history = record { setting = history.setting; entries = history.entries }

module _ (cache : CacheOf) (history : HistoryOf) (who : Who) (j : ℕ) (is : cache_of history ≡ cache) (legal : Legal history.setting history.entries) (load : Load) (own : IsOwn cache who j load) where
  own_here : IsOwn (cache_of history) who j load
  own_here = subst (λ (k : CacheOf). IsOwn k who j load) (sym is) own

  pub ends : IsLegalEnd history.entries who j
  ends = own_ends (cache_of history) who j load legal own_here

  pub flies : flying history.entries j ≡ true
  flies = own_flies (cache_of history) who j load legal own_here

  module _ (facts : FactsOf) (regions : List Region) (held : List KeptOf) (places : List Header → Type 0) (flights : List FlightOf) (tables : List TableOf) (manages : IsManager history.setting history.entries history.spare facts regions held places flights tables) where
    pub spares : 0 < history.spare
    spares = omega (arith, length-others j flights (manages.flights_all j flies), manages.ends_fit)

    -- it is in flight
    pub in_flight : among (map (λ f. f.load) flights) j ≡ true
    in_flight = manages.flights_all j flies

    -- and not kept
    pub unkept : among (map (λ k. k.load) held) j ≡ false
    unkept = false_from_ne_true _ (λ h. both_ways _ (kept_landed history.entries j (numbers_kept history.setting.catalog history.entries held j manages.kept_are h)) flies)

    -- what shuts off part of it is what the history says
    pub shut_of : (place : ℕ) (header : Header) → option_map (λ (f : FlightOf). f.place) (flight_at flights j) ≡ Some place → load.header ≡ header → concerning header (drop place regions) ≡ shutting history.entries j
    shut_of place header told own_header =
        let found = flight_found history.entries j flights manages.flights_are in_flight in
        let both : Some place ≡ Some found.0.place = sym told ∙ ap (option_map (λ (f : FlightOf). f.place)) found.1 in
        let same : place ≡ found.0.place = cc in
        ap (λ (n : ℕ). concerning header (drop n regions)) (same ∙ found.2.place ∙ ap (λ (n : ℕ). length (regions_of (take n history.entries))) found.3)
        ∙ ap (λ (rs : List Region). concerning header (drop (length (regions_of (take j history.entries))) rs)) manages.regions_are
        ∙ ap (concerning header) (since_start history.entries j)
        ∙ ap (λ (h : Header). concerning h (regions_after history.entries j)) (sym own_header)
        ∙ sym (shutting_of history.entries j load own_here.started)

    -- its place is one of the regions
    pub place_within : (place : ℕ) → option_map (λ (f : FlightOf). f.place) (flight_at flights j) ≡ Some place → place ≤ length regions
    place_within place told =
        let found = flight_found history.entries j flights manages.flights_are in_flight in
        let both : Some place ≡ Some found.0.place = sym told ∙ ap (option_map (λ (f : FlightOf). f.place)) found.1 in
        let same : place ≡ found.0.place = cc in
        let at : place ≡ length (regions_of (take j history.entries)) = same ∙ found.2.place ∙ ap (λ (n : ℕ). length (regions_of (take n history.entries))) found.3 in
        let whole : length (regions_of history.entries) ≡ length (regions_of (take j history.entries) ++ regions_after history.entries j) = ap length (ap regions_of (sym (take-append-drop j history.entries)) ∙ filter_map-append flushed (take j history.entries) (drop j history.entries)) in
        let parts = length-append (regions_of (take j history.entries)) (regions_after history.entries j) in
        let all = ap length manages.regions_are in
        omega (arith, at, whole, parts, all)

-- what an own load has come to is a kept load
pub keeps :
    (cache : CacheOf) (history : HistoryOf) (who : Who) (j v : ℕ) (body : BodyOf) (shut : List Region) → cache_of history ≡ cache → Legal history.setting history.entries → IsOwnBody cache who j body → load_version history.entries j ≡ Some v → IsTrue (is_header body.header)
    → shut ≡ shutting history.entries j → IsKept history.setting.catalog (history.entries ++ Done who j ∷ []) (record { load = j; version = v; body = body; shut = shut })
keeps cache history who j v body shut is legal own at formed told = record {
  load = here.load;
  started = load_on history.entries (Done who j) j here.load here.flies.started;
  delivered = kept_new history.setting history.entries who j legal (own_flies (cache_of history) who j here.load legal here.flies);
  version =
      let both : Some here.load.version ≡ Some v = sym (ap (option_map (λ (l : Load). l.version)) here.flies.started) ∙ at in
      cc;
  formed = subst (λ (h : Header). IsTrue (is_header h)) holds_here.own_header formed;
  holds = subst (λ (rows : List Row). HoldsRows history.setting.catalog here.load.header rows body)
      (sym (rows_stay history.entries (Done who j) here.load.header.cube here.load.version (recorded history.setting history.entries j here.load legal here.flies.started))) holds_here;
  shut = told ∙ sym (shutting_on history.entries (Done who j) j here.load here.flies.started refl);
}
  where
    here : IsOwnBody (cache_of history) who j body
    here = subst (λ (k : CacheOf). IsOwnBody k who j body) (sym is) own

    holds_here : HoldsRows history.setting.catalog here.load.header (rows_of history.entries here.load.header.cube here.load.version) body
    holds_here = here.holds

-- the load in flight that an own body ends has the body's header
pub headers_own :
    (cache : CacheOf) (history : HistoryOf) (who : Who) (j : ℕ) (body : BodyOf) → cache_of history ≡ cache → IsOwnBody cache who j body → (flights : List FlightOf) → All (IsFlight history.entries) flights
    → AllByRecursion (λ f. (f.load == j) ≡ true → f.header ≡ body.header) flights
headers_own cache history who j body is own flights all = recursion_from_All (λ f. (f.load == j) ≡ true → f.header ≡ body.header) flights (All-weaker (IsFlight history.entries) (λ f. (f.load == j) ≡ true → f.header ≡ body.header) same flights all)
  where
    here : IsOwnBody (cache_of history) who j body
    here = subst (λ (k : CacheOf). IsOwnBody k who j body) (sym is) own

    holds_here : HoldsRows history.setting.catalog here.load.header (rows_of history.entries here.load.header.cube here.load.version) body
    holds_here = here.holds

    same : (f : FlightOf) → IsFlight history.entries f → (f.load == j) ≡ true → f.header ≡ body.header
    same f flies at =
        let both : Some flies.load ≡ Some here.load = sym flies.started ∙ ap (load_at history.entries) (eqb-true f.load j at) ∙ here.flies.started in
        let one : flies.load ≡ here.load = cc in
        flies.header ∙ ap (λ (load : Load). load.header) one ∙ sym holds_here.own_header

-- all that is in flight of a number has one header
pub headers_alike : (entries : List Entry) (j : ℕ) (flights : List FlightOf) → All (IsFlight entries) flights → (f : FlightOf) → IsFlight entries f → f.load ≡ j → AllByRecursion (λ g. (g.load == j) ≡ true → g.header ≡ f.header) flights
headers_alike entries j flights all f is number = recursion_from_All (λ g. (g.load == j) ≡ true → g.header ≡ f.header) flights (All-weaker (IsFlight entries) (λ g. (g.load == j) ≡ true → g.header ≡ f.header) same flights all)
  where
    same : (g : FlightOf) → IsFlight entries g → (g.load == j) ≡ true → g.header ≡ f.header
    same g flies at =
        let both : Some flies.load ≡ Some is.load = sym flies.started ∙ ap (load_at entries) (eqb-true g.load j at ∙ sym number) ∙ is.started in
        let one : flies.load ≡ is.load = cc in
        flies.header ∙ ap (λ (load : Load). load.header) one ∙ sym is.header

-- the header of a load in flight is there
pub header_there : (entries : List Entry) (j : ℕ) (flights : List FlightOf) → All (IsFlight entries) flights → among (map (λ f. f.load) flights) j ≡ true → (header : Option (Bor Header)) → option_copied header ≡ option_map (λ f. f.header) (flight_at flights j) → IsSome header
header_there entries j flights all there header told = let found = flight_found entries j flights all there in some header found.0.header (told ∙ ap (option_map (λ (f : FlightOf). f.header)) found.1)
  where
    some : (o : Option (Bor Header)) (h : Header) → option_copied o ≡ Some h → IsSome o
    some None h is = absurd (cc)
    some (Some r) h is = refl

-- a load in flight has a place of its header
pub place_in_flight :
    (entries : List Entry) (j : ℕ) (flights : List FlightOf) → All (IsFlight entries) flights → among (map (λ f. f.load) flights) j ≡ true → (header : Option (Bor Header)) → option_copied header ≡ option_map (λ f. f.header) (flight_at flights j)
    → (r : Bor Header) → header ≡ Some r → (front : List FlightOf) × (rest : List FlightOf) × (headers_of flights ≡ headers_of front ++ r.now ∷ headers_of rest) × (others j flights ≡ others j (front ++ rest))
place_in_flight entries j flights all there header told r is =
    let found = flight_found entries j flights all there in
    let both : ◌≡◌ {A = Option Header} (Some r.now) (Some found.0.header) = ap option_copied (sym is) ∙ told ∙ ap (option_map (λ (f : FlightOf). f.header)) found.1 in
    let one : found.0.header ≡ r.now = cc in
    place_of_one j r.now flights
    (subst (λ (h : Header). AllByRecursion (λ g. (g.load == j) ≡ true → g.header ≡ h) flights) one (headers_alike entries j flights all found.0 found.2 found.3)) there
