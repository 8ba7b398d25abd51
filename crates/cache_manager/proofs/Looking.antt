-- The loads that a look starts.
use Rattle.std.proofs.Common.{◌≡◌, refl, sym, ap, subst, ℕ, ◌+◌, ◌≤◌, List, [], ◌∷◌, ◌++◌, length, map, Bool, true, false, not, ◌<◌, Option, Some, None, is_some, filter, arith, All, Contains}
use Rattle.std.specs.List.{list_all}
use Rattle.std.proofs.lemmas.Bool.{and_from, and_parts, not-true}
use Rattle.std.proofs.lemmas.List.{length-append, length-map}
use Rattle.std.proofs.lemmas.List.Elements.{All-cons, All-contains, All-contains_itself, All-filter, All-head, All-nil, All-tail, filter_passes}
use Rattle.olap_meaning.specs.declared.cells.Cell.{Cell}
use Rattle.olap_meaning.specs.declared.cells.CellSource.{CellSource}
use Rattle.olap_meaning.specs.declared.cells.Header.{Header}
use Rattle.olap_meaning.specs.declared.cells.Who.{Who}
use Rattle.olap_meaning.specs.declared.regions.Region.{Region}
use Rattle.olap_meaning.specs.declared.tables.Setting.{Setting}
use Rattle.olap_meaning.specs.History.{Entry, awaited_load}
use Rattle.olap_meaning.specs.Legal.{IsSource, Legal, has_source, is_cell}
use Rattle.olap_meaning.proofs.RolledSources.{sources_are_decided}
use Rattle.fact_versions.specs.Facts.{FactsOf}
use Rattle.agg_tables.specs.Tables.{TableOf}
use Rattle.cache_flush.specs.Loads.{KeptOf}
use Rattle.load_sharing.specs.Flights.{FlightOf}
use Rattle.cache_manager.specs.declared.starts.Planned.{Planned}
use Rattle.history_core.specs.Cache.{CacheOf}
use Rattle.history_core.specs.Groups.{firsts, wanted_of, wanting}
use Rattle.history_core.specs.Answers.{HasSource, SomeWants}
use Rattle.cache_manager.specs.Jobs.{IsJobOf}
use Rattle.cache_manager.specs.Kept.{IsFlight, IsManager, closing, headers_of}
use Rattle.cache_manager.specs.Plans.{AreLegalSteps, AreNew, ArePrepared, flight_for}
use Rattle.segment_header.specs.Widening.{Allowing}
use Rattle.cache_manager.proofs.Grouping.{contains_at}
use Rattle.cache_manager.proofs.Managing.{flights_below}
use Rattle.cache_manager.proofs.Planning.{all_jobs, all_started, anywhere, header_of, planned_new, planned_steps, prepared_headers, step_of}
use Rattle.cache_manager.proofs.Wanting.{steps_legal}

-- there is none
pub none_there : {A : Type 0} (o : Option A) → is_some o ≡ false → o ≡ None
none_there None h = refl
none_there (Some x) h = absurd (cc)

-- the first of some cells
a_first : (cells : List Cell) → 0 < length cells → (cell : Cell) × Contains cells cell
a_first [] some = absurd (omega (arith, some))
a_first (cell ∷ cells) some = (cell, (0, omega arith, refl))

-- a cell that a test keeps is one of all, and passes
pub kept_cells : (keep : Cell → Bool) (cells : List Cell) (cell : Cell) → Contains (filter keep cells) cell → Contains cells cell × (keep cell ≡ true)
kept_cells keep cells cell held = (
  All-contains (Contains cells) (filter keep cells) cell (All-filter keep (Contains cells) cells (All-contains_itself cells)) held,
  All-contains (λ c. keep c ≡ true) (filter keep cells) cell (filter_passes keep cells) held,
)

-- other room
pub refit :
    (setting : Setting) (entries : List Entry) (spare left : ℕ) (facts : FactsOf) (regions : List Region) (held : List KeptOf) (places now : List Header → Type 0) (flights : List FlightOf) (tables : List TableOf) → IsManager setting entries spare facts regions held places flights tables → closing flights held ≤ left → now (headers_of flights)
    → IsManager setting entries left facts regions held now flights tables
refit setting entries spare left facts regions held places now flights tables is room fit = record {
  facts_are = is.facts_are;
  regions_are = is.regions_are;
  kept_are = is.kept_are;
  kept_all = is.kept_all;
  flights_are = is.flights_are;
  flights_all = is.flights_all;
  tables_are = is.tables_are;
  ends_fit = room;
  places_fit = fit;
}

headers_started : (place : ℕ) (flights : List FlightOf) (plans : List Planned) → headers_of (flights ++ map (λ p. flight_for place p.flight) plans) ≡ headers_of flights ++ map (λ p. p.flight.header) plans
headers_started place [] [] = refl
headers_started place [] (p ∷ ps) = ap (λ (hs : List Header). p.flight.header ∷ hs) (headers_started place [] ps)
headers_started place (f ∷ fs) plans = ap (λ (hs : List Header). f.header ∷ hs) (headers_started place fs plans)

module _ (allowing : Allowing) (cache : CacheOf) (who : Who) (wanted : List Cell) (plans : List Planned) (legal : Legal cache.setting cache.entries) (known : list_all (is_cell cache.setting.catalog) wanted ≡ true) (unserved : list_all (λ cell. not (has_source cache.setting.catalog cache.entries cell)) wanted ≡ true) (unawaited : list_all (λ cell. not (is_some (awaited_load cache.entries cell))) wanted ≡ true) (are : ArePrepared allowing cache who wanted (length cache.entries + 1) (firsts [] wanted) plans) where
  pub all_legal : AreLegalSteps cache.setting cache.entries (map step_of plans)
  all_legal =
      subst (λ (steps : List Entry). AreLegalSteps cache.setting cache.entries steps) (sym (planned_steps allowing cache who wanted (length cache.entries + 1) (firsts [] wanted) plans are))
      (steps_legal allowing cache.setting cache.entries who wanted cache.entries [] wanted (map header_of plans) legal (λ cube. refl) (λ cell here none waits apart. (none, waits)) known unserved unawaited (λ k c at. contains_at wanted k c at)
      (prepared_headers allowing cache who wanted (length cache.entries + 1) (firsts [] wanted) plans are))

  pub jobs_started : All (IsJobOf (record { setting = cache.setting; entries = cache.entries ++ map step_of plans })) (map (λ p. p.job) plans)
  jobs_started =
      all_jobs allowing cache who wanted plans cache.entries [] (length cache.entries + 1) (firsts [] wanted) legal refl all_legal are (omega arith) (λ cube. refl) (λ cube. refl) (All-nil (IsJobOf (record { setting = cache.setting; entries = cache.entries })))

  pub manager_started :
      (facts : FactsOf) (regions : List Region) (held : List KeptOf) (spare left : ℕ) (places now : List Header → Type 0) (flights : List FlightOf) (tables : List TableOf) → IsManager cache.setting cache.entries spare facts regions held places flights tables → closing flights held + length plans + length plans ≤ left
      → now (headers_of flights ++ map (λ p. p.flight.header) plans)
      → IsManager cache.setting (cache.entries ++ map step_of plans) left facts regions held now (flights ++ map (λ p. flight_for (length regions) p.flight) plans) tables
  manager_started facts regions held spare left places now flights tables is room fit =
      refit cache.setting (cache.entries ++ map step_of plans) left left facts regions held anywhere now (flights ++ map (λ p. flight_for (length regions) p.flight) plans) tables
      (all_started allowing cache who wanted facts regions held tables left plans cache.entries flights (length cache.entries + 1) (firsts [] wanted) legal all_legal are (omega arith)
      (refit cache.setting cache.entries spare left facts regions held places anywhere flights tables is (omega (arith, room)) tt) room)
      (omega (arith, room, length-append flights (map (λ (p : Planned). flight_for (length regions) p.flight) plans), length-map plans (λ (p : Planned). flight_for (length regions) p.flight)))
      (subst now (sym (headers_started (length regions) flights plans)) fit)

  -- the numbers of the loads are new
  pub numbers_new : (flights : List FlightOf) → All (IsFlight cache.entries) flights → AreNew (map (λ f. f.load) flights) (map (λ p. p.flight.load) plans)
  numbers_new flights all =
      planned_new allowing cache who wanted (length cache.entries + 1) (firsts [] wanted) plans (map (λ f. f.load) flights) are
      (λ i h. let l : i ≤ length cache.entries = flights_below cache.entries flights i all h in omega (arith, l))

-- cells that are taken from sources have sources
pub all_served : (cache : CacheOf) (sources : List CellSource) → All (λ source. IsSource cache.setting.catalog cache.entries source.cell source.loads) sources → All (HasSource cache) (map (λ source. source.cell) sources)
all_served cache [] served = All-nil (HasSource cache)
all_served cache (source ∷ sources) served =
    All-cons (HasSource cache) source.cell (map (λ s. s.cell) sources)
    ((sources_are_decided.has cache.setting.catalog cache.entries source.cell).1 (source.loads, All-head (λ s. IsSource cache.setting.catalog cache.entries s.cell s.loads) source sources served))
    (all_served cache sources (All-tail (λ s. IsSource cache.setting.catalog cache.entries s.cell s.loads) source sources served))

-- what holds of all cells holds of those that a test keeps, and so does the test
pub kept_all : (p keep : Cell → Bool) (cells : List Cell) → list_all p cells ≡ true → list_all p (filter keep cells) ≡ true
kept_all p keep [] all = refl
kept_all p keep (cell ∷ cells) all = by (keep cell) refl (kept_all p keep cells (and_parts _ _ all).1)
  where
    by : (b : Bool) → keep cell ≡ b → list_all p (filter keep cells) ≡ true → list_all p (filter keep (cell ∷ cells)) ≡ true
    by true e rest = rw e (and_from _ _ (and_parts _ _ all).0 rest)
    by false e rest = rw e rest

pub kept_pass : (keep : Cell → Bool) (cells : List Cell) → list_all keep (filter keep cells) ≡ true
kept_pass keep [] = refl
kept_pass keep (cell ∷ cells) = by (keep cell) refl (kept_pass keep cells)
  where
    by : (b : Bool) → keep cell ≡ b → list_all keep (filter keep cells) ≡ true → list_all keep (filter keep (cell ∷ cells)) ≡ true
    by true e rest = rw e (and_from _ _ e rest)
    by false e rest = rw e rest

-- where some cells have no source, one of them has none
pub some_unserved : (cache : CacheOf) (cells : List Cell) → 0 < length (wanting cache.setting.catalog cache.entries cells) → (cell : Cell) × Contains cells cell × (has_source cache.setting.catalog cache.entries cell ≡ false)
some_unserved cache cells many =
    let cell = a_first (wanting cache.setting.catalog cache.entries cells) many in
    let held = kept_cells (λ cell. not (has_source cache.setting.catalog cache.entries cell)) cells cell.0 cell.1 in
    (cell.0, held.0, not-true (has_source cache.setting.catalog cache.entries cell.0) held.1)

-- where some of these await no load in flight, some cell wants a load
pub some_wants : (cache : CacheOf) (cells : List Cell) → 0 < length (wanted_of cache cells) → SomeWants cache cells
some_wants cache cells many =
    let cell = a_first (wanted_of cache cells) many in
    let free = kept_cells (λ cell. not (is_some (awaited_load cache.entries cell))) (wanting cache.setting.catalog cache.entries cells) cell.0 cell.1 in
    let held = kept_cells (λ cell. not (has_source cache.setting.catalog cache.entries cell)) cells cell.0 free.0 in
    (cell.0, held.0, not-true (has_source cache.setting.catalog cache.entries cell.0) held.1, none_there (awaited_load cache.entries cell.0) (not-true (is_some (awaited_load cache.entries cell.0)) free.1))
