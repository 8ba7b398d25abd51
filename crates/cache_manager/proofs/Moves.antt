-- A manager after each of its calls.
use Rattle.std.proofs.Common.{◌≡◌, refl, sym, ◌∙◌, ap, subst, ℕ, suc, ◌+◌, ◌<◌, ◌≤◌, List, [], ◌∷◌, ◌++◌, length, map, Some, true, arith, inl, inr}
use Rattle.std.proofs.lemmas.Bool.{eqb-true}
use Rattle.std.proofs.lemmas.List.{length-append, length-map, length_push, map-append, take_all}
use Rattle.std.proofs.lemmas.List.Elements.{All-push}
use Rattle.olap_meaning.specs.declared.cells.CellSource.{CellSource}
use Rattle.olap_meaning.specs.declared.cells.Header.{Header}
use Rattle.olap_meaning.specs.declared.cells.Who.{Who}
use Rattle.olap_meaning.specs.declared.regions.Region.{Region}
use Rattle.olap_meaning.specs.declared.tables.Setting.{Setting}
use Rattle.olap_meaning.specs.Catalog.{table_cube}
use Rattle.olap_meaning.specs.Covering.{among}
use Rattle.olap_meaning.specs.History.{Entry, Append, Agg, Flush, Start, Done, Drop, Answer, Saw, Load, flying, kept, rows_of, version}
use Rattle.olap_meaning.specs.Legal.{Legal}
use Rattle.olap_meaning.proofs.Orders.{among_still}
use Rattle.fact_versions.specs.FactRows.{FactRows}
use Rattle.fact_versions.specs.Facts.{FactsOf, with_batch}
use Rattle.fact_reader.specs.BodyRows.{is_batch}
use Rattle.cache_flush.specs.Loads as of_loads
use Rattle.cache_flush.specs.Loads.{KeptOf}
use Rattle.agg_tables.specs.Tables.{TableOf, built_over}
use Rattle.installed_tables.specs.Installed.{put}
use Rattle.installed_tables.proofs.BuiltFacts.{tables_built_more}
use Rattle.load_costs.proofs.BuiltFacts.{tables_stay}
use Rattle.load_sharing.specs.Flights.{FlightOf}
use Rattle.cache_manager.specs.Kept.{IsFlight, IsKept, IsManager, closing, headers_of, regions_of}
use Rattle.cache_manager.proofs.Facts.{facts_more, facts_on}
use Rattle.cache_manager.proofs.Managing.{all_flights_on, all_kept_on, all_kept_shut, among_last, flights_all_but, flights_all_on, flights_but, kept_all_on, kept_numbers_shut, length-others, others, regions_more, regions_on}
use Rattle.olap_meaning.proofs.Pushes.{flying_back, kept_back, load_last, starts_flying}

module _ (setting : Setting) (entries : List Entry) (facts : FactsOf) (regions : List Region) (held : List KeptOf) (places : List Header → Type 0) (flights : List FlightOf) (tables : List TableOf) (legal : Legal setting entries) where
  -- a load is given up
  pub dropped :
      (spare left : ℕ) (now : List Header → Type 0) (who : Who) (j : ℕ) → IsManager setting entries spare facts regions held places flights tables → flying entries j ≡ true → left + 1 ≡ spare → now (headers_of (others j flights))
      → IsManager setting (entries ++ Drop who j ∷ []) left facts regions held now (others j flights) tables
  dropped spare left now who j is flies room fit =
      let gone = length-others j flights (is.flights_all j flies) in
      let before : length flights + length flights + length held ≤ spare = is.ends_fit in
      let after : length (others j flights) + length (others j flights) + length held ≤ left = omega (arith, gone, before, room) in
      record {
        facts_are = facts_on setting entries facts (Drop who j) (λ cube. refl) refl is.facts_are;
        regions_are = is.regions_are ∙ sym (regions_on entries (Drop who j) refl);
        kept_are = all_kept_on setting entries (Drop who j) held (λ i. refl) refl legal is.kept_are;
        kept_all = kept_all_on entries (Drop who j) (map (λ k. k.load) held) (λ i. refl) is.kept_all;
        flights_are = flights_but j entries (Drop who j) flights (λ i. refl) is.flights_are;
        flights_all = flights_all_but j entries (Drop who j) flights (λ i. refl) refl is.flights_all;
        tables_are = is.tables_are ∙ sym (tables_stay setting entries (Drop who j) legal refl);
        ends_fit = after;
        places_fit = fit;
      }

  -- a load is delivered
  pub delivered :
      (spare left : ℕ) (now : List Header → Type 0) (who : Who) (j : ℕ) (k : KeptOf) → IsManager setting entries spare facts regions held places flights tables → flying entries j ≡ true → left + 1 ≡ spare → now (headers_of (others j flights)) → k.load ≡ j
      → IsKept setting.catalog (entries ++ Done who j ∷ []) k → IsManager setting (entries ++ Done who j ∷ []) left facts regions (held ++ k ∷ []) now (others j flights) tables
  delivered spare left now who j k is flies room fit same keeps =
      let gone = length-others j flights (is.flights_all j flies) in
      let before : length flights + length flights + length held ≤ spare = is.ends_fit in
      let after : length (others j flights) + length (others j flights) + length (held ++ k ∷ []) ≤ left = omega (arith, gone, before, room, length_push held k) in
      record {
        facts_are = facts_on setting entries facts (Done who j) (λ cube. refl) refl is.facts_are;
        regions_are = is.regions_are ∙ sym (regions_on entries (Done who j) refl);
        kept_are = All-push (IsKept setting.catalog (entries ++ Done who j ∷ [])) held k (all_kept_on setting entries (Done who j) held (λ i. refl) refl legal is.kept_are) keeps;
        kept_all = λ i h. ap (λ (loads : List ℕ). among loads i) (map-append (λ (o : KeptOf). o.load) held (k ∷ []))
            ∙ elim (kept_back entries (Done who j) i h) [
              | inl old ↦ among_still (map (λ o. o.load) held) k.load i (is.kept_all i old)
              | inr new ↦ among_last (map (λ o. o.load) held) k.load i (same ∙ eqb-true j i new)
            ];
        flights_are = flights_but j entries (Done who j) flights (λ i. refl) is.flights_are;
        flights_all = flights_all_but j entries (Done who j) flights (λ i. refl) refl is.flights_all;
        tables_are = is.tables_are ∙ sym (tables_stay setting entries (Done who j) legal refl);
        ends_fit = after;
        places_fit = fit;
      }

  -- cells are answered
  pub answered : (spare left : ℕ) (who : Who) (cells : List CellSource) → IsManager setting entries spare facts regions held places flights tables → closing flights held ≤ left → IsManager setting (entries ++ Answer who cells ∷ []) left facts regions held places flights tables
  answered spare left who cells is room = record {
    facts_are = facts_on setting entries facts (Answer who cells) (λ cube. refl) refl is.facts_are;
    regions_are = is.regions_are ∙ sym (regions_on entries (Answer who cells) refl);
    kept_are = all_kept_on setting entries (Answer who cells) held (λ i. refl) refl legal is.kept_are;
    kept_all = kept_all_on entries (Answer who cells) (map (λ k. k.load) held) (λ i. refl) is.kept_all;
    flights_are = all_flights_on entries (Answer who cells) flights (λ i. refl) is.flights_are;
    flights_all = flights_all_on entries (Answer who cells) (map (λ f. f.load) flights) refl is.flights_all;
    tables_are = is.tables_are ∙ sym (tables_stay setting entries (Answer who cells) legal refl);
    ends_fit = room;
    places_fit = is.places_fit;
  }

  -- what is kept is shown
  pub shown : (spare left : ℕ) (who : Who) → IsManager setting entries spare facts regions held places flights tables → closing flights held ≤ left → IsManager setting (entries ++ Saw who ∷ []) left facts regions held places flights tables
  shown spare left who is room = record {
    facts_are = facts_on setting entries facts (Saw who) (λ cube. refl) refl is.facts_are;
    regions_are = is.regions_are ∙ sym (regions_on entries (Saw who) refl);
    kept_are = all_kept_on setting entries (Saw who) held (λ i. refl) refl legal is.kept_are;
    kept_all = kept_all_on entries (Saw who) (map (λ k. k.load) held) (λ i. refl) is.kept_all;
    flights_are = all_flights_on entries (Saw who) flights (λ i. refl) is.flights_are;
    flights_all = flights_all_on entries (Saw who) (map (λ f. f.load) flights) refl is.flights_all;
    tables_are = is.tables_are ∙ sym (tables_stay setting entries (Saw who) legal refl);
    ends_fit = room;
    places_fit = is.places_fit;
  }

  -- a region is flushed: what it covers is shut off in each load
  pub flushed :
      (spare left : ℕ) (now : List Header → Type 0) (who : Who) (region : Region) → IsManager setting entries spare facts regions held places flights tables → closing flights held ≤ left → ((headers : List Header) → places headers → now headers)
      → IsManager setting (entries ++ Flush who region ∷ []) left facts (regions ++ region ∷ []) (map (of_loads.shut_off region) held) now flights tables
  flushed spare left now who region is room on = record {
    facts_are = facts_on setting entries facts (Flush who region) (λ cube. refl) refl is.facts_are;
    regions_are = ap (λ (rs : List Region). rs ++ region ∷ []) is.regions_are ∙ sym (regions_more entries (Flush who region));
    kept_are = all_kept_shut setting entries who region held legal is.kept_are;
    kept_all = subst (λ (loads : List ℕ). (j : ℕ) → kept (entries ++ Flush who region ∷ []) j ≡ true → among loads j ≡ true) (sym (kept_numbers_shut region held))
        (kept_all_on entries (Flush who region) (map (λ k. k.load) held) (λ i. refl) is.kept_all);
    flights_are = all_flights_on entries (Flush who region) flights (λ i. refl) is.flights_are;
    flights_all = flights_all_on entries (Flush who region) (map (λ f. f.load) flights) refl is.flights_all;
    tables_are = is.tables_are ∙ sym (tables_stay setting entries (Flush who region) legal refl);
    ends_fit = omega (arith, length-map held (of_loads.shut_off region), room);
    places_fit = on (headers_of flights) is.places_fit;
  }

  -- a batch is appended
  pub appended :
      (spare left : ℕ) (who : Who) (cube v : ℕ) (batch : FactRows) → IsManager setting entries spare facts regions held places flights tables → closing flights held ≤ left → cube < length facts.cubes → is_batch setting.catalog cube batch ≡ true
      → IsManager setting (entries ++ Append who cube v batch.rows ∷ []) left (with_batch facts cube batch) regions held places flights tables
  appended spare left who cube v batch is room known fits = record {
    facts_are = facts_more setting entries facts who cube v batch known fits is.facts_are;
    regions_are = is.regions_are ∙ sym (regions_on entries (Append who cube v batch.rows) refl);
    kept_are = all_kept_on setting entries (Append who cube v batch.rows) held (λ i. refl) refl legal is.kept_are;
    kept_all = kept_all_on entries (Append who cube v batch.rows) (map (λ k. k.load) held) (λ i. refl) is.kept_all;
    flights_are = all_flights_on entries (Append who cube v batch.rows) flights (λ i. refl) is.flights_are;
    flights_all = flights_all_on entries (Append who cube v batch.rows) (map (λ f. f.load) flights) refl is.flights_all;
    tables_are = is.tables_are ∙ sym (tables_stay setting entries (Append who cube v batch.rows) legal refl);
    ends_fit = room;
    places_fit = is.places_fit;
  }

  -- a load is started, after the regions that were flushed
  pub starts :
      (spare left : ℕ) (load : Load) (flight : FlightOf) → IsManager setting entries spare facts regions held places flights tables → closing flights held + 2 ≤ left → places (headers_of (flights ++ flight ∷ []))
      → flight ≡ record { load = suc (length entries); who = load.who; header = load.header; version = load.version; place = length regions }
      → IsManager setting (entries ++ Start load ∷ []) left facts regions held places (flights ++ flight ∷ []) tables
  starts spare left load flight is room fit made =
      let number : flight.load ≡ suc (length entries) = ap (λ (f : FlightOf). f.load) made in
      record {
        facts_are = facts_on setting entries facts (Start load) (λ cube. refl) refl is.facts_are;
        regions_are = is.regions_are ∙ sym (regions_on entries (Start load) refl);
        kept_are = all_kept_on setting entries (Start load) held (λ i. refl) refl legal is.kept_are;
        kept_all = kept_all_on entries (Start load) (map (λ k. k.load) held) (λ i. refl) is.kept_all;
        flights_are = All-push (IsFlight (entries ++ Start load ∷ [])) flights flight (all_flights_on entries (Start load) flights (λ i. refl) is.flights_are)
            (subst (IsFlight (entries ++ Start load ∷ [])) (sym made)
            (record {
              load = load;
              started = load_last entries (Start load);
              flies = starts_flying setting entries load legal;
              who = refl;
              header = refl;
              version = refl;
              place = ap length (is.regions_are ∙ sym (regions_on entries (Start load) refl) ∙ ap regions_of (sym (take_all (suc (length entries)) (entries ++ Start load ∷ []) (let more = length_push entries (Start load) in omega (arith, more)))));
            }));
        flights_all = λ i h. ap (λ (loads : List ℕ). among loads i) (map-append (λ (f : FlightOf). f.load) flights (flight ∷ []))
            ∙ elim (flying_back entries (Start load) i h).1 [
              | inl old ↦ among_still (map (λ f. f.load) flights) flight.load i (is.flights_all i old)
              | inr new ↦ among_last (map (λ f. f.load) flights) flight.load i (number ∙ sym new.0)
            ];
        tables_are = is.tables_are ∙ sym (tables_stay setting entries (Start load) legal refl);
        ends_fit = omega (arith, length-append flights (flight ∷ []), room);
        places_fit = fit;
      }

  -- an aggregate table is installed
  pub installs :
      (spare left : ℕ) (who : Who) (table : TableOf) (cube : ℕ) → IsManager setting entries spare facts regions held places flights tables → closing flights held ≤ left → table_cube setting.catalog table.table ≡ Some cube → table.version ≤ version entries cube
      → built_over setting.catalog table.table table.version (rows_of entries cube table.version) ≡ Some table
      → IsManager setting (entries ++ Agg who table.table table.version ∷ []) left facts regions held places flights (put table tables)
  installs spare left who table cube is room known reached own =
      let entry : Entry = Agg who table.table table.version in
      record {
        facts_are = facts_on setting entries facts entry (λ cube. refl) refl is.facts_are;
        regions_are = is.regions_are ∙ sym (regions_on entries entry refl);
        kept_are = all_kept_on setting entries entry held (λ i. refl) refl legal is.kept_are;
        kept_all = kept_all_on entries entry (map (λ k. k.load) held) (λ i. refl) is.kept_all;
        flights_are = all_flights_on entries entry flights (λ i. refl) is.flights_are;
        flights_all = flights_all_on entries entry (map (λ f. f.load) flights) refl is.flights_all;
        tables_are = ap (put table) is.tables_are ∙ sym (tables_built_more setting entries who table cube legal known reached own);
        ends_fit = room;
        places_fit = is.places_fit;
      }
