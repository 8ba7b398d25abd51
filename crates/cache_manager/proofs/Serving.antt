-- The kept load that serves a cell is its exact source.
use Rattle.std.proofs.Common.{◌≡◌, sym, ◌∙◌, ap, ℕ, ◌≤◌, List, [], ◌∷◌, length, map, Bool, true, false, not, ◌&&◌, ◌==◌, inl, inr, Option, Some, None, option_map, arith, All}
use Rattle.std.specs.Prelude.{IfSome, option_copied}
use Rattle.std.specs.Borrow.{Bor}
use Rattle.std.specs.List.{list_all, list_any}
use Rattle.std.proofs.lemmas.Bool.{and_from, and_parts, both_ways, eqb-true, false_from_ne_true, not-true, not_from_false, or_cases}
use Rattle.std.proofs.lemmas.List.Elements.{All-contains, All-head, All-tail}
use Rattle.olap_meaning.specs.declared.cells.Cell.{Cell}
use Rattle.olap_meaning.specs.declared.cells.Header.{Header}
use Rattle.olap_meaning.specs.declared.regions.Region.{Region}
use Rattle.olap_meaning.specs.declared.tables.Catalog.{Catalog}
use Rattle.olap_meaning.specs.Covering.{among, header_covers, just_covers, names_column, region_covers}
use Rattle.olap_meaning.specs.History.{Entry, Load, exact_source, flushed_after, is_some_and, kept, live, load_at, load_covers, load_just_covers}
use Rattle.olap_meaning.specs.Worth.{answered_version, value, worth}
use Rattle.olap_meaning.proofs.Loads.{live_parts, some_and}
use Rattle.olap_meaning.proofs.Shutting.{regions_shut_off}
use Rattle.olap_meaning.proofs.Sources.{latest_is, none_latest}
use Rattle.fact_reader.specs.BodyRows.{body_value}
use Rattle.fact_reader.proofs.LawFacts.{held_rows_are_worth_in_versions}
use Rattle.cache_flush.specs.declared.kept.Kept.{Kept}
use Rattle.cache_flush.specs.Loads as of_loads
use Rattle.cache_flush.specs.Loads.{IsGreatest, KeptOf, kept_in}
use Rattle.cache_flush.specs.Shuts.{is_live}
use Rattle.cache_manager.specs.Kept.{IsKept}
use Rattle.olap_meaning.proofs.Pushes.{load_within}

-- a kept load by its number, with what holds of all
pub load_among :
    (P : KeptOf → Type 0) (held : List KeptOf) (j : ℕ) → All P held → among (map (λ k. k.load) held) j ≡ true → (k : KeptOf) × P k × (k.load ≡ j)
load_among P [] j all h = absurd (cc)
load_among P (k ∷ ks) j all h = elim (or_cases (k.load == j) (among (map (λ o. o.load) ks) j) h) [
  | inl here ↦ (k, All-head P k ks all, eqb-true k.load j here)
  | inr there ↦ load_among P ks j (All-tail P k ks all) there
]

-- a kept load's body has its header
pub kept_header : (catalog : Catalog) (entries : List Entry) (k : KeptOf) (is : IsKept catalog entries k) → k.body.header ≡ is.load.header
kept_header catalog entries k is = is.holds.own_header

module _ (catalog : Catalog) (entries : List Entry) (cell : Cell) where
  abbrev serves : ℕ → Bool
  serves j = live entries j cell && load_just_covers entries j cell

  -- what shuts off part of a kept load tells the flushes since its Start
  pub flushed_told : (k : KeptOf) (is : IsKept catalog entries k) → header_covers is.load.header cell ≡ true → flushed_after entries k.load cell ≡ list_any (λ region. region_covers region cell) k.shut
  flushed_told k is wide = regions_shut_off entries k.load is.load cell is.started wide ∙ ap (list_any (λ region. region_covers region cell)) (sym is.shut)

  wide_told : (header : Header) → just_covers header cell ≡ true → header_covers header cell ≡ true
  wide_told header h = (and_parts (header_covers header cell) (list_all (λ column. names_column cell column.0) header.columns) h).0

  -- a kept load that serves the cell serves it in the history
  serves_from : (k : KeptOf) → IsKept catalog entries k → of_loads.serves k cell ≡ true → serves k.load ≡ true
  serves_from k is h =
      let parts = and_parts (just_covers k.body.header cell) (is_live k.shut cell) h in
      let here : just_covers is.load.header cell ≡ true = ap (λ (o : Header). just_covers o cell) (sym (kept_header catalog entries k is)) ∙ parts.0 in
      let just : load_just_covers entries k.load cell ≡ true = ap (is_some_and (λ (load : Load). just_covers load.header cell)) is.started ∙ here in
      let wide : load_covers entries k.load cell ≡ true = ap (is_some_and (λ (load : Load). header_covers load.header cell)) is.started ∙ wide_told is.load.header here in
      let unflushed : flushed_after entries k.load cell ≡ false = flushed_told k is (wide_told is.load.header here) ∙ not-true _ parts.1 in
      and_from (live entries k.load cell) (load_just_covers entries k.load cell)
      (and_from (kept entries k.load && load_covers entries k.load cell) (not (flushed_after entries k.load cell)) (and_from (kept entries k.load) (load_covers entries k.load cell) is.delivered wide) (not_from_false _ unflushed)) just

  -- and the other way round
  serves_back : (k : KeptOf) → IsKept catalog entries k → serves k.load ≡ true → of_loads.serves k cell ≡ true
  serves_back k is h =
      let parts = and_parts (live entries k.load cell) (load_just_covers entries k.load cell) h in
      let load : (load : Load) × (load_at entries k.load ≡ Some load) × (just_covers load.header cell ≡ true) = some_and (λ (load : Load). just_covers load.header cell) (load_at entries k.load) parts.1 in
      let loads : Some is.load ≡ Some load.0 = sym is.started ∙ load.1 in
      let same : is.load ≡ load.0 = cc in
      let here : just_covers is.load.header cell ≡ true = ap (λ (l : Load). just_covers l.header cell) same ∙ load.2 in
      and_from (just_covers k.body.header cell) (is_live k.shut cell) (ap (λ (o : Header). just_covers o cell) (kept_header catalog entries k is) ∙ here)
      (not_from_false _ (sym (flushed_told k is (wide_told is.load.header here)) ∙ (live_parts entries k.load cell parts.0).2))

  module _ (held : List KeptOf) (all : All (IsKept catalog entries) held) (every : (j : ℕ) → kept entries j ≡ true → among (map (λ k. k.load) held) j ≡ true) where
    -- a load that serves the cell is among those that are kept, with what holds of all
    served : (P : KeptOf → Type 0) (j : ℕ) → All P held → serves j ≡ true → (k : KeptOf) × P k × (k.load ≡ j) × (of_loads.serves k cell ≡ true)
    served P j each h =
        let parts = and_parts (live entries j cell) (load_just_covers entries j cell) h in
        let both = both_of P held each all in
        let found = load_among (λ k. P k × IsKept catalog entries k) held j both (every j (live_parts entries j cell parts.0).0) in
        (found.0, found.1.0, found.2, serves_back found.0 found.1.1 (ap serves found.2 ∙ h))
      where
        both_of : (P : KeptOf → Type 0) (ks : List KeptOf) → All P ks → All (IsKept catalog entries) ks → All (λ k. P k × IsKept catalog entries k) ks
        both_of P ks each all i d l = (each i d l, all i d l)

    -- the greatest that serves the cell, if there is one
    pub source_is_greatest : (o : Option KeptOf) → IsGreatest held cell o → exact_source entries cell ≡ option_map (λ (k : KeptOf). k.load) o
    source_is_greatest None none =
        none_latest (length entries) serves
        (λ j l. false_from_ne_true (serves j) (λ h. let back = served (λ k. of_loads.serves k cell ≡ false) j none h in both_ways _ back.1 back.3))
    source_is_greatest (Some best) greatest =
        let is : IsKept catalog entries best = All-contains (IsKept catalog entries) held best all greatest.0 in
        let within = load_within entries best.load is.load is.started in
        latest_is (length entries) serves best.load (serves_from best is greatest.1) within.0 within.1
        (λ j l h.
        let back = served (λ k. of_loads.serves k cell ≡ true → k.load ≤ best.load) j greatest.2 h in
        let most : back.0.load ≤ best.load = back.1 back.3 in
        omega (arith, most, back.2))

    -- the same of what is found
    pub source_found : (regions : List Region) (r : Option (Bor Kept)) → IsGreatest held cell (option_map (kept_in regions) (option_copied r)) → exact_source entries cell ≡ option_map (λ (k : Kept). k.load) (option_copied r)
    source_found regions None g = source_is_greatest None g
    source_found regions (Some b) g = source_is_greatest (Some (kept_in regions b.now)) g

  pub found_kept : (held : List KeptOf) (regions : List Region) (r : Option (Bor Kept)) → All (IsKept catalog entries) held → IsGreatest held cell (option_map (kept_in regions) (option_copied r)) → IfSome r (λ b. IsKept catalog entries (kept_in regions b.now))
  found_kept held regions None all g = tt
  found_kept held regions (Some b) all g = All-contains (IsKept catalog entries) held (kept_in regions b.now) all g.0

-- it covers the cell with just its columns
pub found_serves : (held : List KeptOf) (cell : Cell) (regions : List Region) (r : Option (Bor Kept)) → IsGreatest held cell (option_map (kept_in regions) (option_copied r)) → IfSome r (λ b. just_covers b.now.body.header cell ≡ true)
found_serves held cell regions None g = tt
found_serves held cell regions (Some b) g = (and_parts (just_covers b.now.body.header cell) (is_live (kept_in regions b.now).shut cell) g.1).0

-- what a cell is worth, by the body of its exact source, and in which version
pub kept_version : (catalog : Catalog) (entries : List Entry) (k : KeptOf) (cell : Cell) → IsKept catalog entries k → answered_version entries (record { cell = cell; loads = k.load ∷ [] }) ≡ Some k.version
kept_version catalog entries k cell is = ap (option_map (λ (load : Load). load.version)) is.started ∙ ap Some (sym is.version)

pub kept_worth :
    (catalog : Catalog) (entries : List Entry) (k : KeptOf) (cell : Cell) → IsKept catalog entries k → just_covers k.body.header cell ≡ true
    → worth catalog entries (record { cell = cell; loads = k.load ∷ [] }) ≡ Some (body_value k.body cell)
kept_worth catalog entries k cell is covers =
    let here : just_covers is.load.header cell ≡ true = ap (λ (h : Header). just_covers h cell) (sym (kept_header catalog entries k is)) ∙ covers in
    ap (option_map (value catalog entries cell)) (kept_version catalog entries k cell is ∙ ap Some is.version)
    ∙ ap Some (sym (held_rows_are_worth_in_versions catalog entries is.load.header is.load.version k.body cell is.formed here is.holds))
