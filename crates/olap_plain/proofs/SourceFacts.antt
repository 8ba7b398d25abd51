-- Sources that are decided by walks over loads.
use Rattle.std.proofs.Common.{◌≡◌, refl, sym, ◌∙◌, ap, subst, ℕ, zero, suc, ◌-◌, ◌<◌, List, [], ◌∷◌, filter, filter_map, Bool, true, false, cond, not, ◌&&◌, ◌||◌, ◌↔◌, Some, option_and_then, slice_get, Contains, IsTrue, arith}
use Rattle.std.specs.List.{list_all, list_any}
use Rattle.std.proofs.lemmas.Bool.{and_parts, and_from, not_from_false, or_right}
use Rattle.std.proofs.Math.Bool.{or-false}
use Rattle.std.proofs.lemmas.List.Elements.{All-contains, All-head, filter_map-append}
use Rattle.std.proofs.lemmas.List.Folds.{list_any-append}
use Rattle.olap_meaning.specs.declared.cells.Cell.{Cell}
use Rattle.olap_meaning.specs.declared.cells.Allowed.{Allowed}
use Rattle.olap_meaning.specs.declared.tables.Catalog.{Catalog}
use Rattle.olap_meaning.specs.declared.tables.Measure.{Measure}
use Rattle.olap_meaning.specs.Covering.{names_column}
use Rattle.olap_meaning.specs.History.{Entry, is_some_and, live, load_version}
use Rattle.olap_meaning.specs.Worth.{measure_of}
use Rattle.olap_meaning.specs.Rolled.{Offer, IsRolled, IsRolledSource, adds_up, all_below, allows_in, can_split, header_columns, fits, fitting_hold, live_up_to, offered, some_allows, value_count}
use Rattle.olap_meaning.proofs.Fresh.{live_offer}
use Rattle.olap_meaning.proofs.Loads.{some_and}
use Rattle.olap_meaning.proofs.Members.{All-from_member, all_below_at, all_below_from, all_member, any_member, filter_map_member, in_first, in_rest, map_member, member_all, member_any, member_filter_map}
use Rattle.olap_meaning.proofs.Rolling.{IsAlong, adds_up_from, rolled_along, split_rolls}
use Rattle.olap_plain.specs.SourceTests.{can_add, roll_along, roll_from, rolled_test, some_load_allows}
use Rattle.olap_plain.proofs.Fields.{any-filter_map}

-- a filter that each element passes keeps all
filter_all : {X : Type 0} (p : X → Bool) (xs : List X) → ((x : X) → Contains xs x → p x ≡ true) → filter p xs ≡ xs
filter_all p [] each = refl
filter_all p (x ∷ xs) each = rw (each x (in_first x xs), filter_all p xs (λ y held. each y (in_rest x xs y held))) refl

module _ (catalog : Catalog) (history : List Entry) (cell : Cell) (loads : List ℕ) where
  abbrev offers : List Offer
  offers = filter_map (offered history) loads

  abbrev size : ℕ → ℕ
  size = value_count catalog

  -- all of the loads fit one along a column
  abbrev all_fit : Offer → ℕ → Bool
  all_fit first split = list_all (λ j. is_some_and (fits cell split first) (offered history j)) loads

  load_allows : (column value : ℕ) → some_load_allows history loads column value ≡ some_allows offers column value
  load_allows column value = sym (any-filter_map (λ offer. allows_in offer.header column value) (offered history) loads)

  -- loads that all fit the first along a column, and hold its values, are rolled up
  along_rolls : (measure : Measure) → adds_up measure.aggregator ≡ true → (first : Offer) → Contains offers first → (split : ℕ) → Contains (header_columns first.header) split → roll_along catalog history cell loads first split ≡ true → IsRolled measure.aggregator size cell offers
  along_rolls measure adds first held split own along = subst (IsRolled measure.aggregator size cell) (filter_all (fits cell split first) offers each) (split_rolls size cell offers measure.aggregator first split adds held own can)
    where
      outer : ((not (names_column cell split) && all_fit first split) ≡ true) × (all_below (size split) (some_load_allows history loads split) ≡ true)
      outer = and_parts (not (names_column cell split) && all_fit first split) (all_below (size split) (some_load_allows history loads split)) along

      inner : (not (names_column cell split) ≡ true) × (all_fit first split ≡ true)
      inner = and_parts (not (names_column cell split)) (all_fit first split) outer.0

      each : (offer : Offer) → Contains offers offer → fits cell split first offer ≡ true
      each offer among =
          let load = member_filter_map (offered history) loads offer among in
          sym (ap (is_some_and (fits cell split first)) load.2) ∙ all_member (λ j. is_some_and (fits cell split first) (offered history j)) loads load.0 inner.1 load.1

      at_value : (value : ℕ) → value < size split → list_any (λ other. fits cell split first other && allows_in other.header split value) offers ≡ true
      at_value value below =
          let found = member_any (λ offer. allows_in offer.header split value) offers (sym (load_allows split value) ∙ all_below_at (size split) (some_load_allows history loads split) value outer.1 below) in
          any_member (λ other. fits cell split first other && allows_in other.header split value) offers found.0 found.1 (and_from (fits cell split first found.0) (allows_in found.0.header split value) (each found.0 found.1) found.2)

      can : can_split size cell offers first split ≡ true
      can =
          and_from (not (names_column cell split) && fits cell split first first) (fitting_hold size cell offers first split)
          (and_from (not (names_column cell split)) (fits cell split first first) inner.0 (each first held))
          (all_below_from (size split) (λ value. list_any (λ other. fits cell split first other && allows_in other.header split value) offers) at_value)

-- what the first load of a list offers is among what they offer
first_held : (history : List Entry) (loads : List ℕ) (first : Offer) → option_and_then (offered history) (slice_get loads 0) ≡ Some first → Contains (filter_map (offered history) loads) first
first_held history [] first is = absurd (cc)
first_held history (j ∷ js) first is = filter_map_member (offered history) (j ∷ js) j first (in_first j js) is

module _ (catalog : Catalog) (history : List Entry) (cell : Cell) where
  told : (loads : List ℕ) → rolled_test catalog history cell loads ≡ true → IsRolledSource catalog history cell loads
  told loads passes = record {
    lives = All-from_member (λ j. IsTrue (live history j cell)) loads (λ j held. all_member (λ k. live history k cell) loads j inner.1 held);
    measure = measure.0;
    is_measure = measure.1;
    rolled = along_rolls catalog history cell loads measure.0 measure.2 first.0 (first_held history loads first.0 first.1) along.0.0 (map_member (λ (own : ℕ × Allowed). own.0) first.0.header.columns along.0 along.1) along.2;
  }
    where
      outer : ((can_add catalog cell && list_all (λ j. live history j cell) loads) ≡ true) × (is_some_and (roll_from catalog history cell loads) (option_and_then (offered history) (slice_get loads 0)) ≡ true)
      outer = and_parts (can_add catalog cell && list_all (λ j. live history j cell) loads) (is_some_and (roll_from catalog history cell loads) (option_and_then (offered history) (slice_get loads 0))) passes

      inner : (can_add catalog cell ≡ true) × (list_all (λ j. live history j cell) loads ≡ true)
      inner = and_parts (can_add catalog cell) (list_all (λ j. live history j cell) loads) outer.0

      measure : (measure : Measure) × (measure_of catalog cell ≡ Some measure) × (adds_up measure.aggregator ≡ true)
      measure = some_and (λ measure. adds_up measure.aggregator) (measure_of catalog cell) inner.0

      first : (first : Offer) × (option_and_then (offered history) (slice_get loads 0) ≡ Some first) × (roll_from catalog history cell loads first ≡ true)
      first = some_and (roll_from catalog history cell loads) (option_and_then (offered history) (slice_get loads 0)) outer.1

      along : (own : ℕ × Allowed) × Contains first.0.header.columns own × (roll_along catalog history cell loads first.0 own.0 ≡ true)
      along = member_any (λ own. roll_along catalog history cell loads first.0 own.0) first.0.header.columns first.2

  rolls : (loads : List ℕ) (source : IsRolledSource catalog history cell loads) (first : Offer) → Contains (filter_map (offered history) loads) first → roll_from catalog history cell loads first ≡ true
  rolls loads source first held =
      any_member (λ own. roll_along catalog history cell loads first own.0) first.header.columns along.1.own.0 along.1.own.1
      (subst (λ (column : ℕ). roll_along catalog history cell loads first column ≡ true) (sym along.1.own.2) passes)
    where
      along : (along : ℕ) × IsAlong (value_count catalog) cell (filter_map (offered history) loads) first along
      along = rolled_along (value_count catalog) cell source.measure.aggregator (filter_map (offered history) loads) source.rolled first held

      split : ℕ
      split = along.0

      fits_at : (j : ℕ) → Contains loads j → is_some_and (fits cell split first) (offered history j) ≡ true
      fits_at j among =
          let offer = live_offer history cell j (All-contains (λ j. IsTrue (live history j cell)) loads j source.lives among) in
          ap (is_some_and (fits cell split first)) offer.1 ∙ along.1.each offer.0 (filter_map_member (offered history) loads j offer.0 among offer.1)

      passes : roll_along catalog history cell loads first split ≡ true
      passes =
          and_from (not (names_column cell split) && all_fit catalog history cell loads first split) (all_below (value_count catalog split) (some_load_allows history loads split))
          (and_from (not (names_column cell split)) (all_fit catalog history cell loads first split) (not_from_false (names_column cell split) along.1.lacked) (member_all (λ j. is_some_and (fits cell split first) (offered history j)) loads fits_at))
          (all_below_from (value_count catalog split) (some_load_allows history loads split) (λ value below. load_allows catalog history cell loads split value ∙ along.1.every value below))

  passed : (loads : List ℕ) → IsRolledSource catalog history cell loads → rolled_test catalog history cell loads ≡ true
  passed [] source = absurd (omega (arith, source.rolled.some))
  passed (j ∷ js) source =
      and_from (can_add catalog cell && list_all (λ j. live history j cell) (j ∷ js)) (is_some_and (roll_from catalog history cell (j ∷ js)) (offered history j))
      (and_from (can_add catalog cell) (list_all (λ j. live history j cell) (j ∷ js)) adds (member_all (λ j. live history j cell) (j ∷ js) (λ k among. All-contains (λ j. IsTrue (live history j cell)) (j ∷ js) k source.lives among)))
      (ap (is_some_and (roll_from catalog history cell (j ∷ js))) first.1 ∙ rolls (j ∷ js) source first.0 (filter_map_member (offered history) (j ∷ js) j first.0 (in_first j js) first.1))
    where
      adds : can_add catalog cell ≡ true
      adds = ap (is_some_and (λ measure. adds_up measure.aggregator)) source.is_measure ∙ adds_up_from source.measure.aggregator source.rolled.adds_up

      first : (offer : Offer) × (offered history j ≡ Some offer) × (load_version history j ≡ Some offer.version)
      first = live_offer history cell j (All-head (λ j. IsTrue (live history j cell)) j js source.lives)

  -- the test of a rolled source decides it
  pub rolled_decided : (loads : List ℕ) (result : Bool) → result ≡ rolled_test catalog history cell loads → (IsTrue result) ↔ (IsRolledSource catalog history cell loads)
  rolled_decided loads result is = (λ h. told loads (sym is ∙ h), λ source. is ∙ passed loads source)

module _ (history : List Entry) (cell : Cell) where
  -- whether some offer of the live loads up to a position passes, and whether that of one load does, which is live
  abbrev pub upto : (Offer → Bool) → ℕ → Bool
  upto test n = list_any test (filter_map (offered history) (live_up_to history cell n))

  abbrev pub here : (Offer → Bool) → ℕ → Bool
  here test j = live history j cell && is_some_and test (offered history j)

  upto_more : (test : Offer → Bool) (n : ℕ) → upto test (suc n) ≡ (upto test n || here test (suc n))
  upto_more test n =
      ap (list_any test) (filter_map-append (offered history) (live_up_to history cell n) last)
      ∙ list_any-append test (filter_map (offered history) (live_up_to history cell n)) (filter_map (offered history) last)
      ∙ ap (λ b. upto test n || b) (any-filter_map test (offered history) last ∙ by (live history (suc n) cell))
    where
      last : List ℕ
      last = cond (live history (suc n) cell) (suc n ∷ []) []

      by : (b : Bool) → list_any (λ j. is_some_and test (offered history j)) (cond b (suc n ∷ []) []) ≡ (b && is_some_and test (offered history (suc n)))
      by true = or-false (is_some_and test (offered history (suc n)))
      by false = refl

  -- a walk back over the live loads: what is left to look at gives the answer where the test fails here, and it is yes where the test passes
  pub walk_on : (test : Offer → Bool) (j : ℕ) (answer : Bool) → 0 < j → here test j ≡ false → upto test j ≡ answer → upto test (j - 1) ≡ answer
  walk_on test zero answer pos fails rest = absurd (omega arith)
  walk_on test (suc n) answer pos fails rest =
      let e : suc n - 1 ≡ n = omega arith in
      ap (upto test) e ∙ sym (or-false (upto test n)) ∙ sym (ap (λ b. upto test n || b) fails) ∙ sym (upto_more test n) ∙ rest

  pub walk_here : (test : Offer → Bool) (j : ℕ) (answer : Bool) → 0 < j → here test j ≡ true → upto test j ≡ answer → true ≡ answer
  walk_here test zero answer pos passes rest = absurd (omega arith)
  walk_here test (suc n) answer pos passes rest = sym (or_right (upto test n) (here test (suc n)) passes) ∙ sym (upto_more test n) ∙ rest
