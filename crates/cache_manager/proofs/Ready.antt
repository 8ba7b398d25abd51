-- After the loads of a look were delivered, each of its cells has a source.
use Rattle.std.proofs.Common.{◌≡◌, refl, sym, ◌∙◌, ap, subst, ℕ, zero, suc, ◌+◌, ◌<◌, ◌≤◌, List, [], ◌∷◌, ◌++◌, append_assoc, length, map, filter, filter_map, Bool, true, false, not, ◌&&◌, ◌||◌, ◌⊎◌, inl, inr, Option, Some, None, is_some, option_map, slice_get, arith, All, drop}
use Rattle.std.specs.Prelude.{IsTrue}
use Rattle.std.specs.List.{AllZip, list_all, list_any, zip}
use Rattle.std.proofs.lemmas.Bool.{and_from, and_parts, both_ways, false_from_ne_true, not-true, not_from_false, or_cases, or_from, or_left, or_right}
use Rattle.std.proofs.lemmas.List.{append-nil, drop-append-le}
use Rattle.std.proofs.lemmas.List.Elements.{All-cons, All-contains, All-head, All-nil, All-tail, All-weaker}
use Rattle.std.proofs.lemmas.List.Folds.{list_any-append}
use Rattle.std.proofs.lemmas.Option.{slice_get-map, slice_get_within}
use Rattle.cell_groups.proofs.Alike.{Alike, alike_from, alike_self, alike_told}
use Rattle.olap_meaning.specs.declared.cells.Cell.{Cell}
use Rattle.olap_meaning.specs.declared.cells.Header.{Header}
use Rattle.olap_meaning.specs.declared.cells.Who.{Who}
use Rattle.olap_meaning.specs.Covering.{header_covers, just_covers, names_column}
use Rattle.olap_meaning.specs.History.{Entry, Start, Load, entry_at, evicts, exact_source, flushed_after, flushes, is_some_and, kept, live, load_at, load_covers, load_just_covers, awaited, awaited_load, flying}
use Rattle.olap_meaning.proofs.Loads.{live_load, live_on, load_start, some_and, start_load}
use Rattle.olap_meaning.proofs.Positions.{after_passes, entry_within, get-append, latest_bounds, latest_found}
use Rattle.olap_meaning.specs.declared.tables.Catalog.{Catalog}
use Rattle.history_core.specs.Answers.{HasSource}
use Rattle.history_core.specs.Cache.{CacheOf}
use Rattle.history_core.specs.Groups.{AreHeadersFor, IsHeaderFor, alike, awaited_loads, firsts, load_count, load_with, loads_with, wanted_of, wanting}
use Rattle.segment_header.specs.Widening.{Allowing, Serves}
use Rattle.olap_meaning.specs.Legal.{has_source, is_cell}
use Rattle.olap_meaning.specs.Rolled.{IsRolled, IsRolledSource, Offer, has_rolled_source, offered, value_count}
use Rattle.olap_meaning.proofs.RolledSources.{rolled_decided, rolled_found}
use Rattle.olap_meaning.proofs.Earliest.{earliest_found}
use Rattle.olap_meaning.proofs.Members.{filter_map_member}
use Rattle.olap_meaning.proofs.Lists.{any_at, contains_at}
use Rattle.olap_meaning.proofs.Growing.{load_stays}
use Rattle.history_core.specs.Groups.{numbers_from}
use Rattle.cache_manager.specs.Laws.{DeliveredLooksAreReady}
use Rattle.cache_manager.proofs.Grouping.{group_covered, kept_place, serving_header}

-- a load that serves a cell makes for an exact source
serves_source : (entries : List Entry) (j : ℕ) (cell : Cell) (load : Load) → load_at entries j ≡ Some load → live entries j cell ≡ true → load_just_covers entries j cell ≡ true → is_some (exact_source entries cell) ≡ true
serves_source entries j cell load at lives covers =
    let within = entry_within entries j (Start load) (load_start entries j load at) in
    let found : (m : ℕ) × (exact_source entries cell ≡ Some m) × (j ≤ m) = latest_bounds (length entries) (λ k. live entries k cell && load_just_covers entries k cell) j (and_from _ _ lives covers) within.0 within.1 in
    ap is_some found.1

-- and stay live where nothing flushes the cell or evicts them
live_stays : (entries later : List Entry) (j : ℕ) (cell : Cell) → list_any (flushes cell) later ≡ false → list_any (evicts j) later ≡ false → live entries j cell ≡ true → live (entries ++ later) j cell ≡ true
live_stays entries [] j cell none stays lives = rw (append-nil entries) lives
live_stays entries (e ∷ es) j cell none stays lives =
    let still : evicts j e ≡ false = false_from_ne_true _ (λ h. both_ways _ stays (or_left _ _ h)) in
    let remain : list_any (evicts j) es ≡ false = false_from_ne_true _ (λ h. both_ways _ stays (or_right _ _ h)) in
    let here : flushes cell e ≡ false = false_from_ne_true _ (λ h. both_ways _ none (or_left _ _ h)) in
    let rest : list_any (flushes cell) es ≡ false = false_from_ne_true _ (λ h. both_ways _ none (or_right _ _ h)) in
    rw (← append_assoc entries (e ∷ []) es) (live_stays (entries ++ e ∷ []) es j cell rest remain (live_on entries e cell j here still lives))

-- an entry past the front of a history is one of the rest
get_rest : {A : Type 0} (xs ys : List A) (i : ℕ) (x : A) → length xs ≤ i → slice_get (xs ++ ys) i ≡ Some x → (k : ℕ) × (slice_get ys k ≡ Some x)
get_rest [] ys i x l at = (i, at)
get_rest (z ∷ zs) ys zero x l at = absurd (omega (arith, l))
get_rest (z ∷ zs) ys (suc i) x l at = get_rest zs ys i x (omega (arith, l)) at

-- no flush after a load of the rest, where the rest flushes nothing of a cell
unflushed_rest : (entries rest : List Entry) (j : ℕ) (cell : Cell) → length entries ≤ j → list_any (flushes cell) rest ≡ false → flushed_after (entries ++ rest) j cell ≡ false
unflushed_rest entries rest j cell l none = false_from_ne_true _ some
  where
    by : (q : ℕ) (e : Entry) → entry_at (entries ++ rest) q ≡ Some e → j < q → flushes cell e ≡ true → ⊥
    by zero e at m f = absurd (omega (arith, m))
    by (suc i) e at m f = let there = get_rest entries rest i e (omega (arith, l, m)) at in both_ways _ none (any_at (flushes cell) rest there.0 e there.1 f)

    some : flushed_after (entries ++ rest) j cell ≡ true → ⊥
    some h =
        let found : (q : ℕ) × (e : Entry) × (entry_at (entries ++ rest) q ≡ Some e) × (j < q) × (flushes cell e ≡ true) = after_passes (flushes cell) j (entries ++ rest) h in
        by found.0 found.1 found.2 found.3 found.4

starts_flush_none : (cell : Cell) (loads : List Load) (later : List Entry) → list_any (flushes cell) later ≡ false → list_any (flushes cell) (map Start loads ++ later) ≡ false
starts_flush_none cell [] later none = none
starts_flush_none cell (load ∷ loads) later none = starts_flush_none cell loads later none

starts_evict_none : (j : ℕ) (loads : List Load) (later : List Entry) → list_any (evicts j) later ≡ false → list_any (evicts j) (map Start loads ++ later) ≡ false
starts_evict_none j [] later none = none
starts_evict_none j (load ∷ loads) later none = starts_evict_none j loads later none

get_of_rest : {A : Type 0} (xs ys : List A) (k : ℕ) (y : A) → slice_get ys k ≡ Some y → slice_get (xs ++ ys) (length xs + k) ≡ Some y
get_of_rest [] ys k y at = let e : 0 + k ≡ k = omega arith in ap (slice_get ys) e ∙ at
get_of_rest (x ∷ xs) ys k y at = let e : length (x ∷ xs) + k ≡ suc (length xs + k) = omega arith in ap (slice_get (x ∷ (xs ++ ys))) e ∙ get_of_rest xs ys k y at

-- the first cell of the group of a cell
abbrev FirstOf : List Cell → Cell → Type 0
FirstOf cells cell = (k : ℕ) × (first : Cell) × (slice_get cells k ≡ Some first) × (alike cell first ≡ true)

-- it is one before, or one of the first cells
abbrev FoundIn : List Cell → List Cell → Cell → Type 0
FoundIn before all cell = (list_any (alike cell) before ≡ true) ⊎ FirstOf (firsts before all) cell

first_of : (before cells : List Cell) (i : ℕ) (cell : Cell) → slice_get cells i ≡ Some cell → FoundIn before cells cell
first_of before [] i cell at = absurd (cc)
first_of before (d ∷ ds) i cell at = by (list_any (alike d) before) refl i at (first_of before ds) (first_of (before ++ d ∷ []) ds)
  where
    later : list_any (alike d) before ≡ false → FirstOf (firsts (before ++ d ∷ []) ds) cell → FoundIn before (d ∷ ds) cell
    later e found = inr (suc found.0, found.1, rw e found.2, found.3)

    here : list_any (alike d) before ≡ false → alike cell d ≡ true → FoundIn before (d ∷ ds) cell
    here e like = inr (0, d, rw e refl, like)

    by : (b : Bool) → list_any (alike d) before ≡ b → (i : ℕ) → slice_get (d ∷ ds) i ≡ Some cell
        → ((i : ℕ) (c : Cell) → slice_get ds i ≡ Some c → FoundIn before ds c)
        → ((i : ℕ) (c : Cell) → slice_get ds i ≡ Some c → FoundIn (before ++ d ∷ []) ds c)
        → FoundIn before (d ∷ ds) cell
    by true e zero at seen new = let same : d ≡ cell = cc in inl (ap (λ (c : Cell). list_any (alike c) before) (sym same) ∙ e)
    by true e (suc i) at seen new = elim (seen i cell at) [ inl old ↦ inl old | inr found ↦ inr (found.0, found.1, rw e found.2, found.3) ]
    by false e zero at seen new = let same : d ≡ cell = cc in here e (ap (λ (c : Cell). alike c d) (sym same) ∙ alike_self d)
    by false e (suc i) at seen new =
        elim (new i cell at) [
          | inl old ↦ elim (or_cases (list_any (alike cell) before) (alike cell d || false) (sym (list_any-append (alike cell) before (d ∷ [])) ∙ old)) [
            | inl older ↦ inl older
            | inr like ↦ elim (or_cases (alike cell d) false like) [ inl l ↦ here e l | inr none ↦ absurd (cc) ]
          ]
          | inr found ↦ later e found
        ]

-- one of this many numbers
number_at : (P : ℕ → Type 0) (first count k : ℕ) → All P (numbers_from first count) → k < count → P (first + k)
number_at P first zero k all l = absurd (omega (arith, l))
number_at P first (suc count) zero all l = let e : first + 0 ≡ first = omega arith in subst P (sym e) (All-head P first (numbers_from (suc first) count) all)
number_at P first (suc count) (suc k) all l = let e : first + suc k ≡ suc first + k = omega arith in subst P (sym e) (number_at P (suc first) count k (All-tail P first (numbers_from (suc first) count) all) (omega (arith, l)))

-- whatever allows the values of headers, they serve
pub serving_headers : (allowing : Allowing) (catalog : Catalog) (wanted : List Cell) (headers : List Header) → AreHeadersFor allowing catalog wanted headers → AreHeadersFor Serves catalog wanted headers
serving_headers allowing catalog wanted headers own = by (firsts [] wanted) headers own
  where
    by :
        (cs : List Cell) (hs : List Header) → AllZip (λ c h. IsHeaderFor allowing catalog c (filter (alike c) wanted) h) cs hs
        → AllZip (λ c h. IsHeaderFor Serves catalog c (filter (alike c) wanted) h) cs hs
    by [] [] all = tt
    by [] (h ∷ hs) all = absurd all
    by (c ∷ cs) [] all = absurd all
    by (c ∷ cs) (h ∷ hs) all = (serving_header allowing catalog c (filter (alike c) wanted) h all.0, by cs hs all.1)

-- what stands at one place of two lists
zip_at : {A B : Type 0} (R : A → B → Type 0) (xs : List A) (ys : List B) (k : ℕ) (x : A) → AllZip R xs ys → slice_get xs k ≡ Some x → (y : B) × (slice_get (zip xs ys) k ≡ Some (x, y)) × R x y
zip_at R [] ys k x all at = absurd (cc)
zip_at R (z ∷ zs) [] k x all at = absurd all
zip_at R (z ∷ zs) (y ∷ ys) zero x all at = let same : z ≡ x = cc in (y, ap (λ w. Some (w, y)) same, subst (λ w. R w y) same all.0)
zip_at R (z ∷ zs) (y ∷ ys) (suc k) x all at = zip_at R zs ys k x all.1 at

module _ (cache : CacheOf) (who : Who) (cells : List Cell) (headers : List Header) (later : List Entry) (own : AreHeadersFor Serves cache.setting.catalog (wanted_of cache cells) headers) where
  abbrev wanted : List Cell
  wanted = wanted_of cache cells

  abbrev loads : List Load
  loads = loads_with cache who cells headers

  abbrev final : List Entry
  final = cache.entries ++ (map Start loads ++ later)

  -- a cell that wanted a source has the load of its group
  wanted_served :
      (i : ℕ) (cell : Cell) → is_cell cache.setting.catalog cell ≡ true → slice_get wanted i ≡ Some cell → list_any (flushes cell) later ≡ false
      → All (λ j. IsTrue (kept final j)) (numbers_from (length cache.entries + 1) (load_count cache cells)) → is_some (exact_source final cell) ≡ true
  wanted_served i cell known at none all = elim (first_of [] wanted i cell at) [ inl old ↦ absurd (cc) | inr found ↦ served found.0 found.1 found.2 found.3 ]
    where
      served : (k : ℕ) (first : Cell) → slice_get (firsts [] wanted) k ≡ Some first → alike cell first ≡ true → is_some (exact_source final cell) ≡ true
      served k first place like =
          let told = alike_told cell first like in
          let back : Alike first cell = record { cube = sym told.cube; measure = sym told.measure; columns = sym told.columns } in
          let member = kept_place (alike first) wanted i cell at (alike_from first cell back) in
          let found = zip_at (λ c h. IsHeaderFor Serves cache.setting.catalog c (filter (alike c) wanted) h) (firsts [] wanted) headers k first own place in
          with_header k first found.0 member.0 member.1 back place found.1 found.2
        where
          with_header :
              (k : ℕ) (first : Cell) (header : Header) (m : ℕ) → slice_get (filter (alike first) wanted) m ≡ Some cell → Alike first cell → slice_get (firsts [] wanted) k ≡ Some first → slice_get (zip (firsts [] wanted) headers) k ≡ Some (first, header)
              → IsHeaderFor Serves cache.setting.catalog first (filter (alike first) wanted) header → is_some (exact_source final cell) ≡ true
          with_header k first header m member back place pair is =
              let covers : just_covers header cell ≡ true = group_covered Serves cache.setting.catalog first (filter (alike first) wanted) header is m cell back known member in
              let load : slice_get loads k ≡ Some (load_with cache who first header) = slice_get-map (λ (p : Cell × Header). load_with cache who p.0 p.1) (zip (firsts [] wanted) headers) k ∙ ap (option_map (λ (p : Cell × Header). load_with cache who p.0 p.1)) pair in
              let start : slice_get (map Start loads) k ≡ Some (Start (load_with cache who first header)) = slice_get-map Start loads k ∙ ap (option_map Start) load in
              let number : length cache.entries + 1 + k ≡ suc (length cache.entries + k) = omega arith in
              let at_final : load_at final (suc (length cache.entries + k)) ≡ Some (load_with cache who first header) =
              start_load final (suc (length cache.entries + k)) (load_with cache who first header) (get_of_rest cache.entries (map Start loads ++ later) k _ (get-append (map Start loads) later k _ start)) in
              let delivered : kept final (suc (length cache.entries + k)) ≡ true = subst (λ (j : ℕ). kept final j ≡ true) number (number_at (λ j. IsTrue (kept final j)) (length cache.entries + 1) (load_count cache cells) k all (slice_get_within (firsts [] wanted) k first place)) in
              let just : load_just_covers final (suc (length cache.entries + k)) cell ≡ true = ap (is_some_and (λ (l : Load). just_covers l.header cell)) at_final ∙ covers in
              let wide : load_covers final (suc (length cache.entries + k)) cell ≡ true =
              ap (is_some_and (λ (l : Load). header_covers l.header cell)) at_final
              ∙ (and_parts (header_covers header cell) (list_all (λ column. names_column cell column.0) header.columns) covers).0 in
              let open_still : flushed_after final (suc (length cache.entries + k)) cell ≡ false =
              unflushed_rest cache.entries (map Start loads ++ later) (suc (length cache.entries + k)) cell (omega arith) (starts_flush_none cell loads later none) in
              serves_source final (suc (length cache.entries + k)) cell (load_with cache who first header) at_final
              (and_from (kept final (suc (length cache.entries + k)) && load_covers final (suc (length cache.entries + k)) cell) (not (flushed_after final (suc (length cache.entries + k)) cell)) (and_from _ _ delivered wide) (not_from_false _ open_still)) just

  -- a cell that had an exact source still has one
  exact_still : (cell : Cell) (j : ℕ) → exact_source cache.entries cell ≡ Some j → list_any (flushes cell) later ≡ false → list_any (evicts j) later ≡ false → is_some (exact_source final cell) ≡ true
  exact_still cell j source none stays =
      let found = latest_found (length cache.entries) (λ k. live cache.entries k cell && load_just_covers cache.entries k cell) j source in
      let parts = and_parts (live cache.entries j cell) (load_just_covers cache.entries j cell) found.0 in
      let load : (load : Load) × (load_at cache.entries j ≡ Some load) × (just_covers load.header cell ≡ true) = some_and (λ (l : Load). just_covers l.header cell) (load_at cache.entries j) parts.1 in
      let at_final = load_stays cache.entries (map Start loads ++ later) j load.0 load.1 in
      serves_source final j cell load.0 at_final (live_stays cache.entries (map Start loads ++ later) j cell (starts_flush_none cell loads later none) (starts_evict_none j loads later stays) parts.0)
      (ap (is_some_and (λ (l : Load). just_covers l.header cell)) at_final ∙ load.2)

  -- what live loads offer is what they offered
  offers_stay : (cell : Cell) (js : List ℕ) → All (λ j. live cache.entries j cell ≡ true) js → filter_map (offered final) js ≡ filter_map (offered cache.entries) js
  offers_stay cell [] lives = refl
  offers_stay cell (j ∷ js) lives =
      let load : (load : Load) × (load_at cache.entries j ≡ Some load) × (header_covers load.header cell ≡ true) = live_load cache.entries j cell (All-head (λ i. live cache.entries i cell ≡ true) j js lives) in
      let at_final : load_at final j ≡ Some load.0 = load_stays cache.entries (map Start loads ++ later) j load.0 load.1 in
      rw (at_final, load.1) (ap (λ (os : List Offer). record { header = load.0.header; version = load.0.version } ∷ os) (offers_stay cell js (All-tail (λ i. live cache.entries i cell ≡ true) j js lives)))

  -- a cell that had a rolled source still has it
  rolled_still : (cell : Cell) → has_rolled_source cache.setting.catalog cache.entries cell ≡ true → list_any (flushes cell) later ≡ false → ((j : ℕ) → list_any (evicts j) later ≡ false) → has_rolled_source cache.setting.catalog final cell ≡ true
  rolled_still cell has none stays =
      let found = rolled_found cache.setting.catalog cache.entries cell has in
      let source : IsRolledSource cache.setting.catalog cache.entries cell found.0 = found.1 in
      rolled_decided cache.setting.catalog final cell found.0
      (record {
        lives = All-weaker (λ j. live cache.entries j cell ≡ true) (λ j. live final j cell ≡ true)
            (λ j lives. live_stays cache.entries (map Start loads ++ later) j cell (starts_flush_none cell loads later none) (starts_evict_none j loads later (stays j)) lives) found.0 source.lives;
        measure = source.measure;
        is_measure = source.is_measure;
        rolled = subst (IsRolled source.measure.aggregator (value_count cache.setting.catalog) cell) (sym (offers_stay cell found.0 source.lives)) source.rolled;
      })

  -- a cell that had a source still has one
  served_still : (cell : Cell) → has_source cache.setting.catalog cache.entries cell ≡ true → list_any (flushes cell) later ≡ false → ((j : ℕ) → list_any (evicts j) later ≡ false) → has_source cache.setting.catalog final cell ≡ true
  served_still cell has none stays = by (exact_source cache.entries cell) refl
    where
      by : (o : Option ℕ) → exact_source cache.entries cell ≡ o → has_source cache.setting.catalog final cell ≡ true
      by (Some j) e = or_left (is_some (exact_source final cell)) (has_rolled_source cache.setting.catalog final cell) (exact_still cell j e none (stays j))
      by None e = or_right (is_some (exact_source final cell)) (has_rolled_source cache.setting.catalog final cell) (rolled_still cell (rw e at has) none stays)

  -- a cell that awaited a load has it
  awaited_served : (cell : Cell) (j : ℕ) → awaited_load cache.entries cell ≡ Some j → list_any (flushes cell) later ≡ false → kept final j ≡ true → is_some (exact_source final cell) ≡ true
  awaited_served cell j awaits none delivered =
      let found = earliest_found (length cache.entries) (λ k. awaited cache.entries k cell) j awaits in
      let parts = and_parts (flying cache.entries j && load_just_covers cache.entries j cell) (not (flushed_after cache.entries j cell)) found.passes in
      let covers = (and_parts (flying cache.entries j) (load_just_covers cache.entries j cell) parts.0).1 in
      let load : (load : Load) × (load_at cache.entries j ≡ Some load) × (just_covers load.header cell ≡ true) = some_and (λ (l : Load). just_covers l.header cell) (load_at cache.entries j) covers in
      let at_final = load_stays cache.entries (map Start loads ++ later) j load.0 load.1 in
      let just : load_just_covers final j cell ≡ true = ap (is_some_and (λ (l : Load). just_covers l.header cell)) at_final ∙ load.2 in
      let wide : load_covers final j cell ≡ true =
      ap (is_some_and (λ (l : Load). header_covers l.header cell)) at_final
      ∙ (and_parts (header_covers load.0.header cell) (list_all (λ column. names_column cell column.0) load.0.header.columns) load.2).0 in
      let open_still : flushed_after final j cell ≡ false =
      ap (list_any (flushes cell)) (drop-append-le j cache.entries (map Start loads ++ later) found.within)
      ∙ list_any-append (flushes cell) (drop j cache.entries) (map Start loads ++ later)
      ∙ or_from (flushed_after cache.entries j cell) (list_any (flushes cell) (map Start loads ++ later)) (not-true _ parts.1) (starts_flush_none cell loads later none) in
      serves_source final j cell load.0 at_final
      (and_from (kept final j && load_covers final j cell) (not (flushed_after final j cell)) (and_from _ _ delivered wide) (not_from_false _ open_still)) just

  -- the loads that started for the look, and those that its cells awaited
  abbrev AreDelivered : Type 0
  AreDelivered =
      All (λ j. IsTrue (kept final j)) (numbers_from (length cache.entries + 1) (load_count cache cells))
      × All (λ j. IsTrue (kept final j)) (awaited_loads cache.entries (wanting cache.setting.catalog cache.entries cells))

  -- so has each cell without a source
  wanting_served : (i : ℕ) (cell : Cell) → is_cell cache.setting.catalog cell ≡ true → slice_get (wanting cache.setting.catalog cache.entries cells) i ≡ Some cell → list_any (flushes cell) later ≡ false → AreDelivered → is_some (exact_source final cell) ≡ true
  wanting_served i cell known at none all = by (awaited_load cache.entries cell) refl
    where
      by : (o : Option ℕ) → awaited_load cache.entries cell ≡ o → is_some (exact_source final cell) ≡ true
      by (Some j) e =
          awaited_served cell j e none
          (All-contains (λ k. IsTrue (kept final k)) (awaited_loads cache.entries (wanting cache.setting.catalog cache.entries cells)) j all.1
          (filter_map_member (awaited_load cache.entries) (wanting cache.setting.catalog cache.entries cells) cell j (contains_at (wanting cache.setting.catalog cache.entries cells) i cell at) e))
      by None e =
          let place = kept_place (λ c. not (is_some (awaited_load cache.entries c))) (wanting cache.setting.catalog cache.entries cells) i cell at (ap (λ (o : Option ℕ). not (is_some o)) e) in
          wanted_served place.0 cell known place.1 none all.0

  -- each cell, with its place among those without a source
  all_sourced :
      (some : List Cell) → ((i : ℕ) (cell : Cell) → slice_get some i ≡ Some cell → has_source cache.setting.catalog cache.entries cell ≡ false → (k : ℕ) × (slice_get (wanting cache.setting.catalog cache.entries cells) k ≡ Some cell))
      → list_all (is_cell cache.setting.catalog) some ≡ true → All (λ cell. list_any (flushes cell) later ≡ false) some → ((j : ℕ) → list_any (evicts j) later ≡ false) → AreDelivered
      → All (HasSource (record { setting = cache.setting; entries = final })) some
  all_sourced [] places known none stays all = All-nil _
  all_sourced (cell ∷ others) places known none stays all =
      All-cons (HasSource (record { setting = cache.setting; entries = final })) cell others
      (by (has_source cache.setting.catalog cache.entries cell) refl)
      (all_sourced others (λ i c at unserved. places (suc i) c at unserved) (and_parts _ _ known).1 (All-tail (λ c. list_any (flushes c) later ≡ false) cell others none) stays all)
    where
      unflushed : list_any (flushes cell) later ≡ false
      unflushed = All-head (λ c. list_any (flushes c) later ≡ false) cell others none

      by : (b : Bool) → has_source cache.setting.catalog cache.entries cell ≡ b → has_source cache.setting.catalog final cell ≡ true
      by true e = served_still cell e unflushed stays
      by false e =
          let place = places 0 cell refl e in
          or_left (is_some (exact_source final cell)) (has_rolled_source cache.setting.catalog final cell) (wanting_served place.0 cell (and_parts _ _ known).0 place.1 unflushed all)

pub delivered_looks_are_ready : DeliveredLooksAreReady
delivered_looks_are_ready cache who cells headers later known own none stays started awaited =
    all_sourced cache who cells headers later own cells
    (λ i cell at unserved. kept_place (λ c. not (has_source cache.setting.catalog cache.entries c)) cells i cell at (not_from_false _ unserved)) known none stays (started, awaited)
