-- The Starts of the groups of cells that have no source are legal, one after another.
use Rattle.std.proofs.Common.{◌≡◌, refl, sym, ◌∙◌, ap, subst, ℕ, suc, ◌+◌, List, [], ◌∷◌, ◌++◌, length, map, filter, Bool, true, false, not, ◌&&◌, ◌||◌, cond, Option, Some, None, is_some, slice_get, arith, Contains}
use Rattle.std.proofs.Math.Bool.{and-true}
use Rattle.std.specs.Option.{option_or}
use Rattle.std.specs.List.{AllZip, list_all, list_any, zip}
use Rattle.std.proofs.lemmas.Bool.{and_parts, both_ways, false_from_ne_true, not-true, or_left, or_right}
use Rattle.std.proofs.lemmas.List.Folds.{list_any-append}
use Rattle.cell_groups.proofs.KeyFacts.{known_rises}
use Rattle.olap_meaning.specs.declared.cells.Cell.{Cell}
use Rattle.olap_meaning.specs.declared.cells.Header.{Header}
use Rattle.olap_meaning.specs.declared.cells.Who.{Who}
use Rattle.olap_meaning.specs.declared.tables.Setting.{Setting}
use Rattle.olap_meaning.specs.Covering.{just_covers}
use Rattle.olap_meaning.specs.History.{Entry, Start, Load, awaited, awaited_load, earliest, ends, version}
use Rattle.olap_meaning.specs.Legal.{HasNoSource, IsLegalStart, Legal, has_source, is_cell, rise}
use Rattle.olap_meaning.proofs.Earliest.{earliest_agree}
use Rattle.olap_meaning.proofs.Growing.{legal_grows, version_grows}
use Rattle.olap_meaning.proofs.RolledSources.{sources_are_decided}
use Rattle.olap_meaning.proofs.SourceLaws.{starts_give_no_source}
use Rattle.olap_meaning.proofs.Sources.{awaited_load_grows}
use Rattle.segment_header.specs.Widening.{Allowing}
use Rattle.history_core.specs.Groups.{IsHeaderFor, alike, firsts, load_with}
use Rattle.cache_manager.specs.Plans.{AreLegalSteps}
use Rattle.cache_manager.proofs.Grouping.{covered_alike, group_covered, group_place}

-- a cell has no source, and no load is awaited for it
abbrev pub IsFree : Setting → List Entry → Cell → Type 0
IsFree setting entries cell = HasNoSource setting.catalog entries cell × (awaited_load entries cell ≡ None)

-- a Start leaves a cell that its header does not just cover without a source and without an awaited load
still_free :
    (setting : Setting) (entries : List Entry) (load : Load) (cell : Cell) → Legal setting entries → just_covers load.header cell ≡ false → IsFree setting entries cell
    → IsFree setting (entries ++ Start load ∷ []) cell
still_free setting entries load cell legal other free = (
  starts_give_no_source setting entries load cell legal free.0,
  awaited_load_grows setting entries (Start load) cell legal
      ∙ ap (λ b. option_or (earliest (length entries) (λ j. awaited entries j cell && not (ends j (Start load)))) (cond b (Some (suc (length entries))) None)) other
      ∙ ap (λ o. option_or o None) (earliest_agree (length entries) (λ j. awaited entries j cell && not (ends j (Start load))) (λ j. awaited entries j cell) (λ j l. and-true (awaited entries j cell)) ∙ free.1),
)

module _ (allowing : Allowing) (setting : Setting) (history : List Entry) (who : Who) (wanted : List Cell) where
  -- the load of a group, by its first cell and its header
  abbrev pub load_of : Cell → Header → Load
  load_of first header = load_with (record { setting = setting; entries = history }) who first header

  -- a header is one of the group of a first cell
  abbrev pub IsOwnHeader : Cell → Header → Type 0
  IsOwnHeader first header = IsHeaderFor allowing setting.catalog first (filter (alike first) wanted) header

  -- what each group still finds: a known cell without a source, and alike to none of the first cells so far, has no source and no awaited load
  abbrev Free : List Entry → List Cell → Type 0
  Free entries before = (cell : Cell) → is_cell setting.catalog cell ≡ true → HasNoSource setting.catalog history cell → awaited_load history cell ≡ None → list_any (alike cell) before ≡ false → IsFree setting entries cell

  start_legal :
      (entries : List Entry) (cell : Cell) (header : Header) → ((cube : ℕ) → version entries cube ≡ version history cube) → is_cell setting.catalog cell ≡ true → Contains wanted cell → IsOwnHeader cell header → IsFree setting entries cell
      → IsLegalStart setting entries (load_of cell header)
  start_legal entries cell header versions known has own free =
      let place = group_place cell wanted has in
      record {
        known = known;
        rising = ap rise own.columns ∙ known_rises setting.catalog cell known;
        covers = group_covered allowing setting.catalog cell (filter (alike cell) wanted) header own place.0 cell (record { cube = refl; measure = refl; columns = refl }) known place.1;
        present = sym (ap (version entries) own.cube ∙ versions cell.cube) ∙ refl;
        needed = free.0;
        unawaited = free.1;
      }

  free_on : (entries : List Entry) (before : List Cell) (first : Cell) (header : Header) → Legal setting entries → is_cell setting.catalog first ≡ true → IsOwnHeader first header → Free entries before → Free (entries ++ Start (load_of first header) ∷ []) (before ++ first ∷ [])
  free_on entries before first header legal known own free cell here unserved waits apart =
      let either : (list_any (alike cell) before || (alike cell first || false)) ≡ false = sym (list_any-append (alike cell) before (first ∷ [])) ∙ apart in
      let old : list_any (alike cell) before ≡ false = false_from_ne_true _ (λ h. both_ways _ either (or_left _ _ h)) in
      let new : alike cell first ≡ false = false_from_ne_true _ (λ h. both_ways _ either (or_right _ _ (or_left _ _ h))) in
      let other : just_covers header cell ≡ false = false_from_ne_true _ (λ h. both_ways _ new (covered_alike allowing setting.catalog first (filter (alike first) wanted) header own cell (known_rises setting.catalog first known) (known_rises setting.catalog cell here) h)) in
      still_free setting entries (load_of first header) cell legal other (free cell here unserved waits old)

  unserved_told : (cell : Cell) → not (has_source setting.catalog history cell) ≡ true → HasNoSource setting.catalog history cell
  unserved_told cell h = (sources_are_decided.lacks setting.catalog history cell).0 (not-true (has_source setting.catalog history cell) h)

  unawaited_told : (cell : Cell) → not (is_some (awaited_load history cell)) ≡ true → awaited_load history cell ≡ None
  unawaited_told cell h = by (awaited_load history cell) refl
    where
      by : (o : Option ℕ) → awaited_load history cell ≡ o → awaited_load history cell ≡ None
      by None e = e
      by (Some j) e = let here : not (is_some (Some j)) ≡ true = subst (λ (o : Option ℕ). not (is_some o) ≡ true) e h in absurd (cc)

  pub steps_legal :
      (entries : List Entry) (before cells : List Cell) (headers : List Header) → Legal setting entries → ((cube : ℕ) → version entries cube ≡ version history cube) → Free entries before
      → list_all (is_cell setting.catalog) cells ≡ true → list_all (λ cell. not (has_source setting.catalog history cell)) cells ≡ true → list_all (λ cell. not (is_some (awaited_load history cell))) cells ≡ true → ((k : ℕ) (cell : Cell) → slice_get cells k ≡ Some cell → Contains wanted cell)
      → AllZip IsOwnHeader (firsts before cells) headers
      → AreLegalSteps setting entries (map Start (map (λ pair. load_of pair.0 pair.1) (zip (firsts before cells) headers)))
  steps_legal entries before [] headers legal versions free known unserved unawaited has own = by headers own
    where
      by : (hs : List Header) → AllZip IsOwnHeader [] hs → AreLegalSteps setting entries (map Start (map (λ pair. load_of pair.0 pair.1) (zip [] hs)))
      by [] own = tt
      by (h ∷ hs) own = absurd own
  steps_legal entries before (cell ∷ cells) headers legal versions free known unserved unawaited has own =
      by (list_any (alike cell) before) refl headers own
      (λ hs owns. steps_legal entries before cells hs legal versions free (and_parts _ _ known).1 (and_parts _ _ unserved).1 (and_parts _ _ unawaited).1 (λ k c at. has (suc k) c at) owns)
      (λ h hs mine step owns.
      steps_legal (entries ++ Start (load_of cell h) ∷ []) (before ++ cell ∷ []) cells hs (legal_grows setting entries (Start (load_of cell h)) legal step) (λ cube. version_grows entries (Start (load_of cell h)) cube ∙ (let zero_more : version entries cube + 0 ≡ version entries cube = omega arith in zero_more) ∙ versions cube)
      (free_on entries before cell h legal (and_parts _ _ known).0 mine free) (and_parts _ _ known).1 (and_parts _ _ unserved).1 (and_parts _ _ unawaited).1 (λ k c at. has (suc k) c at) owns)
    where
      by : (b : Bool) → list_any (alike cell) before ≡ b → (hs : List Header) → AllZip IsOwnHeader (firsts before (cell ∷ cells)) hs
          → ((rest : List Header) → AllZip IsOwnHeader (firsts before cells) rest → AreLegalSteps setting entries (map Start (map (λ pair. load_of pair.0 pair.1) (zip (firsts before cells) rest))))
          → ((h : Header) (rest : List Header) → IsOwnHeader cell h → IsLegalStart setting entries (load_of cell h) → AllZip IsOwnHeader (firsts (before ++ cell ∷ []) cells) rest
          → AreLegalSteps setting (entries ++ Start (load_of cell h) ∷ []) (map Start (map (λ pair. load_of pair.0 pair.1) (zip (firsts (before ++ cell ∷ []) cells) rest))))
          → AreLegalSteps setting entries (map Start (map (λ pair. load_of pair.0 pair.1) (zip (firsts before (cell ∷ cells)) hs)))
      by true e hs all seen new = rw e (seen hs (rw e at all))
      by false e [] all seen new = absurd (rw e at all)
      by false e (h ∷ hs) all seen new =
          let owns : IsOwnHeader cell h × AllZip IsOwnHeader (firsts (before ++ cell ∷ []) cells) hs = rw e at all in
          let step : IsLegalStart setting entries (load_of cell h) = start_legal entries cell h versions (and_parts _ _ known).0 (has 0 cell refl) owns.0 (free cell (and_parts _ _ known).0 (unserved_told cell (and_parts _ _ unserved).0) (unawaited_told cell (and_parts _ _ unawaited).0) e) in
          rw e (step, new h hs owns.0 step owns.1)
