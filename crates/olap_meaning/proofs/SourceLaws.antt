-- What a Start leaves without a source, and what a distinct count is taken from.
use Rattle.std.proofs.Common.{◌≡◌, refl, sym, ◌∙◌, ap, subst, ℕ, suc, ◌≤◌, List, [], ◌∷◌, ◌++◌, length, take, Bool, true, false, not, ◌&&◌, ◌||◌, inl, inr, Option, Some, None, MatchOption, filter_map, option_map, arith, All, Contains}
use Rattle.std.specs.List.{cons_option, list_any}
use Rattle.std.proofs.lemmas.Bool.{both_ways, cases_eq, false_from_ne_true, or_from}
use Rattle.std.proofs.lemmas.List.Elements.{All-contains, All-from_recursion, All-head, All-tail}
use Rattle.olap_meaning.proofs.Members.{All-from_member}
use Rattle.olap_meaning.specs.Covering.{header_covers}
use Rattle.olap_meaning.specs.declared.cells.Cell.{Cell}
use Rattle.olap_meaning.specs.declared.tables.Measure.{Measure}
use Rattle.olap_meaning.specs.declared.tables.Setting.{Setting}
use Rattle.olap_meaning.specs.History.{Entry, Answer, Start, Load, delivered, delivers, ends, evicts, exact_source, flushed_after, is_some_and, kept, live, load_at, load_covers}
use Rattle.olap_meaning.specs.Growth.{greater}
use Rattle.olap_meaning.specs.Legal.{HasNoSource, IsAnswered, Legal}
use Rattle.olap_meaning.specs.Rolled.{IsRolled, IsRolledSource, offered, value_count}
use Rattle.olap_meaning.specs.Sources.{DistinctCountsAreExact, StartsGiveNoSource}
use Rattle.olap_meaning.proofs.Loads.{kept_parts, live_load, live_parts, load_start}
use Rattle.olap_meaning.proofs.Positions.{entry_within}
use Rattle.olap_meaning.proofs.Sources.{any_more, delivery_ends, exact_source_grows, flushed_more, load_stays, long, unended}
use Rattle.olap_meaning.proofs.ReachUp.{any_weaker}

or_none : (b : Bool) → (b || (false || false)) ≡ b
or_none true = refl
or_none false = refl

module _ (setting : Setting) (history : List Entry) (load : Load) (cell : Cell) (legal : Legal setting history) where
  abbrev after : List Entry
  after = history ++ Start load ∷ []

  -- the load is not delivered where it starts
  undelivered : delivered after (suc (length history)) ≡ false
  undelivered = any_more history (Start load) cell (delivers (suc (length history))) ∙ or_from _ _ none refl
    where
      none : list_any (delivers (suc (length history))) history ≡ false
      none = false_from_ne_true _ (λ d. both_ways _ (unended setting history legal) (any_weaker (delivers (suc (length history))) (ends (suc (length history))) (delivery_ends (suc (length history))) history d))

  -- a load that is live after the Start stands before it
  before_start : (j : ℕ) → live after j cell ≡ true → j ≤ length history
  before_start j lives =
      elim (cases_eq j (suc (length history))) [
        | inl last ↦ absurd (both_ways (delivered after j) (ap (delivered after) last ∙ undelivered) (kept_parts after j (live_parts after j cell lives).0).0)
        | inr other ↦ omega (arith, other, (within (live_load after j cell lives)).1, long history (Start load) cell)
      ]
    where
      within : (l : Load) × (load_at after j ≡ Some l) × (header_covers l.header cell ≡ true) → (1 ≤ j) × (j ≤ length after)
      within found = entry_within after j (Start found.0) (load_start after j found.0 found.1)

  -- and it was live there
  live_before : (j : ℕ) → j ≤ length history → live after j cell ≡ live history j cell
  live_before j l =
      ap (λ b. (b && not (list_any (evicts j) after)) && load_covers after j cell && not (flushed_after after j cell)) (any_more history (Start load) cell (delivers j) ∙ or_none (delivered history j))
      ∙ ap (λ b. (delivered history j && not b) && load_covers after j cell && not (flushed_after after j cell)) (any_more history (Start load) cell (evicts j) ∙ or_none (list_any (evicts j) history))
      ∙ ap (λ o. kept history j && is_some_and (λ load. header_covers load.header cell) o && not (flushed_after after j cell)) (load_stays history (Start load) cell j l)
      ∙ ap (λ b. kept history j && load_covers history j cell && not b) (flushed_more history (Start load) cell j l refl ∙ or_none (flushed_after history j cell))

  lived : (loads : List ℕ) → All (λ j. live after j cell ≡ true) loads → All (λ j. live history j cell ≡ true) loads
  lived loads lives = All-from_member (λ j. live history j cell ≡ true) loads each
    where
      each : (j : ℕ) → Contains loads j → live history j cell ≡ true
      each j held = let here : live after j cell ≡ true = All-contains (λ j. live after j cell ≡ true) loads j lives held in sym (live_before j (before_start j here)) ∙ here

  -- what live loads offer is the same
  same_offers : (loads : List ℕ) → All (λ j. live after j cell ≡ true) loads → filter_map (offered after) loads ≡ filter_map (offered history) loads
  same_offers [] lives = refl
  same_offers (j ∷ js) lives =
      ap (λ (o : Option Load). cons_option (option_map (λ (l : Load). record { header = l.header; version = l.version }) o) (filter_map (offered after) js)) (load_stays history (Start load) cell j (before_start j (All-head (λ k. live after k cell ≡ true) j js lives)))
      ∙ ap (cons_option (offered history j)) (same_offers js (All-tail (λ k. live after k cell ≡ true) j js lives))

  pub start_gives_none : HasNoSource setting.catalog history cell → HasNoSource setting.catalog after cell
  start_gives_none lacks = record { exact = exact_source_grows setting history (Start load) cell legal ∙ ap (greater None) lacks.exact; rolled = none }
    where
      none : (loads : List ℕ) → IsRolledSource setting.catalog after cell loads → ⊥
      none loads source =
          lacks.rolled loads
          (record {
            lives = lived loads source.lives;
            measure = source.measure;
            is_measure = source.is_measure;
            rolled = subst (IsRolled source.measure.aggregator (value_count setting.catalog) cell) (same_offers loads source.lives) source.rolled;
          })

pub starts_give_no_source : StartsGiveNoSource
starts_give_no_source setting history load cell legal = start_gives_none setting history load cell legal

pub distinct_counts_are_exact : DistinctCountsAreExact
distinct_counts_are_exact setting history legal before who cells at answered among measure is_measure distinct =
    by (exact_source (take before history) answered.cell) refl
    (All-contains (IsAnswered setting (take before history)) cells answered (All-from_recursion (IsAnswered setting (take before history)) cells (legal before (Answer who cells) at).1) among).source
  where
    by : (o : Option ℕ) → exact_source (take before history) answered.cell ≡ o → MatchOption o (IsRolledSource setting.catalog (take before history) answered.cell answered.loads) (λ j. answered.loads ≡ j ∷ [])
        → (j : ℕ) × (exact_source (take before history) answered.cell ≡ Some j) × (answered.loads ≡ j ∷ [])
    by None none source =
        let same : Some measure ≡ Some source.measure = sym is_measure ∙ source.is_measure in
        let one : measure ≡ source.measure = cc same in
        absurd (source.rolled.adds_up (ap (λ (m : Measure). m.aggregator) (sym one) ∙ distinct))
    by (Some j) exact taken = (j, exact, taken)
