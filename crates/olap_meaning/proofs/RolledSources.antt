-- Which cells have a source, exact or rolled.
use Rattle.std.proofs.Common.{◌≡◌, ◌∙◌, ℕ, zero, suc, ◌≤◌, Bool, true, false, cond, if◌then◌else◌, ◌&&◌, List, [], ◌∷◌, ◌++◌, Option, Some, None, is_some, length, filter_map, MatchOption, All, Contains, refl, sym, ap, subst, arith, inl, inr}
use Rattle.std.proofs.lemmas.Bool.{both_ways, and_parts, or_parts, or_from, or_left, or_right, false_from_ne_true, cases_eq}
use Rattle.std.proofs.lemmas.List.Elements.{All-weaker, All-head, All-contains, Contains-append_left, Contains-append_right, Contains-append_cases}
use Rattle.olap_meaning.specs.declared.cells.Cell.{Cell}
use Rattle.olap_meaning.specs.declared.tables.Catalog.{Catalog}
use Rattle.olap_meaning.specs.declared.tables.Measure.{Measure}
use Rattle.olap_meaning.specs.Covering.{header_covers}
use Rattle.olap_meaning.specs.History.{Entry, Flush, Start, Load, is_some_and, exact_source, live, load_at, load_just_covers}
use Rattle.olap_meaning.specs.Worth.{measure_of}
use Rattle.olap_meaning.specs.Rolled.{Offer, IsRolled, IsRolledSource, can_roll, has_rolled_source, live_offers, live_up_to, offered, value_count}
use Rattle.olap_meaning.specs.Legal.{HasNoSource, IsSource, has_source}
use Rattle.olap_meaning.specs.Sources.{FlushesLeaveNoSource, RolledSourcesAreDecided, SourcesAreDecided}
use Rattle.olap_meaning.proofs.Members.{filter_map_member, first_or_rest, in_first, member_filter_map, members_from, All-from_member, none_in}
use Rattle.olap_meaning.proofs.Positions.{entry_within, latest_found}
use Rattle.olap_meaning.proofs.Loads.{flush_shuts_off, live_load, load_start, some_and}
use Rattle.olap_meaning.proofs.Rolling.{roll_some, some_roll}

module _ (history : List Entry) (cell : Cell) where
  -- the last of the loads up to a position, where it is live
  abbrev last_live : ℕ → List ℕ
  last_live n = if live history (suc n) cell then suc n ∷ [] else []

  -- each live load up to a position is among those
  live_in : (n j : ℕ) → live history j cell ≡ true → 1 ≤ j → j ≤ n → Contains (live_up_to history cell n) j
  live_in zero j lives one up = absurd (omega arith)
  live_in (suc n) j lives one up =
      elim (cases_eq j (suc n)) [
        | inl here ↦ Contains-append_right (live_up_to history cell n) (last_live n) j (at_last here)
        | inr apart ↦ Contains-append_left (live_up_to history cell n) (last_live n) j (live_in n j lives one (omega (arith, apart)))
      ]
    where
      at_last : j ≡ suc n → Contains (last_live n) j
      at_last here = let up_here : live history (suc n) cell ≡ true = ap (λ k. live history k cell) (sym here) ∙ lives in rw (here, up_here) (in_first (suc n) [])

  -- and each of those is live
  in_live : (n j : ℕ) → Contains (live_up_to history cell n) j → live history j cell ≡ true
  in_live zero j held = absurd (none_in j held)
  in_live (suc n) j held =
      elim (Contains-append_cases (live_up_to history cell n) (last_live n) j held) [
        | inl before ↦ in_live n j before
        | inr here ↦ at_last (live history (suc n) cell) refl here
      ]
    where
      at_last : (b : Bool) → live history (suc n) cell ≡ b → Contains (cond b (suc n ∷ []) []) j → live history j cell ≡ true
      at_last true lives last = elim (first_or_rest (suc n) [] j last) [ inl same ↦ ap (λ k. live history k cell) (sym same) ∙ lives | inr none ↦ absurd (none_in j none) ]
      at_last false lives last = absurd (none_in j last)

  -- a live load stands in the history
  live_within : (j : ℕ) → live history j cell ≡ true → (1 ≤ j) × (j ≤ length history)
  live_within j lives =
      let load : (load : Load) × (load_at history j ≡ Some load) × (header_covers load.header cell ≡ true) = live_load history j cell lives in
      entry_within history j (Start load.0) (load_start history j load.0 load.1)

  -- what live loads offer is among the live offers
  among_live : (loads : List ℕ) → All (λ j. live history j cell ≡ true) loads → All (Contains (live_offers history cell)) (filter_map (offered history) loads)
  among_live loads lives = All-from_member (Contains (live_offers history cell)) (filter_map (offered history) loads) each
    where
      each : (offer : Offer) → Contains (filter_map (offered history) loads) offer → Contains (live_offers history cell) offer
      each offer held =
          let load : (j : ℕ) × Contains loads j × (offered history j ≡ Some offer) = member_filter_map (offered history) loads offer held in
          let lives_here : live history load.0 cell ≡ true = All-contains (λ j. live history j cell ≡ true) loads load.0 lives load.1 in
          let within : (1 ≤ load.0) × (load.0 ≤ length history) = live_within load.0 lives_here in
          filter_map_member (offered history) (live_up_to history cell (length history)) load.0 offer (live_in (length history) load.0 lives_here within.0 within.1) load.2

  -- live offers are what some live loads offer
  from_live : (some : List Offer) → All (Contains (live_offers history cell)) some → (loads : List ℕ) × All (λ j. live history j cell ≡ true) loads × (filter_map (offered history) loads ≡ some)
  from_live some members =
      let from = members_from (offered history) (live_up_to history cell (length history)) some members in
      (from.0, All-weaker (Contains (live_up_to history cell (length history))) (λ j. live history j cell ≡ true) (in_live (length history)) from.0 from.1, from.2)

module _ (catalog : Catalog) (history : List Entry) (cell : Cell) where
  -- the loads of one measure that can be rolled up
  abbrev rolls : Measure → Bool
  rolls measure = can_roll measure.aggregator (value_count catalog) cell (live_offers history cell)

  pub rolled_found : has_rolled_source catalog history cell ≡ true → (loads : List ℕ) × IsRolledSource catalog history cell loads
  rolled_found has =
      let measure : (measure : Measure) × (measure_of catalog cell ≡ Some measure) × (rolls measure ≡ true) = some_and rolls (measure_of catalog cell) has in
      let some = roll_some (value_count catalog) cell (live_offers history cell) measure.0.aggregator measure.2 in
      let loads = from_live history cell some.0 some.1 in (
        loads.0,
        record {
          lives = loads.1;
          measure = measure.0;
          is_measure = measure.1;
          rolled = subst (IsRolled measure.0.aggregator (value_count catalog) cell) (sym loads.2) some.2;
        },
      )

  pub rolled_decided : (loads : List ℕ) → IsRolledSource catalog history cell loads → has_rolled_source catalog history cell ≡ true
  rolled_decided loads source =
      ap (is_some_and rolls) source.is_measure
      ∙ some_roll (value_count catalog) cell (live_offers history cell) source.measure.aggregator (filter_map (offered history) loads) (among_live history cell loads source.lives) source.rolled

  source_found : has_source catalog history cell ≡ true → (loads : List ℕ) × IsSource catalog history cell loads
  source_found has = by (exact_source history cell) refl
    where
      by : (o : Option ℕ) → exact_source history cell ≡ o → (loads : List ℕ) × IsSource catalog history cell loads
      by None none =
          let rolled = rolled_found (rw none at has) in
          (rolled.0, subst (λ (o : Option ℕ). MatchOption o (IsRolledSource catalog history cell rolled.0) (λ j. rolled.0 ≡ j ∷ [])) (sym none) rolled.1)
      by (Some k) exact = (k ∷ [], subst (λ (o : Option ℕ). MatchOption o (IsRolledSource catalog history cell (k ∷ [])) (λ j. k ∷ [] ≡ j ∷ [])) (sym exact) refl)

  source_decided : (loads : List ℕ) → IsSource catalog history cell loads → has_source catalog history cell ≡ true
  source_decided loads source = by (exact_source history cell) refl source
    where
      by : (o : Option ℕ) → exact_source history cell ≡ o → MatchOption o (IsRolledSource catalog history cell loads) (λ j. loads ≡ j ∷ []) → has_source catalog history cell ≡ true
      by None none rolled = or_right (is_some (exact_source history cell)) (has_rolled_source catalog history cell) (rolled_decided loads rolled)
      by (Some k) exact same = or_left (is_some (exact_source history cell)) (has_rolled_source catalog history cell) (ap is_some exact)

  lacks_told : has_source catalog history cell ≡ false → HasNoSource catalog history cell
  lacks_told lacks =
      let parts : (is_some (exact_source history cell) ≡ false) × (has_rolled_source catalog history cell ≡ false) = or_parts (is_some (exact_source history cell)) (has_rolled_source catalog history cell) lacks in
      record {
        exact = none (exact_source history cell) parts.0;
        rolled = λ loads source. both_ways (has_rolled_source catalog history cell) parts.1 (rolled_decided loads source);
      }
    where
      none : (o : Option ℕ) → is_some o ≡ false → o ≡ None
      none None e = refl
      none (Some k) e = absurd (cc)

  lacks_decided : HasNoSource catalog history cell → has_source catalog history cell ≡ false
  lacks_decided lacks =
      or_from (is_some (exact_source history cell)) (has_rolled_source catalog history cell) (ap is_some lacks.exact)
      (false_from_ne_true (has_rolled_source catalog history cell) (λ has. let rolled = rolled_found has in lacks.rolled rolled.0 rolled.1))

pub rolled_sources_are_decided : RolledSourcesAreDecided
rolled_sources_are_decided catalog history cell = (rolled_found catalog history cell, λ found. rolled_decided catalog history cell found.0 found.1)

pub sources_are_decided : SourcesAreDecided
sources_are_decided = record {
  has = λ catalog history cell. (source_found catalog history cell, λ found. source_decided catalog history cell found.0 found.1);
  lacks = λ catalog history cell. (lacks_told catalog history cell, lacks_decided catalog history cell);
}

pub flushes_leave_no_source : FlushesLeaveNoSource
flushes_leave_no_source catalog history who region cell covers = record { exact = none (exact_source after cell) refl; rolled = not_rolled }
  where
    after : List Entry
    after = history ++ Flush who region ∷ []

    shut : (j : ℕ) → live after j cell ≡ true → ⊥
    shut j lives = both_ways (live after j cell) (flush_shuts_off history who region cell j covers) lives

    none : (o : Option ℕ) → exact_source after cell ≡ o → exact_source after cell ≡ None
    none None e = e
    none (Some j) e = absurd (shut j (and_parts (live after j cell) (load_just_covers after j cell) (latest_found (length after) (λ k. live after k cell && load_just_covers after k cell) j e).0).0)

    not_rolled : (loads : List ℕ) → IsRolledSource catalog after cell loads → ⊥
    not_rolled [] source = omega (arith, source.rolled.some)
    not_rolled (j ∷ js) source = shut j (All-head (λ k. live after k cell ≡ true) j js source.lives)
