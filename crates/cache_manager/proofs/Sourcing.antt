-- Kept loads from which a cell is rolled up, and what they are in the history.
use Rattle.std.proofs.Common.{◌≡◌, refl, sym, ◌∙◌, ap, subst, ℕ, suc, List, [], ◌∷◌, filter, filter_map, Bool, true, false, not, ◌&&◌, ◌==◌, Option, Some, None, is_some, option_map, arith, All, Contains, MatchOption, eq-eqb}
use Rattle.std.specs.List.{list_any}
use Rattle.std.proofs.lemmas.Bool.{and_from, and_parts, both_ways, eqb-true, false_from_ne_true, not-true, not_from_false, or_from}
use Rattle.std.proofs.lemmas.List.Elements.{All-contains, All-contains_itself, All-filter, All-head, All-map, All-tail, All-weaker, filter_passes}
use Rattle.olap_meaning.specs.declared.cells.Allowed.{Allowed}
use Rattle.olap_meaning.specs.declared.cells.Cell.{Cell}
use Rattle.olap_meaning.specs.declared.cells.Header.{Header}
use Rattle.olap_meaning.specs.declared.tables.Catalog.{Catalog}
use Rattle.olap_meaning.specs.declared.tables.Measure.{Measure}
use Rattle.olap_meaning.specs.Covering.{among, header_covers, names_column}
use Rattle.olap_meaning.specs.History as history
use Rattle.olap_meaning.specs.History.{Entry, Load, exact_source, flushed_after, is_some_and, live, load_at, load_covers, load_version}
use Rattle.olap_meaning.specs.Legal.{IsSource, has_source}
use Rattle.olap_meaning.specs.Rolled.{IsRolled, IsRolledSource, Offer, can_roll, header_columns, has_rolled_source, offered, value_count}
use Rattle.olap_meaning.specs.Worth.{measure_of}
use Rattle.olap_meaning.proofs.Loads.{live_load, live_parts}
use Rattle.olap_meaning.proofs.Members.{All-from_member, any_member, filter_map_member, filter_member, map_member, member_filter_map, member_map}
use Rattle.olap_meaning.proofs.RolledSources.{rolled_found}
use Rattle.olap_meaning.proofs.Rolling.{some_roll}
use Rattle.olap_meaning.proofs.Orders.{among_held}
use Rattle.cache_flush.specs.Loads.{KeptOf, is_candidate, numbers_of}
use Rattle.cache_flush.specs.Shuts.{is_live}
use Rattle.rollup_plan.specs.Plans.{IsPlanned, is_candidate_at, kept_at, offer_of, offers_at}
use Rattle.rollup_plan.specs.declared.plan.Plan.{Plan}
use Rattle.cache_manager.specs.Kept.{IsKept}
use Rattle.cache_manager.specs.Rollups.{AreKept, IsPlanFor, candidates_for, planned}
use Rattle.cache_manager.proofs.Serving.{flushed_told, kept_header}

pub contained_among : (numbers : List ℕ) (j : ℕ) → Contains numbers j → among numbers j ≡ true
contained_among numbers j held = any_member (λ v. v == j) numbers j held (eq-eqb j j refl)

-- the kept load of a number that is among theirs
pub at_number : (loads : List KeptOf) (j : ℕ) → among (numbers_of loads) j ≡ true → (k : KeptOf) × (kept_at loads j ≡ Some k) × Contains loads k × (k.load ≡ j)
at_number [] j h = absurd (cc)
at_number (k ∷ ks) j h = by (k.load == j) refl h (at_number ks j)
  where
    by : (b : Bool) → (k.load == j) ≡ b → among (numbers_of (k ∷ ks)) j ≡ true → (among (numbers_of ks) j ≡ true → (o : KeptOf) × (kept_at ks j ≡ Some o) × Contains ks o × (o.load ≡ j))
        → (o : KeptOf) × (kept_at (k ∷ ks) j ≡ Some o) × Contains (k ∷ ks) o × (o.load ≡ j)
    by true e h rest = (k, rw e refl, (0, omega arith, refl), eqb-true k.load j e)
    by false e h rest = let found = rest (rw e at h) in (found.0, rw e found.1, in_rest found.2, found.3)
      where
        in_rest : {x : KeptOf} → Contains ks x → Contains (k ∷ ks) x
        in_rest held = (suc held.0, omega (arith, held.1), held.2)

module _ (catalog : Catalog) (entries : List Entry) where
  -- what a kept load offers is what the history says
  pub offer_told : (k : KeptOf) → IsKept catalog entries k → offered entries k.load ≡ Some (offer_of k)
  offer_told k is =
      ap (option_map (λ (load : Load). record { header = load.header; version = load.version })) is.started
      ∙ ap (λ (h : Header). Some (record { header = h; version = is.load.version })) (sym (kept_header catalog entries k is))
      ∙ ap (λ (v : ℕ). Some (record { header = k.body.header; version = v })) (sym is.version)

  module _ (cell : Cell) where
    -- a candidate is live
    candidate_live : (k : KeptOf) → IsKept catalog entries k → is_candidate k cell ≡ true → live entries k.load cell ≡ true
    candidate_live k is h =
        let outer = and_parts (header_covers k.body.header cell && list_any (λ column. not (names_column cell column.0)) k.body.header.columns) (is_live k.shut cell) h in
        let inner = and_parts (header_covers k.body.header cell) (list_any (λ column. not (names_column cell column.0)) k.body.header.columns) outer.0 in
        let here : header_covers is.load.header cell ≡ true = ap (λ (o : Header). header_covers o cell) (sym (kept_header catalog entries k is)) ∙ inner.0 in
        let wide : load_covers entries k.load cell ≡ true = ap (is_some_and (λ (load : Load). header_covers load.header cell)) is.started ∙ here in
        let unflushed : flushed_after entries k.load cell ≡ false = flushed_told catalog entries cell k is here ∙ not-true _ outer.1 in
        and_from (history.kept entries k.load && load_covers entries k.load cell) (not (flushed_after entries k.load cell)) (and_from (history.kept entries k.load) (load_covers entries k.load cell) is.delivered wide) (not_from_false _ unflushed)

    -- and a live load with a column that the cell lacks is a candidate
    live_candidate : (k : KeptOf) → IsKept catalog entries k → live entries k.load cell ≡ true → list_any (λ column. not (names_column cell column.0)) k.body.header.columns ≡ true → is_candidate k cell ≡ true
    live_candidate k is lives lacks =
        let load : (load : Load) × (load_at entries k.load ≡ Some load) × (header_covers load.header cell ≡ true) = live_load entries k.load cell lives in
        let both : Some is.load ≡ Some load.0 = sym is.started ∙ load.1 in
        let same : is.load ≡ load.0 = cc in
        let here : header_covers is.load.header cell ≡ true = ap (λ (l : Load). header_covers l.header cell) same ∙ load.2 in
        and_from (header_covers k.body.header cell && list_any (λ column. not (names_column cell column.0)) k.body.header.columns) (is_live k.shut cell)
        (and_from (header_covers k.body.header cell) (list_any (λ column. not (names_column cell column.0)) k.body.header.columns) (ap (λ (o : Header). header_covers o cell) (kept_header catalog entries k is) ∙ here) lacks)
        (not_from_false _ (sym (flushed_told catalog entries cell k is here) ∙ (live_parts entries k.load cell lives).2))

    module _ (loads : List KeptOf) (kept : AreKept catalog entries loads) where
      -- the load of a candidate's number is kept, is live, and has a column that the cell lacks
      pub candidate_at : (j : ℕ) → among (candidates_for loads cell) j ≡ true
          → (k : KeptOf) × (kept_at loads j ≡ Some k) × IsKept catalog entries k × (k.load ≡ j) × (live entries j cell ≡ true) × (list_any (λ column. not (names_column cell column.0)) k.body.header.columns ≡ true) × Contains loads k
      candidate_at j h =
          let some = at_number (filter (λ k. is_candidate k cell) loads) j h in
          let member = filtered loads some.0 some.2 in
          let some_is : IsKept catalog entries some.0 = All-contains (IsKept catalog entries) loads some.0 kept.are member in
          let candidate : is_candidate some.0 cell ≡ true = All-contains (λ k. is_candidate k cell ≡ true) (filter (λ k. is_candidate k cell) loads) some.0 (filter_passes (λ k. is_candidate k cell) loads) some.2 in
          let outer = and_parts (header_covers some.0.body.header cell && list_any (λ column. not (names_column cell column.0)) some.0.body.header.columns) (is_live some.0.shut cell) candidate in
          let lacks = (and_parts (header_covers some.0.body.header cell) (list_any (λ column. not (names_column cell column.0)) some.0.body.header.columns) outer.0).1 in
          let found = at_number loads j (subst (λ (i : ℕ). among (numbers_of loads) i ≡ true) some.3 (contained_among (numbers_of loads) some.0.load (map_member (λ (k : KeptOf). k.load) loads some.0 member))) in
          let is : IsKept catalog entries found.0 = All-contains (IsKept catalog entries) loads found.0 kept.are found.2 in
          let told : Some (offer_of some.0) ≡ Some (offer_of found.0) = sym (offer_told some.0 some_is) ∙ ap (offered entries) (some.3 ∙ sym found.3) ∙ offer_told found.0 is in
          let same : offer_of some.0 ≡ offer_of found.0 = cc in (
            found.0,
            found.1,
            is,
            found.3,
            subst (λ (i : ℕ). live entries i cell ≡ true) some.3 (candidate_live some.0 some_is candidate),
            subst (λ (o : Offer). list_any (λ column. not (names_column cell column.0)) o.header.columns ≡ true) same lacks,
            found.2,
          )
        where
          filtered : (ks : List KeptOf) (k : KeptOf) → Contains (filter (λ o. is_candidate o cell) ks) k → Contains ks k
          filtered ks k held = All-contains (Contains ks) (filter (λ o. is_candidate o cell) ks) k (All-filter (λ o. is_candidate o cell) (Contains ks) ks (All-contains_itself ks)) held

      -- what candidates offer, by the shelf and by the history
      pub offers_told : (numbers : List ℕ) → All (λ j. among (candidates_for loads cell) j ≡ true) numbers → offers_at loads numbers ≡ filter_map (offered entries) numbers
      offers_told [] all = refl
      offers_told (j ∷ js) all =
          let here = candidate_at j (All-head (λ i. among (candidates_for loads cell) i ≡ true) j js all) in
          let one : offered entries j ≡ Some (offer_of here.0) = subst (λ (i : ℕ). offered entries i ≡ Some (offer_of here.0)) here.3 (offer_told here.0 here.2) in
          rw (here.1, one) (ap (λ (os : List Offer). offer_of here.0 ∷ os) (offers_told js (All-tail (λ i. among (candidates_for loads cell) i ≡ true) j js all)))

      -- a planned cell has the loads of the plan as a rolled source
      pub plan_rolls : (plan : Plan) → IsPlanFor catalog loads plan cell → IsRolledSource catalog entries cell (planned plan)
      plan_rolls plan is = record {
        lives = All-weaker (λ j. among (candidates_for loads cell) j ≡ true) (λ j. live entries j cell ≡ true) (λ j h. (candidate_at j h).4) (planned plan) is.known;
        measure = is.measure;
        is_measure = is.is_measure;
        rolled = subst (IsRolled is.measure.aggregator (value_count catalog) cell) (offers_told (planned plan) is.known) is.rolls.rolled;
      }

      -- where it has no exact source, they are its source
      pub plan_source : (plan : Plan) → exact_source entries cell ≡ None → IsPlanFor catalog loads plan cell → IsSource catalog entries cell (planned plan)
      plan_source plan none is =
          subst (λ (o : Option ℕ). MatchOption o (IsRolledSource catalog entries cell (planned plan)) (λ j. planned plan ≡ j ∷ [])) (sym none) (plan_rolls plan is)

      -- what a live load with a column that the cell lacks offers is among what the candidates offer
      offer_among : (candidates : List ℕ) → ((j : ℕ) → among candidates j ≡ among (candidates_for loads cell) j) → (j : ℕ) (offer : Offer) (column : ℕ)
          → live entries j cell ≡ true → offered entries j ≡ Some offer → Contains (header_columns offer.header) column → names_column cell column ≡ false → Contains (offers_at loads candidates) offer
      offer_among candidates members j offer column lives offers own lacked =
          let found = at_number loads j (kept.every j (live_parts entries j cell lives).0) in
          let is : IsKept catalog entries found.0 = All-contains (IsKept catalog entries) loads found.0 kept.are found.2 in
          let told : Some (offer_of found.0) ≡ Some offer = sym (offer_told found.0 is) ∙ ap (offered entries) found.3 ∙ offers in
          let same : offer_of found.0 ≡ offer = cc in
          let column_here : Contains (header_columns found.0.body.header) column = subst (λ (o : Offer). Contains (header_columns o.header) column) (sym same) own in
          let at = member_map (λ (c : ℕ × Allowed). c.0) found.0.body.header.columns column column_here in
          let lacks : list_any (λ c. not (names_column cell c.0)) found.0.body.header.columns ≡ true =
          any_member (λ (c : ℕ × Allowed). not (names_column cell c.0)) found.0.body.header.columns at.0 at.1 (not_from_false _ (ap (names_column cell) at.2 ∙ lacked)) in
          let candidate : is_candidate found.0 cell ≡ true = live_candidate found.0 is (subst (λ (i : ℕ). live entries i cell ≡ true) (sym found.3) lives) lacks in
          let number : among (candidates_for loads cell) j ≡ true =
          subst (λ (i : ℕ). among (candidates_for loads cell) i ≡ true) found.3
          (contained_among (candidates_for loads cell) found.0.load (map_member (λ (k : KeptOf). k.load) (filter (λ k. is_candidate k cell) loads) found.0 (filter_member (λ k. is_candidate k cell) loads found.0 found.2 candidate))) in
          filter_map_member (λ number. option_map offer_of (kept_at loads number)) candidates j offer (among_held candidates j (members j ∙ number)) (ap (option_map offer_of) found.1 ∙ ap Some same)

      -- where the candidates can not be rolled up and there is no exact source, the cell has no source
      pub none_found : (candidates : List ℕ) → ((j : ℕ) → among candidates j ≡ among (candidates_for loads cell) j) → exact_source entries cell ≡ None
          → ((measure : Measure) → measure_of catalog cell ≡ Some measure → can_roll measure.aggregator (value_count catalog) cell (offers_at loads candidates) ≡ false) → has_source catalog entries cell ≡ false
      none_found candidates members none cannot =
          or_from (is_some (exact_source entries cell)) (has_rolled_source catalog entries cell) (ap is_some none) (false_from_ne_true _ not_rolled)
        where
          not_rolled : has_rolled_source catalog entries cell ≡ true → ⊥
          not_rolled has =
              let found = rolled_found catalog entries cell has in
              let source : IsRolledSource catalog entries cell found.0 = found.1 in
              let offers : List Offer = filter_map (offered entries) found.0 in
              let each : (offer : Offer) → Contains offers offer → Contains (offers_at loads candidates) offer = λ offer held.
              let from : (j : ℕ) × Contains found.0 j × (offered entries j ≡ Some offer) = member_filter_map (offered entries) found.0 offer held in
              let columns : header_columns offer.header ≡ source.rolled.columns = All-contains (λ (o : Offer). header_columns o.header ≡ source.rolled.columns) offers offer source.rolled.one_list held in
              offer_among candidates members from.0 offer source.rolled.more.0 (All-contains (λ j. live entries j cell ≡ true) found.0 from.0 source.lives from.1) from.2
              (subst (λ (cs : List ℕ). Contains cs source.rolled.more.0) (sym columns) source.rolled.more.1.own) source.rolled.more.1.lacked in
              both_ways _ (cannot source.measure source.is_measure)
              (some_roll (value_count catalog) cell (offers_at loads candidates) source.measure.aggregator offers (All-from_member (Contains (offers_at loads candidates)) offers each) source.rolled)

      -- a plan that was found is one for the cell
      pub plan_found : (candidates : List ℕ) (plan : Plan) (measure : Measure) → ((j : ℕ) → among candidates j ≡ among (candidates_for loads cell) j) → measure_of catalog cell ≡ Some measure
          → IsPlanned measure.aggregator (value_count catalog) cell loads candidates plan → IsPlanFor catalog loads plan cell
      plan_found candidates plan measure members at is = record {
        measure = measure;
        is_measure = at;
        known = All-map (λ j. among (candidates_for loads cell) j ≡ true) (λ part. part.load) plan.parts
            (All-weaker (λ part. among candidates part.load ≡ true) (λ part. among (candidates_for loads cell) part.load ≡ true) (λ part h. sym (members part.load) ∙ h) plan.parts is.known);
        rolls = is.rolls;
      }

      -- the candidates are those that may be planned
      pub candidates_known : (candidates : List ℕ) → ((j : ℕ) → among candidates j ≡ among (candidates_for loads cell) j) → All (λ j. is_candidate_at loads cell j ≡ true) candidates
      candidates_known candidates members =
          All-from_member (λ j. is_candidate_at loads cell j ≡ true) candidates
          (λ j held.
          let found = candidate_at j (sym (members j) ∙ contained_among candidates j held) in
          ap (is_some_and (λ k. is_candidate k cell)) found.1 ∙ live_candidate found.0 found.2 (subst (λ (i : ℕ). live entries i cell ≡ true) (sym found.3) found.4) found.5)
