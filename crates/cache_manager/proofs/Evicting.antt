-- A manager after evictions.
use Rattle.std.proofs.Common.{◌≡◌, refl, sym, ◌∙◌, ap, subst, ℕ, suc, ◌+◌, ◌<◌, ◌≤◌, List, [], ◌∷◌, ◌++◌, append_assoc, length, map, filter, Bool, true, false, not, ◌==◌, Some, sum_by, All, Contains, inl, inr, arith}
use Rattle.std.specs.List.Sorted.{IsPermutation}
use Rattle.std.proofs.lemmas.Bool.{and_parts, both_ways, eq-eqb, eqb-true, false_from_ne_true, not-true, or_cases, or_left, or_right}
use Rattle.std.proofs.lemmas.List.{append-nil, length_push}
use Rattle.std.proofs.lemmas.List.Elements.{All-contains, All-contains_itself, All-filter, filter_passes}
use Rattle.std.proofs.lemmas.List.Sorted.{Contains-permutation, IsPermutation-map, IsPermutation-sym, length_permutation, list_any-IsPermutation}
use Rattle.olap_meaning.specs.declared.cells.Header.{Header}
use Rattle.olap_meaning.specs.declared.regions.Region.{Region}
use Rattle.olap_meaning.specs.declared.tables.Setting.{Setting}
use Rattle.olap_meaning.specs.Budget.{lets_evict, may_evict}
use Rattle.olap_meaning.specs.Covering.{among}
use Rattle.olap_meaning.specs.History.{Entry, Evict, entry_at, flying, is_some_and, kept}
use Rattle.olap_meaning.specs.Legal.{IsLegalEviction, Legal}
use Rattle.olap_meaning.proofs.Evicting.{evicted_unkept}
use Rattle.olap_meaning.proofs.Positions.{get_last}
use Rattle.olap_meaning.proofs.Members.{All-from_member}
use Rattle.olap_meaning.proofs.Steps.{prefixes_are_legal}
use Rattle.fact_versions.specs.Facts.{FactsOf}
use Rattle.agg_tables.specs.Tables.{TableOf}
use Rattle.load_costs.proofs.BuiltFacts.{tables_stay}
use Rattle.load_costs.specs.Costs.{tables_built}
use Rattle.cache_flush.specs.Loads.{IsOldest, KeptOf, are_different, group_count, numbers_of}
use Rattle.load_sharing.specs.Flights.{FlightOf}
use Rattle.cache_manager.specs.Kept.{AreFactsOf, IsFlight, IsKept, IsManager, closing, headers_of, regions_of}
use Rattle.cache_manager.specs.Rollups.{AreKept}
use Rattle.cache_manager.proofs.Budgeting.{groups_held, oldest_held}
use Rattle.cache_manager.proofs.Facts.{facts_on}
use Rattle.cache_manager.proofs.Managing.{all_flights_on, flights_all_on, kept_grown, nothing_more, regions_on}
use Rattle.olap_meaning.proofs.Pushes.{kept_back}

-- those that are kept except for one
abbrev pub rest : ℕ → List KeptOf → List KeptOf
rest j loads = filter (λ k. not (k.load == j)) loads

-- loads may be evicted after an entry that lets them be
pub evicts_after : (history : List Entry) (entry : Entry) → lets_evict entry ≡ true → may_evict (history ++ entry ∷ []) ≡ true
evicts_after history entry lets =
    let many : length (history ++ entry ∷ []) ≡ suc (length history) = omega (arith, length_push history entry) in
    ap (λ (n : ℕ). is_some_and lets_evict (entry_at (history ++ entry ∷ []) n)) many ∙ ap (is_some_and lets_evict) (get_last history entry) ∙ lets

-- an eviction of the oldest load is legal, where the kept loads have more groups than the budget
pub legal_eviction :
    (setting : Setting) (entries : List Entry) (loads : List KeptOf) (j : ℕ) → Legal setting entries → AreKept setting.catalog entries loads → are_different (numbers_of loads) ≡ true → IsOldest loads (Some j)
    → setting.budget < sum_by group_count loads → may_evict entries ≡ true → IsLegalEviction setting entries j
legal_eviction setting entries loads j legal are different is above after = record {
  oldest = oldest_held setting entries loads legal are different j is;
  above = subst (λ n. setting.budget < n) (groups_held setting entries loads legal are different) above;
  after = after;
}

-- where there are more groups than the budget, a load is kept
pub some_kept : (loads : List KeptOf) (budget : ℕ) → budget < sum_by group_count loads → loads ≡ [] → ⊥
some_kept loads budget above none = let here : budget < sum_by group_count [] = subst (λ (ks : List KeptOf). budget < sum_by group_count ks) none above in omega (arith, here)

among_rest : (j : ℕ) (loads : List KeptOf) (i : ℕ) → (i ≡ j → ⊥) → among (numbers_of loads) i ≡ true → among (numbers_of (rest j loads)) i ≡ true
among_rest j [] i apart h = h
among_rest j (k ∷ ks) i apart h = by (k.load == j) refl (among_rest j ks i apart)
  where
    by : (b : Bool) → (k.load == j) ≡ b → (among (numbers_of ks) i ≡ true → among (numbers_of (rest j ks)) i ≡ true) → among (numbers_of (rest j (k ∷ ks))) i ≡ true
    by true e more = rw e (more (elim (or_cases (k.load == i) (among (numbers_of ks) i) h) [ inl same ↦ absurd (apart (sym (eqb-true k.load i same) ∙ eqb-true k.load j e)) | inr later ↦ later ]))
    by false e more = rw e (elim (or_cases (k.load == i) (among (numbers_of ks) i) h) [
      | inl same ↦ or_left (k.load == i) (among (numbers_of (rest j ks)) i) same
      | inr later ↦ or_right (k.load == i) (among (numbers_of (rest j ks)) i) (more later)
    ])

-- without a number that no load has, all are left
none_gone : (j : ℕ) (loads : List KeptOf) → among (numbers_of loads) j ≡ false → rest j loads ≡ loads
none_gone j [] h = refl
none_gone j (k ∷ ks) h =
    let apart : (k.load == j) ≡ false = false_from_ne_true _ (λ e. both_ways _ h (or_left (k.load == j) (among (numbers_of ks) j) e)) in
    let later : among (numbers_of ks) j ≡ false = false_from_ne_true _ (λ e. both_ways _ h (or_right (k.load == j) (among (numbers_of ks) j) e)) in
    rw apart (ap (λ (os : List KeptOf). k ∷ os) (none_gone j ks later))

-- just one is gone
pub one_gone : (j : ℕ) (loads : List KeptOf) → are_different (numbers_of loads) ≡ true → among (numbers_of loads) j ≡ true → length (rest j loads) + 1 ≡ length loads
one_gone j [] different h = absurd (cc)
one_gone j (k ∷ ks) different h = by (k.load == j) refl (one_gone j ks)
  where
    parts : (not (among (numbers_of ks) k.load) ≡ true) × (are_different (numbers_of ks) ≡ true)
    parts = and_parts (not (among (numbers_of ks) k.load)) (are_different (numbers_of ks)) different

    by : (b : Bool) → (k.load == j) ≡ b → (are_different (numbers_of ks) ≡ true → among (numbers_of ks) j ≡ true → length (rest j ks) + 1 ≡ length ks) → length (rest j (k ∷ ks)) + 1 ≡ length (k ∷ ks)
    by true e more =
        let gone : among (numbers_of ks) j ≡ false = ap (among (numbers_of ks)) (sym (eqb-true k.load j e)) ∙ not-true _ parts.0 in
        rw (e, none_gone j ks gone) (omega arith)
    by false e more =
        let later = more parts.1 (elim (or_cases (k.load == j) (among (numbers_of ks) j) h) [ inl same ↦ absurd (both_ways _ e same) | inr later ↦ later ]) in
        rw e (omega (arith, later))

module _ (setting : Setting) (entries : List Entry) (loads now : List KeptOf) (j : ℕ) (legal : Legal setting entries) (are : AreKept setting.catalog entries loads) (left : IsPermutation (rest j loads) now) where
  -- the loads that are left are those that are kept after the eviction
  pub evicted_kept : AreKept setting.catalog (entries ++ Evict j ∷ []) now
  evicted_kept = record { are = All-from_member (IsKept setting.catalog (entries ++ Evict j ∷ [])) now each; every = every }
    where
      passes : (ks : List KeptOf) (k : KeptOf) → Contains (rest j ks) k → (k.load == j) ≡ false
      passes ks k held = not-true (k.load == j) (All-contains (λ o. not (o.load == j) ≡ true) (rest j ks) k (filter_passes (λ o. not (o.load == j)) ks) held)

      filtered : (k : KeptOf) → Contains (rest j loads) k → Contains loads k
      filtered k held = All-contains (Contains loads) (rest j loads) k (All-filter (λ o. not (o.load == j)) (Contains loads) loads (All-contains_itself loads)) held

      each : (k : KeptOf) → Contains now k → IsKept setting.catalog (entries ++ Evict j ∷ []) k
      each k held =
          let stood : Contains (rest j loads) k = Contains-permutation now (rest j loads) k (IsPermutation-sym (rest j loads) now left) held in
          let apart : (j == k.load) ≡ false = false_from_ne_true _ (λ e. both_ways _ (passes loads k stood) (eq-eqb k.load j (sym (eqb-true j k.load e)))) in
          kept_grown setting entries (Evict j) k k.shut legal apart (nothing_more k.shut k.body.header (Evict j) refl) (All-contains (IsKept setting.catalog entries) loads k are.are (filtered k stood))

      every : (i : ℕ) → kept (entries ++ Evict j ∷ []) i ≡ true → among (numbers_of now) i ≡ true
      every i h =
          let apart : i ≡ j → ⊥ = λ same. both_ways _ (evicted_unkept entries j) (ap (kept (entries ++ Evict j ∷ [])) (sym same) ∙ h) in
          let before : kept entries i ≡ true = elim (kept_back entries (Evict j) i h) [ inl old ↦ old | inr new ↦ absurd (cc) ] in
          sym (list_any-IsPermutation (λ v. v == i) (numbers_of (rest j loads)) (numbers_of now) (IsPermutation-map (λ (k : KeptOf). k.load) (rest j loads) now left))
          ∙ among_rest j loads i apart (are.every i before)

  pub fewer_kept : are_different (numbers_of loads) ≡ true → among (numbers_of loads) j ≡ true → length now + 1 ≡ length loads
  fewer_kept different held = let one = one_gone j loads different held in let same = length_permutation (rest j loads) now left in omega (arith, one, same)

-- what each eviction leaves so stays so over many
onward :
    (setting : Setting) (P : List Entry → Type 0) → ((entries : List Entry) (j : ℕ) → Legal setting entries → P entries → P (entries ++ Evict j ∷ []))
    → (loads : List ℕ) (entries : List Entry) → Legal setting (entries ++ map Evict loads) → P entries → P (entries ++ map Evict loads)
onward setting P step [] entries legal here = subst P (sym (append-nil entries)) here
onward setting P step (j ∷ js) entries legal here =
    subst P (append_assoc entries (Evict j ∷ []) (map Evict js))
    (onward setting P step js (entries ++ Evict j ∷ []) (subst (Legal setting) (sym (append_assoc entries (Evict j ∷ []) (map Evict js))) legal)
    (step entries j (prefixes_are_legal setting entries (map Evict (j ∷ js)) legal) here))

-- a manager after evictions
pub evicted_manager :
    (setting : Setting) (entries : List Entry) (spare left : ℕ) (facts : FactsOf) (regions : List Region) (held now_held : List KeptOf) (places now : List Header → Type 0) (flights : List FlightOf) (tables : List TableOf) (loads : List ℕ)
    → IsManager setting entries spare facts regions held places flights tables → Legal setting (entries ++ map Evict loads) → AreKept setting.catalog (entries ++ map Evict loads) now_held → closing flights now_held ≤ left → now (headers_of flights)
    → IsManager setting (entries ++ map Evict loads) left facts regions now_held now flights tables
evicted_manager setting entries spare left facts regions held now_held places now flights tables loads is legal are room fit = record {
  facts_are = onward setting (λ es. AreFactsOf setting es facts) (λ es j legal here. facts_on setting es facts (Evict j) (λ cube. refl) refl here) loads entries legal is.facts_are;
  regions_are = onward setting (λ es. regions ≡ regions_of es) (λ es j legal here. here ∙ sym (regions_on es (Evict j) refl)) loads entries legal is.regions_are;
  kept_are = are.are;
  kept_all = are.every;
  flights_are = onward setting (λ es. All (IsFlight es) flights) (λ es j legal here. all_flights_on es (Evict j) flights (λ i. refl) here) loads entries legal is.flights_are;
  flights_all = onward setting (λ es. (j : ℕ) → flying es j ≡ true → among (map (λ f. f.load) flights) j ≡ true) (λ es j legal here. flights_all_on es (Evict j) (map (λ f. f.load) flights) refl here) loads entries legal is.flights_all;
  tables_are = onward setting (λ es. tables ≡ tables_built setting.catalog es) (λ es j legal here. here ∙ sym (tables_stay setting es (Evict j) legal refl)) loads entries legal is.tables_are;
  ends_fit = room;
  places_fit = fit;
}
