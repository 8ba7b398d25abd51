-- What an eviction changes and leaves; the load that is awaited, and the oldest that is kept.
use Rattle.std.proofs.Common.{◌≡◌, refl, sym, ◌∙◌, ap, subst, ℕ, zero, suc, ◌<◌, ◌≤◌, inl, inr, List, [], ◌∷◌, ◌++◌, append-nil, drop, length, take, Bool, true, false, cond, not, ◌&&◌, ◌||◌, ◌==◌, Option, Some, None, MatchOption, All, Contains, filter_map, flat_map, is_some, option_and_then, option_map, slice_get, arith}
use Rattle.std.specs.Option.{option_or}
use Rattle.std.specs.List.{cons_option, list_any}
use Rattle.std.proofs.lemmas.Bool.{both_ways, and_parts, and_from, cases_order, eq-eqb, eqb-true, false_from_ne_true, not_from_false, or_left, or_right}
use Rattle.std.proofs.lemmas.List.{take-append-drop}
use Rattle.std.proofs.lemmas.List.Elements.{All-contains, filter_map-append}
use Rattle.std.proofs.lemmas.List.Folds.{list_any-append}
use Rattle.olap_meaning.specs.declared.cells.Cell.{Cell}
use Rattle.olap_meaning.specs.declared.cells.CellSource.{CellSource}
use Rattle.olap_meaning.specs.declared.tables.Catalog.{Catalog}
use Rattle.olap_meaning.specs.declared.tables.Row.{Row}
use Rattle.olap_meaning.specs.declared.tables.Setting.{Setting}
use Rattle.olap_meaning.specs.Budget.{oldest_kept}
use Rattle.olap_meaning.specs.Covering.{among}
use Rattle.olap_meaning.specs.Equivalents.{AwaitedLoadIsLeast, IsAwaited, IsAwaitedLoad, IsOldestKept, OldestIsLeast}
use Rattle.olap_meaning.specs.History.{Entry, Evict, Load, Start, appended, awaited, awaited_load, delivers, earliest, entry_at, evicts, exact_source, flying, kept, kept_up_to, live, load_at, load_just_covers, load_version, rows_of, started}
use Rattle.olap_meaning.specs.Laws.{EvictedServeNone, EvictionsChangeNoWorth, LoadsAreEvictedOnce, SourcesStay}
use Rattle.olap_meaning.specs.Legal.{IsSource, Legal}
use Rattle.olap_meaning.specs.Rolled.{IsRolled, IsRolledSource, offered, value_count}
use Rattle.olap_meaning.specs.Worth.{answered_version, value, value_over, worth}
use Rattle.olap_meaning.proofs.ByPosition.{from_awaited}
use Rattle.olap_meaning.proofs.Earliest.{IsEarliest, earliest_found, earliest_is, earliest_none, none_earliest}
use Rattle.olap_meaning.proofs.Growing.{floor_grows}
use Rattle.olap_meaning.proofs.Loads.{kept_parts, live_on, live_parts, load_start}
use Rattle.olap_meaning.proofs.Members.{All-from_member, any_member}
use Rattle.olap_meaning.proofs.Positions.{after_passes, entry-take, entry_from-take, entry_within, latest_bounds, latest_found, latest_none, passes_after}
use Rattle.olap_meaning.proofs.Sources.{delivery_ends, exact_source_grows, latest_is, none_latest}
use Rattle.olap_meaning.proofs.Steps.{ended_flew, prefixes_are_legal}

-- the load that a cell awaits, by its facts
module _ (history : List Entry) (cell : Cell) where
  abbrev waits : ℕ → Bool
  waits j = awaited history j cell

  -- an awaited load stands in the history
  pub awaited_within : (j : ℕ) → waits j ≡ true → (1 ≤ j) × (j ≤ length history)
  awaited_within j h = let is : IsAwaited history j cell = from_awaited history j cell h in entry_within history j (Start is.load) is.starts

  pub to_awaited_load : (j : ℕ) → IsAwaitedLoad history cell j → awaited_load history cell ≡ Some j
  to_awaited_load j is =
      let within = awaited_within j is.awaits in
      earliest_is (length history) waits j is.awaits within.0 within.1 (λ i one l t. is.least i t)

  pub from_awaited_load : (j : ℕ) → awaited_load history cell ≡ Some j → IsAwaitedLoad history cell j
  from_awaited_load j h = record { awaits = found.passes; least = least }
    where
      found : IsEarliest (length history) waits j
      found = earliest_found (length history) waits j h

      least : (k : ℕ) → waits k ≡ true → j ≤ k
      least k t = elim (cases_order j k) [
        | inl same ↦ omega (arith, same)
        | inr apart ↦ elim apart [
          | inl less ↦ omega (arith, less)
          | inr more ↦ absurd (both_ways (waits k) (found.first k (awaited_within k t).0 more) t)
        ]
      ]

  pub none_awaited : awaited_load history cell ≡ None → (j : ℕ) → waits j ≡ false
  none_awaited h j = false_from_ne_true (waits j) (λ t. both_ways (waits j) (earliest_none (length history) waits j h (awaited_within j t).0 (awaited_within j t).1) t)

  pub awaits_none : ((j : ℕ) → waits j ≡ false) → awaited_load history cell ≡ None
  awaits_none none = none_earliest (length history) waits (λ k one l. none k)

pub awaited_load_is_least : AwaitedLoadIsLeast
awaited_load_is_least = record {
  some = λ history cell j. (from_awaited_load history cell j, to_awaited_load history cell j);
  none = λ history cell. (none_awaited history cell, awaits_none history cell);
}

-- the first of two lists side by side
first_of : (xs ys : List ℕ) → slice_get (xs ++ ys) 0 ≡ option_or (slice_get xs 0) (slice_get ys 0)
first_of [] ys = refl
first_of (x ∷ xs) ys = refl

first_if : (b : Bool) (n : ℕ) → slice_get (cond b (n ∷ []) []) 0 ≡ cond b (Some n) None
first_if true n = refl
first_if false n = refl

-- the first kept load is the earliest
pub first_kept : (history : List Entry) (n : ℕ) → slice_get (kept_up_to history n) 0 ≡ earliest n (kept history)
first_kept history zero = refl
first_kept history (suc n) =
    first_of (kept_up_to history n) (cond (kept history (suc n)) (suc n ∷ []) [])
    ∙ ap (λ o. option_or o (slice_get (cond (kept history (suc n)) (suc n ∷ []) []) 0)) (first_kept history n)
    ∙ ap (option_or (earliest n (kept history))) (first_if (kept history (suc n)) (suc n))

-- in a legal history a kept load stands in it
pub kept_within : (setting : Setting) (history : List Entry) → Legal setting history → (j : ℕ) → kept history j ≡ true → (1 ≤ j) × (j ≤ length history)
kept_within setting history legal j h = at came.0 came.1 came.2 came.4
  where
    came : (q : ℕ) × (e : Entry) × (entry_at history q ≡ Some e) × (0 < q) × (delivers j e ≡ true)
    came = after_passes (delivers j) 0 history (kept_parts history j h).0

    at : (q : ℕ) (e : Entry) → entry_at history q ≡ Some e → delivers j e ≡ true → (1 ≤ j) × (j ≤ length history)
    at zero e here d = absurd (cc)
    at (suc b) e here d =
        let flew : flying (take b history) j ≡ true = ended_flew setting (take b history) e j (legal b e here) (delivery_ends j e d) in
        let load : (load : Load) × (load_at (take b history) j ≡ Some load) = some_load (load_at (take b history) j) (and_parts _ _ flew).0 in
        let stands = entry_from-take b history j (Start load.0) (load_start (take b history) j load.0 load.1) in
        entry_within history j (Start load.0) stands.0
      where
        some_load : (o : Option Load) → is_some o ≡ true → (load : Load) × (o ≡ Some load)
        some_load None h = absurd (cc)
        some_load (Some load) h = (load, refl)

pub oldest_is_least : OldestIsLeast
oldest_is_least setting history j legal = (there, back)
  where
    there : oldest_kept history ≡ Some j → IsOldestKept history j
    there h = record { is_kept = found.passes; least = least }
      where
        found : IsEarliest (length history) (kept history) j
        found = earliest_found (length history) (kept history) j (sym (first_kept history (length history)) ∙ h)

        least : (k : ℕ) → kept history k ≡ true → j ≤ k
        least k t = elim (cases_order j k) [
          | inl same ↦ omega (arith, same)
          | inr apart ↦ elim apart [
            | inl less ↦ omega (arith, less)
            | inr more ↦ absurd (both_ways (kept history k) (found.first k (kept_within setting history legal k t).0 more) t)
          ]
        ]

    back : IsOldestKept history j → oldest_kept history ≡ Some j
    back is =
        let within = kept_within setting history legal j is.is_kept in
        first_kept history (length history) ∙ earliest_is (length history) (kept history) j is.is_kept within.0 within.1 (λ i one l t. is.least i t)

-- an evicted load is kept no more
pub evicted_unkept : (history : List Entry) (j : ℕ) → kept (history ++ Evict j ∷ []) j ≡ false
evicted_unkept history j = false_from_ne_true _ none
  where
    gone : list_any (evicts j) (history ++ Evict j ∷ []) ≡ true
    gone =
        list_any-append (evicts j) history (Evict j ∷ [])
        ∙ or_right (list_any (evicts j) history) ((j == j) || false) (or_left (j == j) false (eq-eqb j j refl))

    none : kept (history ++ Evict j ∷ []) j ≡ true → ⊥
    none h = both_ways _ (kept_parts (history ++ Evict j ∷ []) j h).1 gone

pub evicted_serve_none : EvictedServeNone
evicted_serve_none = record {
  kept_no_more = evicted_unkept;
  lives_no_more = λ history j cell. false_from_ne_true _ (λ h. both_ways _ (evicted_unkept history j) (live_parts (history ++ Evict j ∷ []) j cell h).0);
}

-- what an entry tells that tells nothing of a function, at each place of a list to which it is added
told_still : {B : Type 0} (f : Entry → Option B) (e : Entry) → f e ≡ None → (xs : List Entry) (i : ℕ) → option_and_then f (slice_get (xs ++ e ∷ []) i) ≡ option_and_then f (slice_get xs i)
told_still f e none [] zero = none
told_still f e none [] (suc i) = refl
told_still f e none (x ∷ xs) zero = refl
told_still f e none (x ∷ xs) (suc i) = told_still f e none xs i

module _ (history : List Entry) (j : ℕ) where
  abbrev after : List Entry
  after = history ++ Evict j ∷ []

  -- each load stands where it stood
  pub load_still : (k : ℕ) → load_at after k ≡ load_at history k
  load_still zero = refl
  load_still (suc k) = told_still started (Evict j) refl history k

  pub rows_still : (cube v : ℕ) → rows_of after cube v ≡ rows_of history cube v
  rows_still cube v =
      ap (λ (batches : List (List Row)). flat_map (λ rows. rows) (take v batches))
      (filter_map-append (appended cube) history (Evict j ∷ []) ∙ append-nil (filter_map (appended cube) history))

  pub value_still : (catalog : Catalog) (cell : Cell) (v : ℕ) → value catalog after cell v ≡ value catalog history cell v
  value_still catalog cell v = ap (value_over catalog cell) (rows_still cell.cube v)

  pub version_still : (answered : CellSource) → answered_version after answered ≡ answered_version history answered
  version_still answered = by (slice_get answered.loads 0)
    where
      by : (o : Option ℕ) → option_and_then (load_version after) o ≡ option_and_then (load_version history) o
      by None = refl
      by (Some k) = ap (option_map (λ (load : Load). load.version)) (load_still k)

  pub worth_still : (catalog : Catalog) (answered : CellSource) → worth catalog after answered ≡ worth catalog history answered
  worth_still catalog answered = ap (option_map (value catalog after answered.cell)) (version_still answered) ∙ by (answered_version history answered)
    where
      by : (o : Option ℕ) → option_map (value catalog after answered.cell) o ≡ option_map (value catalog history answered.cell) o
      by None = refl
      by (Some v) = ap Some (value_still catalog answered.cell v)

  -- what a load offers is the same
  offers_still : (loads : List ℕ) → filter_map (offered after) loads ≡ filter_map (offered history) loads
  offers_still [] = refl
  offers_still (k ∷ ks) =
      ap (λ (o : Option Load). cons_option (option_map (λ (l : Load). record { header = l.header; version = l.version }) o) (filter_map (offered after) ks)) (load_still k)
      ∙ ap (cons_option (offered history k)) (offers_still ks)

  -- a load that is not evicted lives on
  lives_on : (cell : Cell) (loads : List ℕ) → among loads j ≡ false → All (λ k. live history k cell ≡ true) loads → All (λ k. live after k cell ≡ true) loads
  lives_on cell loads other lives = All-from_member (λ k. live after k cell ≡ true) loads each
    where
      each : (k : ℕ) → Contains loads k → live after k cell ≡ true
      each k held =
          live_on history (Evict j) cell k refl
          (false_from_ne_true (j == k) (λ same. both_ways (among loads j) other (subst (λ n. among loads n ≡ true) (sym (eqb-true j k same)) (any_member (λ v. v == k) loads k held (eq-eqb k k refl)))))
          (All-contains (λ k. live history k cell ≡ true) loads k lives held)

  -- the exact source is the same, where it is not evicted
  exact_still : (setting : Setting) (cell : Cell) (k : ℕ) → Legal setting history → (j == k) ≡ false → exact_source history cell ≡ Some k → exact_source after cell ≡ Some k
  exact_still setting cell k legal other exact =
      exact_source_grows setting history (Evict j) cell legal
      ∙ latest_is (length history) (λ i. live history i cell && load_just_covers history i cell && not (j == i)) k passes found.1 found.2 most
    where
      serves : ℕ → Bool
      serves i = live history i cell && load_just_covers history i cell

      found : (serves k ≡ true) × (1 ≤ k) × (k ≤ length history)
      found = latest_found (length history) serves k exact

      passes : (live history k cell && load_just_covers history k cell && not (j == k)) ≡ true
      passes = and_from (serves k) (not (j == k)) found.0 (not_from_false (j == k) other)

      most : (i : ℕ) → i ≤ length history → (live history i cell && load_just_covers history i cell && not (j == i)) ≡ true → i ≤ k
      most zero l t = omega arith
      most (suc i) l t =
          let parts = and_parts (serves (suc i)) (not (j == suc i)) t in
          let bound : (m : ℕ) × (exact_source history cell ≡ Some m) × (suc i ≤ m) = latest_bounds (length history) serves (suc i) parts.0 (omega arith) l in
          let same : bound.0 ≡ k = cc (exact, bound.1) in
          omega (arith, same, bound.2)

  -- where there is none, there is none after it
  none_still : (setting : Setting) (cell : Cell) → Legal setting history → exact_source history cell ≡ None → exact_source after cell ≡ None
  none_still setting cell legal none =
      exact_source_grows setting history (Evict j) cell legal
      ∙ none_latest (length history) (λ i. live history i cell && load_just_covers history i cell && not (j == i)) fails
    where
      serves : ℕ → Bool
      serves i = live history i cell && load_just_covers history i cell

      fails : (i : ℕ) → i ≤ length history → (live history i cell && load_just_covers history i cell && not (j == i)) ≡ false
      fails zero l = false_from_ne_true _ (λ t. both_ways (live history 0 cell) refl_zero (and_parts _ _ (and_parts (serves 0) (not (j == 0)) t).0).0)
        where
          refl_zero : live history 0 cell ≡ false
          refl_zero = false_from_ne_true _ (λ h. both_ways false refl (live_parts history 0 cell h).1)
      fails (suc i) l = false_from_ne_true _ (λ t. both_ways (serves (suc i)) (latest_none (length history) serves (suc i) none (omega arith) l) (and_parts (serves (suc i)) (not (j == suc i)) t).0)

pub evictions_change_no_worth : EvictionsChangeNoWorth
evictions_change_no_worth = record {
  worths = λ catalog history j answered. worth_still history j catalog answered;
  values = λ catalog history j cell v. value_still history j catalog cell v;
  floors = λ history j cell. floor_grows history (Evict j) cell;
}

pub sources_stay : SourcesStay
sources_stay setting history j cell loads legal source other = by (exact_source history cell) refl source
  where
    by : (o : Option ℕ) → exact_source history cell ≡ o → MatchOption o (IsRolledSource setting.catalog history cell loads) (λ k. loads ≡ k ∷ []) → IsSource setting.catalog (history ++ Evict j ∷ []) cell loads
    by None e rolled = rw (none_still history j setting cell legal e) (record {
      lives = lives_on history j cell loads other rolled.lives;
      measure = rolled.measure;
      is_measure = rolled.is_measure;
      rolled = subst (IsRolled rolled.measure.aggregator (value_count setting.catalog) cell) (sym (offers_still history j loads)) rolled.rolled;
    })
    by (Some k) e taken = rw (exact_still history j setting cell k legal (apart taken) e) taken
      where
        apart : loads ≡ k ∷ [] → (j == k) ≡ false
        apart are = false_from_ne_true (j == k) (λ same. both_ways (among loads j) other (ap (λ xs. among xs j) are ∙ or_left (k == j) false (eq-eqb k j (sym (eqb-true j k same)))))

pub loads_are_evicted_once : LoadsAreEvictedOnce
loads_are_evicted_once setting history legal j p q at_p at_q =
    elim (cases_order p q) [
      | inl same ↦ same
      | inr apart ↦ elim apart [
        | inl less ↦ absurd (not_twice p q at_p at_q less)
        | inr more ↦ absurd (not_twice q p at_q at_p more)
      ]
    ]
  where
    front_legal : (b : ℕ) → Legal setting (take b history)
    front_legal b = prefixes_are_legal setting (take b history) (drop b history) (subst (Legal setting) (sym (take-append-drop b history)) legal)

    not_twice : (p q : ℕ) → entry_at history p ≡ Some (Evict j) → entry_at history q ≡ Some (Evict j) → p < q → ⊥
    not_twice p zero at_p at_q l = absurd (cc)
    not_twice p (suc b) at_p at_q l =
        let step = legal b (Evict j) at_q in
        let is : IsOldestKept (take b history) j = (oldest_is_least setting (take b history) j (front_legal b)).0 step.oldest in
        let stands : entry_at (take b history) p ≡ Some (Evict j) = entry-take b history p (Evict j) at_p (omega (arith, l)) in
        both_ways _ (kept_parts (take b history) j is.is_kept).1 (passes_after (evicts j) 0 (take b history) p (Evict j) stands (omega (arith, (entry_within (take b history) p (Evict j) stands).0)) (eq-eqb j j refl))
