-- One more entry, and the loads that are live or awaited.
use Rattle.std.proofs.Common.{◌≡◌, refl, sym, ◌∙◌, ap, ℕ, zero, suc, ◌+◌, ◌<◌, ◌≤◌, List, [], ◌∷◌, ◌++◌, length, take, drop, Bool, true, false, cond, not, ◌&&◌, ◌||◌, ◌==◌, ◌⊎◌, inl, inr, Option, Some, None, nat_lt, arith, is_some, le_antisymm, le_of_eq, zero-le, option_and_then}
use Rattle.std.proofs.Math.Bool.{and-true}
use Rattle.std.specs.List.{list_any}
use Rattle.std.specs.Option.{option_or}
use Rattle.std.proofs.lemmas.Bool.{both_ways, and_parts, and_from, or_cases, or_left, or_right, or_from, eqb-true, eq-eqb, ltb-true, ltb-false, not-true, false_from_ne_true}
use Rattle.std.proofs.lemmas.List.{drop-append-le, length_push}
use Rattle.std.proofs.lemmas.List.Folds.{list_any-append}
use Rattle.olap_meaning.specs.declared.cells.Cell.{Cell}
use Rattle.olap_meaning.specs.declared.tables.Setting.{Setting}
use Rattle.olap_meaning.specs.Covering.{header_covers, just_covers}
use Rattle.olap_meaning.specs.History.{Entry, Append, Agg, Flush, Start, Done, Drop, Evict, Answer, Saw, Load, earliest, entry_at, latest, is_some_and, started, load_at, load_covers, load_just_covers, flushes, flushed_after, delivered, live, delivers, evicts, ends, flying, awaited, awaited_load, exact_source}
use Rattle.olap_meaning.specs.Legal.{Legal}
use Rattle.olap_meaning.specs.Growth.{ExactSourceGrows, AwaitedLoadGrows, greater, delivered_for, left_for, starts_for}
use Rattle.olap_meaning.proofs.Positions.{entry_within, entry_from-take, after_passes, get_last, latest_found, latest_bounds, latest_none}
use Rattle.olap_meaning.proofs.Loads.{some_and, load_start, kept_parts, live_parts, flushed_last, flush_shuts_off}
use Rattle.olap_meaning.proofs.Growing.{latest_agree, entry-append-le}
use Rattle.olap_meaning.proofs.Steps.{ended_flew}
use Rattle.olap_meaning.proofs.Earliest.{earliest_agree, none_earliest}
use Rattle.olap_meaning.proofs.ReachUp.{any_weaker}

-- the latest position that passes, by its two facts
pub latest_is : (n : ℕ) (test : ℕ → Bool) (k : ℕ) → test k ≡ true → 1 ≤ k → k ≤ n → ((i : ℕ) → i ≤ n → test i ≡ true → i ≤ k) → latest n test ≡ Some k
latest_is n test k t one l most =
    let b : (m : ℕ) × (latest n test ≡ Some m) × (k ≤ m) = latest_bounds n test k t one l in
    let found : (test b.0 ≡ true) × (1 ≤ b.0) × (b.0 ≤ n) = latest_found n test b.0 b.1 in
    b.1 ∙ ap Some (le_antisymm (most b.0 found.2 found.0) b.2)

-- there is none where none passes
pub none_latest : (n : ℕ) (test : ℕ → Bool) → ((k : ℕ) → k ≤ n → test k ≡ false) → latest n test ≡ None
none_latest zero test none = refl
none_latest (suc n) test none = ap (λ b. cond b (Some (suc n)) (latest n test)) (none (suc n) (omega arith)) ∙ none_latest n test (λ k l. none k (omega (arith, l)))

-- one load more among those that pass
latest_with : (n : ℕ) (test more : ℕ → Bool) (j : ℕ) → (more j ≡ true → (1 ≤ j) × (j ≤ n)) → latest n (λ k. ((j == k) && more k) || test k) ≡ greater (cond (more j) (Some j) None) (latest n test)
latest_with n test more j within = by (more j) (latest n test) refl refl
  where
    either : ℕ → Bool
    either k = ((j == k) && more k) || test k

    is_either : (k : ℕ) → either k ≡ true → ((j ≡ k) × (more k ≡ true)) ⊎ (test k ≡ true)
    is_either k e = elim (or_cases ((j == k) && more k) (test k) e) [
      | inl b ↦ let p : ((j == k) ≡ true) × (more k ≡ true) = and_parts (j == k) (more k) b in inl (eqb-true j k p.0, p.1)
      | inr t ↦ inr t
    ]

    here : more j ≡ true → either j ≡ true
    here m = or_left ((j == j) && more j) (test j) (and_from (j == j) (more j) (eq-eqb j j refl) m)

    there : (k : ℕ) → test k ≡ true → either k ≡ true
    there k t = or_right ((j == k) && more k) (test k) t

    -- none passes but j
    but_j : latest n test ≡ None → (i : ℕ) → i ≤ n → either i ≡ true → i ≤ j
    but_j e zero l t = zero-le
    but_j e (suc i) l t = elim (is_either (suc i) t) [ inl p ↦ le_of_eq (sym p.0) | inr u ↦ absurd (both_ways (test (suc i)) (latest_none n test (suc i) e (omega arith) l) u) ]

    -- none passes past k but j
    most : (k : ℕ) → latest n test ≡ Some k → j ≤ k → (i : ℕ) → i ≤ n → either i ≡ true → i ≤ k
    most k e l zero m t = zero-le
    most k e l (suc i) m t = elim (is_either (suc i) t) [ inl p ↦ omega (arith, p.0, l) | inr u ↦ below (latest_bounds n test (suc i) u (omega arith) m) ]
      where
        below : (x : ℕ) × (latest n test ≡ Some x) × (suc i ≤ x) → suc i ≤ k
        below b = let same : b.0 ≡ k = cc (e, b.1) in omega (arith, b.2, same)

    past : (k : ℕ) → latest n test ≡ Some k → k ≤ j → (i : ℕ) → i ≤ n → either i ≡ true → i ≤ j
    past k e l zero m t = zero-le
    past k e l (suc i) m t = elim (is_either (suc i) t) [ inl p ↦ le_of_eq (sym p.0) | inr u ↦ below (latest_bounds n test (suc i) u (omega arith) m) ]
      where
        below : (x : ℕ) × (latest n test ≡ Some x) × (suc i ≤ x) → suc i ≤ j
        below b = let same : b.0 ≡ k = cc (e, b.1) in omega (arith, b.2, same, l)

    no_more : more j ≡ false → (k : ℕ) → k ≤ n → either k ≡ test k
    no_more m k l = by_test (test k) refl
      where
        by_test : (b : Bool) → test k ≡ b → either k ≡ b
        by_test true t = there k t
        by_test false t = false_from_ne_true (either k) (λ e. elim (is_either k e) [ inl p ↦ both_ways (more j) m (ap more p.0 ∙ p.1) | inr u ↦ both_ways (test k) t u ])

    by_order : (b : Bool) (k : ℕ) → nat_lt j k ≡ b → more j ≡ true → latest n test ≡ Some k → latest n either ≡ cond b (Some k) (Some j)
    by_order true k o m e = let found : (test k ≡ true) × (1 ≤ k) × (k ≤ n) = latest_found n test k e in latest_is n either k (there k found.0) found.1 found.2 (most k e (let l : j < k = ltb-true j k o in omega (arith, l)))
    by_order false k o m e = latest_is n either j (here m) (within m).0 (within m).1 (past k e (ltb-false j k o))

    by : (b : Bool) (o : Option ℕ) → more j ≡ b → latest n test ≡ o → latest n either ≡ greater (cond b (Some j) None) o
    by false o m e = latest_agree n either test (no_more m) ∙ e
    by true None m e = latest_is n either j (here m) (within m).0 (within m).1 (but_j e)
    by true (Some k) m e = by_order (nat_lt j k) k refl m e

-- what one more entry that flushes nothing does to the tests of a load
live_parts_grow : (del kep cov flu jus out was : Bool) → (jus ≡ true → cov ≡ true) → ((((kep || (del || false)) && not (was || (out || false))) && cov && not (flu || (false || false))) && jus) ≡ (((del && (jus && not flu && not was)) || (((kep && not was) && cov && not flu) && jus)) && not out)
live_parts_grow del kep cov flu jus out was h = grind arith

awaited_parts_grow : (ld en x jus flu : Bool) → ((ld && not (en || (x || false))) && jus && not (flu || (false || false))) ≡ (((ld && not en) && jus && not flu) && not x)
awaited_parts_grow ld en x jus flu = grind arith

and_with : (a b c : Bool) → ((a && b) && c) ≡ (a && b && c)
and_with true b c = refl
and_with false b c = refl

pub delivery_ends : (j : ℕ) (e : Entry) → delivers j e ≡ true → ends j e ≡ true
delivery_ends j (Append w c v r) h = absurd (cc)
delivery_ends j (Agg w t v) h = absurd (cc)
delivery_ends j (Flush w r) h = absurd (cc)
delivery_ends j (Start l) h = absurd (cc)
delivery_ends j (Done w k) h = h
delivery_ends j (Drop w k) h = absurd (cc)
delivery_ends j (Evict k) h = absurd (cc)
delivery_ends j (Answer w cs) h = absurd (cc)
delivery_ends j (Saw w) h = absurd (cc)

-- in a legal history only loads that were started are ended
ended_within : (setting : Setting) (history : List Entry) → Legal setting history → (j q : ℕ) (e : Entry) → entry_at history q ≡ Some e → ends j e ≡ true → j ≤ length history
ended_within setting history legal j zero e at f = absurd (cc)
ended_within setting history legal j (suc b) e at f =
    let flew : flying (take b history) j ≡ true = ended_flew setting (take b history) e j (legal b e at) f in
    let load : (load : Load) × (load_at (take b history) j ≡ Some load) = some_load (load_at (take b history) j) (and_parts _ _ flew).0 in
    let stands = entry_from-take b history j (Start load.0) (load_start (take b history) j load.0 load.1) in
    (entry_within history j (Start load.0) stands.0).1
  where
    some_load : (o : Option Load) → is_some o ≡ true → (load : Load) × (o ≡ Some load)
    some_load None h = absurd (cc)
    some_load (Some load) h = (load, refl)

pub unended : (setting : Setting) (history : List Entry) → Legal setting history → list_any (ends (suc (length history))) history ≡ false
unended setting history legal = false_from_ne_true _ none
  where
    none : list_any (ends (suc (length history))) history ≡ true → ⊥
    none h =
        let found : (q : ℕ) × (e : Entry) × (entry_at history q ≡ Some e) × (0 < q) × (ends (suc (length history)) e ≡ true) = after_passes (ends (suc (length history))) 0 history h in
        let l : suc (length history) ≤ length history = ended_within setting history legal (suc (length history)) found.0 found.1 found.2 found.4 in
        omega (arith, l)

just_is_covered : (cell : Cell) (o : Option Load) → is_some_and (λ load. just_covers load.header cell) o ≡ true → is_some_and (λ load. header_covers load.header cell) o ≡ true
just_is_covered cell None h = h
just_is_covered cell (Some load) h = (and_parts _ _ h).0

module _ (history : List Entry) (entry : Entry) (cell : Cell) where
  abbrev after : List Entry
  after = history ++ entry ∷ []

  abbrev serves : List Entry → ℕ → Bool
  serves h k = live h k cell && load_just_covers h k cell

  -- the load covers the cell with just its columns, no flush since its Start covers the cell, and it was not evicted
  abbrev open_for : ℕ → Bool
  open_for k = load_just_covers history k cell && not (flushed_after history k cell) && not (list_any (evicts k) history)

  pub load_stays : (k : ℕ) → k ≤ length history → load_at after k ≡ load_at history k
  load_stays k l = ap (option_and_then started) (entry-append-le history (entry ∷ []) k l)

  pub any_more : (test : Entry → Bool) → list_any test after ≡ (list_any test history || (test entry || false))
  any_more test = list_any-append test history (entry ∷ [])

  pub flushed_more : (k : ℕ) → k ≤ length history → flushes cell entry ≡ false → flushed_after after k cell ≡ (flushed_after history k cell || (false || false))
  flushed_more k l misses =
      ap (list_any (flushes cell)) (drop-append-le k history (entry ∷ []) l) ∙ list_any-append (flushes cell) (drop k history) (entry ∷ [])
      ∙ ap (λ b. flushed_after history k cell || (b || false)) misses

  serves_on : (k : ℕ) → k ≤ length history → flushes cell entry ≡ false → serves after k ≡ (((delivers k entry && open_for k) || serves history k) && not (evicts k entry))
  serves_on k l misses =
      ap (λ b. (b && not (list_any (evicts k) after)) && load_covers after k cell && not (flushed_after after k cell) && load_just_covers after k cell) (any_more (delivers k))
      ∙ ap
      (λ b. ((delivered history k || (delivers k entry || false)) && not b) && load_covers after k cell && not (flushed_after after k cell) && load_just_covers after k cell)
      (any_more (evicts k))
      ∙ ap
      (λ o. ((delivered history k || (delivers k entry || false)) && not (list_any (evicts k) history || (evicts k entry || false))) && is_some_and (λ load. header_covers load.header cell) o && not (flushed_after after k cell) && is_some_and (λ load. just_covers load.header cell) o)
      (load_stays k l)
      ∙ ap (λ b. ((delivered history k || (delivers k entry || false)) && not (list_any (evicts k) history || (evicts k entry || false))) && load_covers history k cell && not b && load_just_covers history k cell) (flushed_more k l misses)
      ∙ live_parts_grow (delivers k entry) (delivered history k) (load_covers history k cell) (flushed_after history k cell) (load_just_covers history k cell) (evicts k entry) (list_any (evicts k) history) (just_is_covered cell (load_at history k))

  awaited_on : (k : ℕ) → k ≤ length history → flushes cell entry ≡ false → awaited after k cell ≡ (awaited history k cell && not (ends k entry))
  awaited_on k l misses =
      ap (λ b. is_some (load_at after k) && not b && load_just_covers after k cell && not (flushed_after after k cell)) (any_more (ends k))
      ∙ ap
      (λ o. is_some o && not (list_any (ends k) history || (ends k entry || false)) && is_some_and (λ load. just_covers load.header cell) o && not (flushed_after after k cell))
      (load_stays k l)
      ∙ ap (λ b. is_some (load_at history k) && not (list_any (ends k) history || (ends k entry || false)) && load_just_covers history k cell && not b) (flushed_more k l misses)
      ∙ awaited_parts_grow (is_some (load_at history k)) (list_any (ends k) history) (ends k entry) (load_just_covers history k cell) (flushed_after history k cell)

  pub long : length after ≡ suc (length history)
  long = let l : length after ≡ length history + 1 = length_push history entry in omega (arith, l)

  load_last : load_at after (suc (length history)) ≡ started entry
  load_last = ap (option_and_then started) (get_last history entry)

  unflushed_last : flushed_after after (suc (length history)) cell ≡ false
  unflushed_last = false_from_ne_true _ none
    where
      none : flushed_after after (suc (length history)) cell ≡ true → ⊥
      none f =
          let found : (q : ℕ) × (e : Entry) × (entry_at after q ≡ Some e) × (suc (length history) < q) × (flushes cell e ≡ true) = after_passes (flushes cell) (suc (length history)) after f in
          let within : (1 ≤ found.0) × (found.0 ≤ length after) = entry_within after found.0 found.1 found.2 in
          omega (arith, within.1, found.3, long)

-- the load that is awaited, and that no flush has overtaken
awaited_parts : (history : List Entry) (k : ℕ) (cell : Cell) → awaited history k cell ≡ true → (load : Load) × (load_at history k ≡ Some load) × (flushed_after history k cell ≡ false)
awaited_parts history k cell h =
    let both : ((flying history k && load_just_covers history k cell) ≡ true) × (not (flushed_after history k cell) ≡ true) = and_parts (flying history k && load_just_covers history k cell) (not (flushed_after history k cell)) h in
    let front : (flying history k ≡ true) × (load_just_covers history k cell ≡ true) = and_parts (flying history k) (load_just_covers history k cell) both.0 in
    let load : (load : Load) × (load_at history k ≡ Some load) × (just_covers load.header cell ≡ true) = some_and (λ load. just_covers load.header cell) (load_at history k) front.1 in
    (load.0, load.1, not-true (flushed_after history k cell) both.1)

-- a covering flush leaves nothing live or awaited
flushed_all : (history : List Entry) (e : Entry) (cell : Cell) → flushes cell e ≡ true → (k : ℕ) → (live (history ++ e ∷ []) k cell ≡ false) × (awaited (history ++ e ∷ []) k cell ≡ false)
flushed_all history (Append w c v r) cell f k = absurd (cc)
flushed_all history (Agg w t v) cell f k = absurd (cc)
flushed_all history (Flush w r) cell f k = (flush_shuts_off history w r cell k f, false_from_ne_true (awaited (history ++ Flush w r ∷ []) k cell) none)
  where
    none : awaited (history ++ Flush w r ∷ []) k cell ≡ true → ⊥
    none h =
        let parts : (load : Load) × (load_at (history ++ Flush w r ∷ []) k ≡ Some load) × (flushed_after (history ++ Flush w r ∷ []) k cell ≡ false) = awaited_parts (history ++ Flush w r ∷ []) k cell h in
        both_ways (flushed_after (history ++ Flush w r ∷ []) k cell) parts.2 (flushed_last history w r cell k parts.0 f parts.1)
flushed_all history (Start l) cell f k = absurd (cc)
flushed_all history (Done w j) cell f k = absurd (cc)
flushed_all history (Drop w j) cell f k = absurd (cc)
flushed_all history (Evict j) cell f k = absurd (cc)
flushed_all history (Answer w cs) cell f k = absurd (cc)
flushed_all history (Saw w) cell f k = absurd (cc)

-- a load is not live where it was only just started
unserved_last : (setting : Setting) (history : List Entry) (entry : Entry) (cell : Cell) → Legal setting history → (live (history ++ entry ∷ []) (suc (length history)) cell && load_just_covers (history ++ entry ∷ []) (suc (length history)) cell) ≡ false
unserved_last setting history entry cell legal = false_from_ne_true _ (no_load entry (load_last history entry cell))
  where
    n : ℕ
    n = suc (length history)

    unloaded : (e : Entry) → load_at (history ++ e ∷ []) n ≡ None → (live (history ++ e ∷ []) n cell && load_just_covers (history ++ e ∷ []) n cell) ≡ true → ⊥
    unloaded e last h = both_ways _ (ap (is_some_and (λ load. just_covers load.header cell)) last) (and_parts (live (history ++ e ∷ []) n cell) (load_just_covers (history ++ e ∷ []) n cell) h).1

    undelivered : list_any (delivers n) history ≡ false
    undelivered = false_from_ne_true _ (λ d. both_ways _ (unended setting history legal) (any_weaker (delivers n) (ends n) (delivery_ends n) history d))

    no_load : (e : Entry) → load_at (history ++ e ∷ []) n ≡ started e → (live (history ++ e ∷ []) n cell && load_just_covers (history ++ e ∷ []) n cell) ≡ true → ⊥
    no_load (Append w c v r) last h = unloaded (Append w c v r) last h
    no_load (Agg w t v) last h = unloaded (Agg w t v) last h
    no_load (Flush w r) last h = unloaded (Flush w r) last h
    no_load (Start l) last h =
        both_ways (delivered (history ++ Start l ∷ []) n)
        (any_more history (Start l) cell (delivers n) ∙ or_from _ _ undelivered refl)
        (kept_parts (history ++ Start l ∷ []) n (live_parts (history ++ Start l ∷ []) n cell (and_parts (live (history ++ Start l ∷ []) n cell) (load_just_covers (history ++ Start l ∷ []) n cell) h).0).0).0
    no_load (Done w j) last h = unloaded (Done w j) last h
    no_load (Drop w j) last h = unloaded (Drop w j) last h
    no_load (Evict j) last h = unloaded (Evict j) last h
    no_load (Answer w cs) last h = unloaded (Answer w cs) last h
    no_load (Saw w) last h = unloaded (Saw w) last h

-- the loads that serve a cell after an entry, by what it delivers and evicts
abbrev serving : List Entry → Entry → Cell → ℕ → Bool
serving history e cell k = ((delivers k e && open_for history e cell k) || serves history e cell history k) && not (evicts k e)

-- what an entry delivers or evicts, among the loads that serve a cell
served_among : (history : List Entry) (e : Entry) (cell : Cell) → latest (length history) (serving history e cell) ≡ greater (delivered_for history cell e) (left_for history cell e)
served_among history (Append w c v r) cell = latest_agree (length history) _ _ (λ k l. and-true _)
served_among history (Agg w t v) cell = latest_agree (length history) _ _ (λ k l. and-true _)
served_among history (Flush w r) cell = latest_agree (length history) _ _ (λ k l. and-true _)
served_among history (Start l) cell = latest_agree (length history) _ _ (λ k l. and-true _)
served_among history (Done w j) cell =
    latest_agree (length history) (serving history (Done w j) cell) (λ k. ((j == k) && open_for history (Done w j) cell k) || serves history (Done w j) cell history k) (λ k l. and-true _)
    ∙ latest_with (length history) (serves history (Done w j) cell history) (open_for history (Done w j) cell) j within
  where
    within : open_for history (Done w j) cell j ≡ true → (1 ≤ j) × (j ≤ length history)
    within o =
        let load : (load : Load) × (load_at history j ≡ Some load) × (just_covers load.header cell ≡ true) = some_and (λ load. just_covers load.header cell) (load_at history j) (and_parts _ _ (and_parts _ _ o).0).0 in
        entry_within history j (Start load.0) (load_start history j load.0 load.1)
served_among history (Drop w j) cell = latest_agree (length history) _ _ (λ k l. and-true _)
served_among history (Evict j) cell = latest_agree (length history) _ _ (λ k l. and_with (live history k cell) (load_just_covers history k cell) (not (j == k)))
served_among history (Answer w cs) cell = latest_agree (length history) _ _ (λ k l. and-true _)
served_among history (Saw w) cell = latest_agree (length history) _ _ (λ k l. and-true _)

pub exact_source_grows : ExactSourceGrows
exact_source_grows setting history entry cell legal = by (flushes cell entry) refl
  where
    n : ℕ
    n = length history

    by : (b : Bool) → flushes cell entry ≡ b → exact_source (history ++ entry ∷ []) cell ≡ cond b None (greater (delivered_for history cell entry) (left_for history cell entry))
    by true f = none_latest (length (history ++ entry ∷ [])) _ (λ k l. ap (λ b. b && load_just_covers (history ++ entry ∷ []) k cell) (flushed_all history entry cell f k).0)
    by false f =
        ap (λ m. latest m (serves history entry cell (history ++ entry ∷ []))) (long history entry cell)
        ∙ ap (λ b. cond b (Some (suc n)) (latest n (serves history entry cell (history ++ entry ∷ [])))) (unserved_last setting history entry cell legal)
        ∙ latest_agree n (serves history entry cell (history ++ entry ∷ [])) (serving history entry cell) (λ k l. serves_on history entry cell k l f)
        ∙ served_among history entry cell

-- a load is awaited from its Start on
awaited_last : (setting : Setting) (history : List Entry) (entry : Entry) (cell : Cell) → Legal setting history → awaited (history ++ entry ∷ []) (suc (length history)) cell ≡ starts_for cell entry
awaited_last setting history entry cell legal =
    ap (λ b. is_some (load_at after' n) && not b && load_just_covers after' n cell && not (flushed_after after' n cell)) (any_more history entry cell (ends n) ∙ ap (λ b. b || (ends n entry || false)) (unended setting history legal))
    ∙ ap (λ o. is_some o && not (false || (ends n entry || false)) && is_some_and (λ load. just_covers load.header cell) o && not (flushed_after after' n cell)) (load_last history entry cell)
    ∙ ap (λ b. is_some (started entry) && not (false || (ends n entry || false)) && is_some_and (λ load. just_covers load.header cell) (started entry) && not b) (unflushed_last history entry cell)
    ∙ by_entry entry
  where
    n : ℕ
    n = suc (length history)

    after' : List Entry
    after' = history ++ entry ∷ []

    by_entry : (e : Entry) → (is_some (started e) && not (false || (ends n e || false)) && is_some_and (λ load. just_covers load.header cell) (started e) && not false) ≡ starts_for cell e
    by_entry (Append w c v r) = refl
    by_entry (Agg w t v) = refl
    by_entry (Flush w r) = refl
    by_entry (Start l) = and-true (just_covers l.header cell)
    by_entry (Done w j) = refl
    by_entry (Drop w j) = refl
    by_entry (Evict j) = refl
    by_entry (Answer w cs) = refl
    by_entry (Saw w) = refl

pub awaited_load_grows : AwaitedLoadGrows
awaited_load_grows setting history entry cell legal = by (flushes cell entry) refl
  where
    n : ℕ
    n = length history

    by : (b : Bool) → flushes cell entry ≡ b
        → awaited_load (history ++ entry ∷ []) cell ≡ cond b None (option_or (earliest n (λ j. awaited history j cell && not (ends j entry))) (cond (starts_for cell entry) (Some (suc n)) None))
    by true f = none_earliest (length (history ++ entry ∷ [])) _ (λ k one l. (flushed_all history entry cell f k).1)
    by false f =
        ap (λ m. earliest m (λ j. awaited (history ++ entry ∷ []) j cell)) (long history entry cell)
        ∙ ap (λ b. option_or (earliest n (λ j. awaited (history ++ entry ∷ []) j cell)) (cond b (Some (suc n)) None)) (awaited_last setting history entry cell legal)
        ∙ ap (λ o. option_or o (cond (starts_for cell entry) (Some (suc n)) None)) (earliest_agree n (λ j. awaited (history ++ entry ∷ []) j cell) (λ j. awaited history j cell && not (ends j entry)) (λ k l. awaited_on history entry cell k l f))
