-- One more entry in a history.
use Rattle.std.proofs.Common.{◌≡◌, refl, sym, ◌∙◌, ap, subst, ℕ, zero, suc, ◌+◌, ◌<◌, ◌≤◌, List, [], ◌∷◌, ◌++◌, drop, length, take, take_all, Bool, true, false, not, ◌||◌, ◌⊎◌, inl, inr, Option, Some, None, arith, is_some, option_and_then, option_to_list}
use Rattle.std.specs.List.{list_any}
use Rattle.std.proofs.lemmas.Bool.{both_ways, and_parts, and_from, eq-eqb, eqb-true, or_cases, or_left, or_right, or_from, not-true, not_from_false, false_from_ne_true}
use Rattle.std.proofs.lemmas.List.{append-nil, take-append-drop}
use Rattle.std.proofs.lemmas.List.Folds.{list_any-append}
use Rattle.olap_meaning.specs.declared.cells.Who.{Who}
use Rattle.olap_meaning.specs.declared.tables.Setting.{Setting}
use Rattle.olap_meaning.specs.declared.regions.Region.{Region}
use Rattle.olap_meaning.specs.Covering.{concerning}
use Rattle.olap_meaning.specs.History.{Entry, Append, Agg, Flush, Start, Done, Drop, Evict, Answer, Saw, Load, entry_at, started, load_at, delivered, delivers, ends, evicts, flushed, flying, kept, shutting, version}
use Rattle.olap_meaning.specs.Legal.{IsLegalEviction, Legal}
use Rattle.olap_meaning.proofs.Positions.{get_last, get_push, entry-append, entry_from-take, entry_within, after_passes, passes_after}
use Rattle.olap_meaning.proofs.Loads.{load_start, start_load}
use Rattle.olap_meaning.proofs.Shutting.{shutting_grows}
use Rattle.olap_meaning.proofs.Steps.{prefixes_are_legal}
use Rattle.olap_meaning.proofs.Evicting.{oldest_is_least}
use Rattle.olap_meaning.proofs.Versions.{versions_rise}
use Rattle.olap_meaning.proofs.Sources.{delivery_ends, unended}

-- a load that was started
pub some_load : (o : Option Load) → is_some o ≡ true → (load : Load) × (o ≡ Some load)
some_load None h = absurd (cc)
some_load (Some load) h = (load, refl)

pub load_within : (history : List Entry) (j : ℕ) (load : Load) → load_at history j ≡ Some load → (1 ≤ j) × (j ≤ length history)
load_within history j load at = entry_within history j (Start load) (load_start history j load at)

pub load_on : (history : List Entry) (entry : Entry) (j : ℕ) (load : Load) → load_at history j ≡ Some load → load_at (history ++ entry ∷ []) j ≡ Some load
load_on history entry j load at = start_load (history ++ entry ∷ []) j load (entry-append history (entry ∷ []) j (Start load) (load_start history j load at))

pub load_new :
    (history : List Entry) (entry : Entry) (j : ℕ) (load : Load) → load_at (history ++ entry ∷ []) j ≡ Some load
    → (load_at history j ≡ Some load) ⊎ ((j ≡ suc (length history)) × (started entry ≡ Some load))
load_new history entry zero load at = absurd (cc)
load_new history entry (suc i) load at =
    elim (get_push history entry i (Start load) (load_start (history ++ entry ∷ []) (suc i) load at)) [
      | inl stood ↦ inl (start_load history (suc i) load stood)
      | inr last ↦ inr (ap suc last.0, ap started (sym last.1))
    ]

pub load_last : (history : List Entry) (entry : Entry) → load_at (history ++ entry ∷ []) (suc (length history)) ≡ started entry
load_last history entry = ap (option_and_then started) (get_last history entry)

pub any_more : (test : Entry → Bool) (history : List Entry) (entry : Entry) → list_any test (history ++ entry ∷ []) ≡ (list_any test history || (test entry || false))
any_more test history entry = list_any-append test history (entry ∷ [])

pub any_on : (test : Entry → Bool) (history : List Entry) (entry : Entry) → list_any test history ≡ true → list_any test (history ++ entry ∷ []) ≡ true
any_on test history entry h = any_more test history entry ∙ or_left _ _ h

pub any_last : (test : Entry → Bool) (history : List Entry) (entry : Entry) → test entry ≡ true → list_any test (history ++ entry ∷ []) ≡ true
any_last test history entry h = any_more test history entry ∙ or_right _ _ (or_left _ _ h)

pub any_none : (test : Entry → Bool) (history : List Entry) (entry : Entry) → list_any test history ≡ false → test entry ≡ false → list_any test (history ++ entry ∷ []) ≡ false
any_none test history entry h e = any_more test history entry ∙ or_from _ _ h (or_from _ _ e refl)

pub any_back : (test : Entry → Bool) (history : List Entry) (entry : Entry) → list_any test (history ++ entry ∷ []) ≡ true → (list_any test history ≡ true) ⊎ (test entry ≡ true)
any_back test history entry h = elim (or_cases _ _ (sym (any_more test history entry) ∙ h)) [
  | inl e ↦ inl e
  | inr e ↦ elim (or_cases _ _ e) [ inl t ↦ inr t | inr f ↦ absurd (cc) ]
]

pub flying_parts : (history : List Entry) (j : ℕ) → flying history j ≡ true → (load : Load) × (load_at history j ≡ Some load) × (list_any (ends j) history ≡ false)
flying_parts history j h =
    let parts = and_parts (is_some (load_at history j)) (not (list_any (ends j) history)) h in
    let load = some_load (load_at history j) parts.0 in
    (load.0, load.1, not-true _ parts.1)

pub flying_from : (history : List Entry) (j : ℕ) (load : Load) → load_at history j ≡ Some load → list_any (ends j) history ≡ false → flying history j ≡ true
flying_from history j load at none = and_from (is_some (load_at history j)) (not (list_any (ends j) history)) (ap is_some at) (not_from_false _ none)

pub flying_on : (history : List Entry) (entry : Entry) (j : ℕ) → flying history j ≡ true → ends j entry ≡ false → flying (history ++ entry ∷ []) j ≡ true
flying_on history entry j h e =
    let parts = flying_parts history j h in
    flying_from (history ++ entry ∷ []) j parts.0 (load_on history entry j parts.0 parts.1) (any_none (ends j) history entry parts.2 e)

-- what flies then flew before, or was just started
pub flying_back :
    (history : List Entry) (entry : Entry) (j : ℕ) → flying (history ++ entry ∷ []) j ≡ true
    → (ends j entry ≡ false) × ((flying history j ≡ true) ⊎ ((j ≡ suc (length history)) × (is_some (started entry) ≡ true)))
flying_back history entry j h =
    let parts = flying_parts (history ++ entry ∷ []) j h in
    let unended : list_any (ends j) history ≡ false = false_from_ne_true _ (λ e. both_ways _ parts.2 (any_on (ends j) history entry e)) in (
      false_from_ne_true _ (λ e. both_ways _ parts.2 (any_last (ends j) history entry e)),
      elim (load_new history entry j parts.0 parts.1) [
        | inl at ↦ inl (flying_from history j parts.0 at unended)
        | inr new ↦ inr (new.0, ap is_some new.1)
      ],
    )

-- what is kept stays kept, where it is not evicted
pub kept_stays : (history : List Entry) (entry : Entry) (j : ℕ) → evicts j entry ≡ false → kept history j ≡ true → kept (history ++ entry ∷ []) j ≡ true
kept_stays history entry j none h =
    let parts = and_parts (delivered history j) (not (list_any (evicts j) history)) h in
    and_from (delivered (history ++ entry ∷ []) j) (not (list_any (evicts j) (history ++ entry ∷ []))) (any_on (delivers j) history entry parts.0)
    (not_from_false _ (any_none (evicts j) history entry (not-true _ parts.1) none))

-- what is kept then was kept before, or was just delivered
pub kept_back : (history : List Entry) (entry : Entry) (j : ℕ) → kept (history ++ entry ∷ []) j ≡ true → (kept history j ≡ true) ⊎ (delivers j entry ≡ true)
kept_back history entry j h =
    let parts = and_parts (delivered (history ++ entry ∷ []) j) (not (list_any (evicts j) (history ++ entry ∷ []))) h in
    let stays : list_any (evicts j) history ≡ false = false_from_ne_true _ (λ e. both_ways _ (not-true _ parts.1) (any_on (evicts j) history entry e)) in
    elim (any_back (delivers j) history entry parts.0) [
      | inl old ↦ inl (and_from (delivered history j) (not (list_any (evicts j) history)) old (not_from_false _ stays))
      | inr new ↦ inr new
    ]

-- each front of a legal history is legal
pub front_legal : (setting : Setting) (history : List Entry) → Legal setting history → (b : ℕ) → Legal setting (take b history)
front_legal setting history legal b = prefixes_are_legal setting (take b history) (drop b history) (subst (Legal setting) (sym (take-append-drop b history)) legal)

-- what evicts a load is its eviction
pub eviction_of : (j : ℕ) (e : Entry) → evicts j e ≡ true → e ≡ Evict j
eviction_of j (Append w c v r) d = absurd (cc)
eviction_of j (Agg w t v) d = absurd (cc)
eviction_of j (Flush w r) d = absurd (cc)
eviction_of j (Start l) d = absurd (cc)
eviction_of j (Done w k) d = absurd (cc)
eviction_of j (Drop w k) d = absurd (cc)
eviction_of j (Evict k) d = ap Evict (eqb-true k j d)
eviction_of j (Answer w cs) d = absurd (cc)
eviction_of j (Saw w) d = absurd (cc)

-- in a legal history a load that was evicted was delivered before
pub evicted_ended : (setting : Setting) (history : List Entry) → Legal setting history → (j : ℕ) → list_any (evicts j) history ≡ true → flying history j ≡ false
evicted_ended setting history legal j h =
    let found : (q : ℕ) × (e : Entry) × (entry_at history q ≡ Some e) × (0 < q) × (evicts j e ≡ true) = after_passes (evicts j) 0 history h in
    at found.0 found.1 found.2 found.4
  where
    at : (q : ℕ) (e : Entry) → entry_at history q ≡ Some e → evicts j e ≡ true → flying history j ≡ false
    at zero e here d = absurd (cc)
    at (suc b) e here d =
        let step : IsLegalEviction setting (take b history) j = legal b (Evict j) (here ∙ ap Some (eviction_of j e d)) in
        let was : kept (take b history) j ≡ true = ((oldest_is_least setting (take b history) j (front_legal setting history legal b)).0 step.oldest).is_kept in
        let came : list_any (delivers j) (take b history) ≡ true = (and_parts (delivered (take b history) j) (not (list_any (evicts j) (take b history))) was).0 in
        let some = after_passes (delivers j) 0 (take b history) came in
        let stood = entry_from-take b history some.0 some.1 some.2 in
        let ended : list_any (ends j) history ≡ true = passes_after (ends j) 0 history some.0 some.1 stood.0 some.3 (delivery_ends j some.1 some.4) in
        false_from_ne_true _ (λ flies. both_ways _ (flying_parts history j flies).2 ended)

-- what is delivered is kept
pub kept_new : (setting : Setting) (history : List Entry) (who : Who) (j : ℕ) → Legal setting history → flying history j ≡ true → kept (history ++ Done who j ∷ []) j ≡ true
kept_new setting history who j legal flies =
    and_from (delivered (history ++ Done who j ∷ []) j) (not (list_any (evicts j) (history ++ Done who j ∷ []))) (any_last (delivers j) history (Done who j) (eq-eqb j j refl))
    (not_from_false _ (any_none (evicts j) history (Done who j) (false_from_ne_true _ (λ h. both_ways _ (evicted_ended setting history legal j h) flies)) refl))

-- what was delivered does not fly
pub kept_landed : (history : List Entry) (j : ℕ) → kept history j ≡ true → flying history j ≡ false
kept_landed history j h = false_from_ne_true _ (λ flies. both_ways _ (flying_parts history j flies).2 (ended history ((and_parts (delivered history j) (not (list_any (evicts j) history)) h).0)))
  where
    one : (e : Entry) → delivers j e ≡ true → ends j e ≡ true
    one (Append w c v r) d = absurd (cc)
    one (Agg w t v) d = absurd (cc)
    one (Flush w r) d = absurd (cc)
    one (Start l) d = absurd (cc)
    one (Done w k) d = d
    one (Drop w k) d = absurd (cc)
    one (Evict k) d = absurd (cc)
    one (Answer w cs) d = absurd (cc)
    one (Saw w) d = absurd (cc)

    ended : (es : List Entry) → list_any (delivers j) es ≡ true → list_any (ends j) es ≡ true
    ended [] d = absurd (cc)
    ended (e ∷ es) d = elim (or_cases (delivers j e) (list_any (delivers j) es) d) [ inl here ↦ or_left _ _ (one e here) | inr there ↦ or_right (ends j e) _ (ended es there) ]

-- what shuts off part of a load, where nothing is flushed
pub shutting_on : (history : List Entry) (entry : Entry) (j : ℕ) (load : Load) → load_at history j ≡ Some load → flushed entry ≡ None → shutting (history ++ entry ∷ []) j ≡ shutting history j
shutting_on history entry j load at none =
    shutting_grows history entry j load at ∙ ap (λ (o : Option Region). shutting history j ++ concerning load.header (option_to_list o)) none ∙ append-nil (shutting history j)

-- a load that is started flies
pub starts_flying : (setting : Setting) (history : List Entry) (load : Load) → Legal setting history → flying (history ++ Start load ∷ []) (suc (length history)) ≡ true
starts_flying setting history load legal =
    flying_from (history ++ Start load ∷ []) (suc (length history)) load (load_last history (Start load)) (any_none (ends (suc (length history))) history (Start load) (unended setting history legal) refl)

-- a load is of a version that its cube had
pub recorded : (setting : Setting) (history : List Entry) (j : ℕ) (load : Load) → Legal setting history → load_at history j ≡ Some load → load.version ≤ version history load.header.cube
recorded setting history zero load legal at = absurd (cc)
recorded setting history (suc b) load legal at =
    let start = load_start history (suc b) load at in
    let within = entry_within history (suc b) (Start load) start in
    let rising = versions_rise history load.header.cube b (length history) (omega (arith, within.1)) in
    let whole = ap (λ (entries : List Entry). version entries load.header.cube) (take_all (length history) history (omega arith)) in
    omega (arith, (legal b (Start load) start).present, rising, whole)
