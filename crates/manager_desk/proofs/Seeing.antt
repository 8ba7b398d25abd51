-- What flies, what is awaited and what was evicted, as entries are added to a history.
use Rattle.std.proofs.Common.{◌≡◌, refl, sym, ◌∙◌, ap, subst, ℕ, zero, suc, ◌<◌, ◌≤◌, List, [], ◌∷◌, ◌++◌, append_assoc, drop, length, take, filter, Bool, true, false, not, ◌==◌, ◌&&◌, ◌||◌, ◌⊎◌, inl, inr, Option, Some, None, arith, is_some, All, map}
use Rattle.std.specs.List.{AllZip, list_any}
use Rattle.std.proofs.lemmas.Bool.{both_ways, and_parts, and_from, eqb-true, eq-eqb, or_cases, or_left, or_right, not-true, not_from_false, false_from_ne_true}
use Rattle.std.proofs.lemmas.List.{append-nil, length-append, take-append-drop}
use Rattle.std.proofs.lemmas.List.Elements.{All-cons, All-head, All-nil, All-tail}
use Rattle.std.proofs.lemmas.List.Folds.{list_any-append}
use Rattle.olap_meaning.specs.declared.cells.Cell.{Cell}
use Rattle.olap_meaning.specs.declared.cells.Header.{Header}
use Rattle.olap_meaning.specs.declared.tables.Catalog.{Catalog}
use Rattle.olap_meaning.specs.declared.tables.Setting.{Setting}
use Rattle.olap_meaning.specs.Covering.{among}
use Rattle.olap_meaning.specs.History.{Entry, Append, Agg, Flush, Start, Done, Drop, Evict, Answer, Saw, Load, awaited, awaited_load, entry_at, ends, evicts, flushed_after, flying, load_at, load_just_covers, started}
use Rattle.olap_meaning.specs.Legal.{IsLegalEviction, Legal, has_source}
use Rattle.olap_meaning.proofs.Earliest.{none_earliest}
use Rattle.olap_meaning.proofs.Evicting.{kept_within, oldest_is_least}
use Rattle.olap_meaning.proofs.Loads.{load_start, start_load}
use Rattle.olap_meaning.proofs.Members.{filter_member, none_in}
use Rattle.olap_meaning.proofs.Positions.{after_passes, entry_within, get_push}
use Rattle.olap_meaning.proofs.Pushes.{eviction_of, flying_back, front_legal}
use Rattle.segment_header.specs.Widening.{Allowing, Serves}
use Rattle.segment_load.specs.Loads.{JobOf}
use Rattle.history_core.specs.Answers.{Waits}
use Rattle.history_core.specs.Cache.{CacheOf}
use Rattle.history_core.specs.Groups.{AreHeadersFor, IsHeaderFor, alike, awaited_loads, firsts, numbers_from, wanting}
use Rattle.history_core.specs.Seats.{NoneFlies}
use Rattle.cache_manager.specs.Jobs.{apart}
use Rattle.std.specs.Prelude.{Contains}

-- entries that start no load leave nothing flying that did not fly
pub still_idle : (before after : List Entry) (entry : Entry) → started entry ≡ None → after ≡ before ++ entry ∷ [] → NoneFlies before → NoneFlies after
still_idle before after entry none grown idle j =
    false_from_ne_true _
    (λ h.
    elim (flying_back before entry j (ap (λ (es : List Entry). flying es j) (sym grown) ∙ h)).1 [
      | inl old ↦ both_ways _ (idle j) old
      | inr new ↦ let quiet : is_some (started entry) ≡ false = ap is_some none in both_ways _ quiet new.1
    ])

pub idle_on : (before more : List Entry) → All (λ e. started e ≡ None) more → NoneFlies before → NoneFlies (before ++ more)
idle_on before [] none idle = subst NoneFlies (sym (append-nil before)) idle
idle_on before (e ∷ es) none idle =
    subst NoneFlies (append_assoc before (e ∷ []) es)
    (idle_on (before ++ e ∷ []) es (All-tail (λ o. started o ≡ None) e es none) (still_idle before (before ++ e ∷ []) e (All-head (λ o. started o ≡ None) e es none) refl idle))

-- where no load flies, none is awaited
pub none_awaited : (entries : List Entry) (cell : Cell) → NoneFlies entries → awaited_load entries cell ≡ None
none_awaited entries cell idle =
    none_earliest (length entries) (λ j. awaited entries j cell)
    (λ j one within. false_from_ne_true _ (λ h. both_ways _ (idle j) (and_parts (flying entries j) (load_just_covers entries j cell) (and_parts (flying entries j && load_just_covers entries j cell) (not (flushed_after entries j cell)) h).0).0))

pub no_loads_awaited : (entries : List Entry) (cells : List Cell) → NoneFlies entries → awaited_loads entries cells ≡ []
no_loads_awaited entries [] idle = refl
no_loads_awaited entries (cell ∷ cells) idle = rw (none_awaited entries cell idle) (no_loads_awaited entries cells idle)

-- and no cell waits
pub none_waits : (cache : CacheOf) (cells : List Cell) (loads : List ℕ) → NoneFlies cache.entries → Waits cache cells loads → ⊥
none_waits cache cells loads idle waits =
    let cell = waits.some.0 in
    let unserved : Contains (wanting cache.setting.catalog cache.entries cells) cell =
    filter_member (λ c. not (has_source cache.setting.catalog cache.entries c)) cells cell waits.some.1 (not_from_false _ waits.some.2) in
    let free : not (is_some (awaited_load cache.entries cell)) ≡ true = ap (λ (o : Option ℕ). not (is_some o)) (none_awaited cache.entries cell idle) in
    let wants = filter_member (λ c. not (is_some (awaited_load cache.entries c))) (wanting cache.setting.catalog cache.entries cells) cell unserved free in
    none_in cell (subst (λ (cs : List Cell). Contains cs cell) waits.served wants)

-- a load past the end of a legal history was not evicted in it
pub later_unevicted : (setting : Setting) (history : List Entry) (j : ℕ) → Legal setting history → length history < j → list_any (evicts j) history ≡ false
later_unevicted setting history j legal late = false_from_ne_true _ some
  where
    at : (q : ℕ) (e : Entry) → entry_at history q ≡ Some e → evicts j e ≡ true → ⊥
    at zero e here d = absurd (cc)
    at (suc b) e here d =
        let step : IsLegalEviction setting (take b history) j = legal b (Evict j) (here ∙ ap Some (eviction_of j e d)) in
        let within = kept_within setting (take b history) (front_legal setting history legal b) j ((oldest_is_least setting (take b history) j (front_legal setting history legal b)).0 step.oldest).is_kept in
        let whole : length (take b history ++ drop b history) ≡ length history = ap (λ (es : List Entry). length es) (take-append-drop b history) in
        let parts = length-append (take b history) (drop b history) in
        omega (arith, late, within.1, whole, parts)

    some : list_any (evicts j) history ≡ true → ⊥
    some h =
        let found : (q : ℕ) × (e : Entry) × (entry_at history q ≡ Some e) × (0 < q) × (evicts j e ≡ true) = after_passes (evicts j) 0 history h in
        at found.0 found.1 found.2 found.4

-- what holds of each eviction holds of them all
pub all_evictions : (P : Entry → Type 0) → ((j : ℕ) → P (Evict j)) → (js : List ℕ) → All P (map Evict js)
all_evictions P each [] = All-nil P
all_evictions P each (j ∷ js) = All-cons P (Evict j) (map Evict js) (each j) (all_evictions P each js)

-- whatever allows the values of headers, they serve
pub serving_headers : (allowing : Allowing) (catalog : Catalog) (wanted : List Cell) (headers : List Header) → AreHeadersFor allowing catalog wanted headers → AreHeadersFor Serves catalog wanted headers
serving_headers allowing catalog wanted headers own = by (firsts [] wanted) headers own
  where
    one : (first : Cell) (cells : List Cell) (header : Header) → IsHeaderFor allowing catalog first cells header → IsHeaderFor Serves catalog first cells header
    one first cells header is = record { cube = is.cube; measure = is.measure; columns = is.columns; allowed = is.serves; serves = is.serves }

    by :
        (cs : List Cell) (hs : List Header) → AllZip (λ c h. IsHeaderFor allowing catalog c (filter (alike c) wanted) h) cs hs
        → AllZip (λ c h. IsHeaderFor Serves catalog c (filter (alike c) wanted) h) cs hs
    by [] [] all = tt
    by [] (h ∷ hs) all = absurd all
    by (c ∷ cs) [] all = absurd all
    by (c ∷ cs) (h ∷ hs) all = (one c (filter (alike c) wanted) h all.0, by cs hs all.1)

-- the other jobs have other loads, where a load is not among theirs
pub other_loads : (v : ℕ) (jobs : List JobOf) → among (map (λ job. job.load) jobs) v ≡ false → All (λ job. (v == job.load) ≡ false) jobs
other_loads v [] none = All-nil (λ job. (v == job.load) ≡ false)
other_loads v (x ∷ xs) none =
    All-cons (λ job. (v == job.load) ≡ false) x xs
    (false_from_ne_true (v == x.load) (λ h. both_ways _ none (or_left (x.load == v) (among (map (λ job. job.load) xs) v) (eq-eqb x.load v (sym (eqb-true v x.load h))))))
    (other_loads v xs (false_from_ne_true _ (λ h. both_ways _ none (or_right (x.load == v) (among (map (λ job. job.load) xs) v) h))))

-- numbers from one on are all different
above_numbers : (v first count : ℕ) → v < first → among (numbers_from first count) v ≡ false
above_numbers v first zero l = refl
above_numbers v first (suc count) l = false_from_ne_true _ (λ h. elim (or_cases (first == v) (among (numbers_from (suc first) count) v) h) [
  | inl here ↦ let e : first ≡ v = eqb-true first v here in omega (arith, e, l)
  | inr there ↦ both_ways _ (above_numbers v (suc first) count (omega (arith, l))) there
])

pub apart_numbers : (first count : ℕ) → apart (numbers_from first count) ≡ true
apart_numbers first zero = refl
apart_numbers first (suc count) = and_from _ _ (not_from_false _ (above_numbers first (suc first) count (omega arith))) (apart_numbers (suc first) count)

-- numbers that are among those from one on are no less
pub numbers_above : (first count v : ℕ) → among (numbers_from first count) v ≡ true → first ≤ v
numbers_above first zero v h = absurd (cc)
numbers_above first (suc count) v h = elim (or_cases (first == v) (among (numbers_from (suc first) count) v) h) [
  | inl here ↦ let e : first ≡ v = eqb-true first v here in omega (arith, e)
  | inr there ↦ let l : suc first ≤ v = numbers_above (suc first) count v there in omega (arith, l)
]
