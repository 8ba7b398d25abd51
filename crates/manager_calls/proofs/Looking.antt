-- Looks of a run: what they evict, and how many loads they start.
use Rattle.std.proofs.Common.{◌≡◌, refl, sym, ◌∙◌, ap, subst, ℕ, zero, suc, ◌+◌, ◌<◌, ◌≤◌, drop, take, List, [], ◌∷◌, ◌++◌, length, map, filter, Bool, true, false, not, Option, Some, None, arith}
use Rattle.std.specs.Prelude.{Result, Ok, Err, OnOk, filter_map, is_err, is_some, option_to_list}
use Rattle.std.specs.Option.{option_and_then}
use Rattle.std.specs.List.{list_all, list_any}
use Rattle.std.proofs.lemmas.Bool.{both_ways}
use Rattle.std.proofs.lemmas.List.{length-map}
use Rattle.olap_meaning.specs.declared.cells.Cell.{Cell}
use Rattle.olap_meaning.specs.History.{Entry, Evict, awaited_load, ends, entry_at}
use Rattle.olap_meaning.specs.Legal.{caller, has_source}
use Rattle.history_core.specs.Cache.{CacheOf}
use Rattle.history_core.specs.Groups.{alike, firsts, load_count, numbers_from, wanted_of, wanting}
use Rattle.segment_load.specs.Loads.{JobOf}
use Rattle.manager_calls.specs.Runs.{evicted_load, is_below}

-- evictions end no load
pub no_end_evicts : (j : ℕ) (loads : List ℕ) → list_any (ends j) (map Evict loads) ≡ false
no_end_evicts j [] = refl
no_end_evicts j (load ∷ loads) = no_end_evicts j loads

-- and are no calls
pub evicts_below : (n : ℕ) (loads : List ℕ) → list_all (λ e. is_below n (caller e)) (map Evict loads) ≡ true
evicts_below n [] = refl
evicts_below n (load ∷ loads) = evicts_below n loads

taken_next : (es : List Entry) (n : ℕ) → n < length es → filter_map evicted_load (take (suc n) es) ≡ filter_map evicted_load (take n es) ++ option_to_list (option_and_then evicted_load (entry_at es (suc n)))
taken_next [] n l = absurd (omega (arith, l))
taken_next (e ∷ es) zero l = by (evicted_load e) refl
  where
    by : (o : Option ℕ) → evicted_load e ≡ o → filter_map evicted_load (e ∷ []) ≡ [] ++ option_to_list (evicted_load e)
    by None at = rw at refl
    by (Some x) at = rw at refl
taken_next (e ∷ es) (suc n) l = by (evicted_load e) refl (taken_next es n (omega (arith, l)))
  where
    Next : List Entry → List Entry → Type 0
    Next more fewer = filter_map evicted_load more ≡ filter_map evicted_load fewer ++ option_to_list (option_and_then evicted_load (entry_at es (suc n)))

    by : (o : Option ℕ) → evicted_load e ≡ o → Next (take (suc n) es) (take n es) → Next (e ∷ take (suc n) es) (e ∷ take n es)
    by None at rest = rw at rest
    by (Some x) at rest = rw at (ap (λ ys. x ∷ ys) rest)

dropped_next : (es : List Entry) (p n : ℕ) → p ≤ n → n < length es → filter_map evicted_load (drop p (take (suc n) es)) ≡ filter_map evicted_load (drop p (take n es)) ++ option_to_list (option_and_then evicted_load (entry_at es (suc n)))
dropped_next es zero n m l = taken_next es n l
dropped_next [] (suc p) n m l = absurd (omega (arith, l))
dropped_next (e ∷ es) (suc p) zero m l = absurd (omega (arith, m))
dropped_next (e ∷ es) (suc p) (suc n) m l = dropped_next es p n (omega (arith, m)) (omega (arith, l))

-- the loads that were evicted after a position, with one entry more
pub evicted_next : (es : List Entry) (p n : ℕ) → p ≤ n → n < length es → filter_map evicted_load (drop p (take (n + 1) es)) ≡ filter_map evicted_load (drop p (take n es)) ++ option_to_list (option_and_then evicted_load (entry_at es (n + 1)))
evicted_next es p n m l =
    let one : suc n ≡ n + 1 = omega arith in
    subst (λ (k : ℕ). filter_map evicted_load (drop p (take k es)) ≡ filter_map evicted_load (drop p (take n es)) ++ option_to_list (option_and_then evicted_load (entry_at es k))) one (dropped_next es p n m l)

evictions : (loads : List ℕ) → filter_map evicted_load (map Evict loads) ≡ loads
evictions [] = refl
evictions (load ∷ loads) = ap (λ ls. load ∷ ls) (evictions loads)

after_entry : (es : List Entry) (entry : Entry) (later : List Entry) → drop (suc (length es)) (es ++ entry ∷ later) ≡ later
after_entry [] entry later = refl
after_entry (e ∷ es) entry later = after_entry es entry later

-- the loads that were evicted after an entry, where evictions alone came after it
pub evicted_are : (es : List Entry) (entry : Entry) (loads : List ℕ) (p : ℕ) → p ≡ length es + 1 → filter_map evicted_load (drop p (es ++ entry ∷ map Evict loads)) ≡ loads
evicted_are es entry loads p at =
    let here : p ≡ suc (length es) = omega (arith, at) in
    ap (λ (k : ℕ). filter_map evicted_load (drop k (es ++ entry ∷ map Evict loads))) here ∙ ap (filter_map evicted_load) (after_entry es entry (map Evict loads)) ∙ evictions loads

filter_shorter : {A : Type 0} (p : A → Bool) (xs : List A) → length (filter p xs) ≤ length xs
filter_shorter p [] = omega arith
filter_shorter p (x ∷ xs) = by (p x) refl (filter_shorter p xs)
  where
    by : (b : Bool) → p x ≡ b → length (filter p xs) ≤ length xs → length (filter p (x ∷ xs)) ≤ length (x ∷ xs)
    by true e rest = rw e (omega (arith, rest))
    by false e rest = rw e (omega (arith, rest))

firsts_fewer : (before cells : List Cell) → length (firsts before cells) ≤ length cells
firsts_fewer before [] = omega arith
firsts_fewer before (cell ∷ cells) = by (list_any (alike cell) before) refl (firsts_fewer before cells) (firsts_fewer (before ++ cell ∷ []) cells)
  where
    by : (b : Bool) → list_any (alike cell) before ≡ b → length (firsts before cells) ≤ length cells → length (firsts (before ++ cell ∷ []) cells) ≤ length cells
        → length (firsts before (cell ∷ cells)) ≤ length (cell ∷ cells)
    by true e out in_ = rw e (omega (arith, out))
    by false e out in_ = rw e (omega (arith, in_))

-- a look starts no more loads than it has cells
pub loads_fewer : (cache : CacheOf) (cells : List Cell) → load_count cache cells ≤ length cells
loads_fewer cache cells =
    let groups = firsts_fewer [] (wanted_of cache cells) in
    let unawaited = filter_shorter (λ cell. not (is_some (awaited_load cache.entries cell))) (wanting cache.setting.catalog cache.entries cells) in
    let unserved = filter_shorter (λ cell. not (has_source cache.setting.catalog cache.entries cell)) cells in
    omega (arith, groups, unawaited, unserved)

numbers_count : (first count : ℕ) → length (numbers_from first count) ≡ count
numbers_count first zero = refl
numbers_count first (suc count) = let rest = numbers_count (suc first) count in omega (arith, rest)

-- how many jobs a look hands out
pub jobs_count : (jobs : List JobOf) (first count : ℕ) → map (λ job. job.load) jobs ≡ numbers_from first count → length jobs ≡ count
jobs_count jobs first count numbers = sym (length-map jobs (λ job. job.load)) ∙ ap length numbers ∙ numbers_count first count

-- what holds where there is a value
pub on_ok : {T E P : Type 0} (r : Result T E) → is_err r ≡ false → OnOk r P → P
on_ok (Ok x) none holds = holds
on_ok (Err y) none holds = absurd (both_ways _ none refl)
