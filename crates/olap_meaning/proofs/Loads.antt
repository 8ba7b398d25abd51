-- What `live` and its parts tell, and how a longer history keeps them.
use Rattle.std.proofs.Common.{◌≡◌, refl, sym, ◌∙◌, ap, ℕ, suc, ◌+◌, ◌<◌, ◌≤◌, List, [], ◌∷◌, ◌++◌, length, drop, Bool, true, false, not, ◌&&◌, Option, Some, None, arith, option_and_then}
use Rattle.std.specs.List.{list_any}
use Rattle.std.proofs.lemmas.Bool.{both_ways, and_parts, and_from, or_left, or_from, not-true, not_from_false, eqb-true, false_from_ne_true}
use Rattle.std.proofs.lemmas.List.{drop-append-le, length_push}
use Rattle.std.proofs.lemmas.List.Folds.{list_any-append}
use Rattle.olap_meaning.specs.declared.cells.Cell.{Cell}
use Rattle.olap_meaning.specs.declared.cells.Header.{Header}
use Rattle.olap_meaning.specs.declared.cells.Who.{Who}
use Rattle.olap_meaning.specs.declared.regions.Region.{Region}
use Rattle.olap_meaning.specs.Covering.{header_covers, region_covers}
use Rattle.olap_meaning.specs.History.{Entry, Append, Agg, Flush, Start, Done, Drop, Evict, Answer, Saw, Load, entry_at, is_some_and, started, load_at, load_covers, flushes, flushed_after, kept, live, delivered, delivers, evicts}
use Rattle.olap_meaning.specs.Laws.{FlushesShutOff, OthersServeOn}
use Rattle.olap_meaning.proofs.Positions.{entry-append, entry_within, passes_after, get_last}

pub some_and : {A : Type 0} (test : A → Bool) (o : Option A) → is_some_and test o ≡ true → (x : A) × (o ≡ Some x) × (test x ≡ true)
some_and test None h = absurd (cc)
some_and test (Some x) h = (x, refl, h)

started_is : (e : Entry) (load : Load) → started e ≡ Some load → e ≡ Start load
started_is (Append w c v r) load h = absurd (cc)
started_is (Agg w t v) load h = absurd (cc)
started_is (Flush w r) load h = absurd (cc)
started_is (Start l) load h = cc
started_is (Done w j) load h = absurd (cc)
started_is (Drop w j) load h = absurd (cc)
started_is (Evict j) load h = absurd (cc)
started_is (Answer w cs) load h = absurd (cc)
started_is (Saw w) load h = absurd (cc)

start_of : (o : Option Entry) (load : Load) → option_and_then started o ≡ Some load → o ≡ Some (Start load)
start_of None load h = absurd (cc)
start_of (Some e) load h = ap Some (started_is e load h)

-- a load stands at its Start
pub load_start : (history : List Entry) (j : ℕ) (load : Load) → load_at history j ≡ Some load → entry_at history j ≡ Some (Start load)
load_start history j load h = start_of (entry_at history j) load h

pub start_load : (history : List Entry) (j : ℕ) (load : Load) → entry_at history j ≡ Some (Start load) → load_at history j ≡ Some load
start_load history j load h = ap (option_and_then started) h

-- the parts of kept
pub kept_parts : (history : List Entry) (j : ℕ) → kept history j ≡ true → (delivered history j ≡ true) × (list_any (evicts j) history ≡ false)
kept_parts history j h = let both : (delivered history j ≡ true) × (not (list_any (evicts j) history) ≡ true) = and_parts (delivered history j) (not (list_any (evicts j) history)) h in (both.0, not-true (list_any (evicts j) history) both.1)

pub kept_from : (history : List Entry) (j : ℕ) → delivered history j ≡ true → list_any (evicts j) history ≡ false → kept history j ≡ true
kept_from history j came stays = and_from (delivered history j) (not (list_any (evicts j) history)) came (not_from_false (list_any (evicts j) history) stays)

-- the parts of live
pub live_parts : (history : List Entry) (j : ℕ) (cell : Cell) → live history j cell ≡ true → (kept history j ≡ true) × (load_covers history j cell ≡ true) × (flushed_after history j cell ≡ false)
live_parts history j cell h =
    let both : ((kept history j && load_covers history j cell) ≡ true) × (not (flushed_after history j cell) ≡ true) = and_parts (kept history j && load_covers history j cell) (not (flushed_after history j cell)) h in
    let front : (kept history j ≡ true) × (load_covers history j cell ≡ true) = and_parts (kept history j) (load_covers history j cell) both.0 in
    (front.0, front.1, not-true (flushed_after history j cell) both.1)

-- the load that is live
pub live_load : (history : List Entry) (j : ℕ) (cell : Cell) → live history j cell ≡ true → (load : Load) × (load_at history j ≡ Some load) × (header_covers load.header cell ≡ true)
live_load history j cell h = some_and (λ load. header_covers load.header cell) (load_at history j) (live_parts history j cell h).1

pub covered_cube : (header : Header) (cell : Cell) → header_covers header cell ≡ true → header.cube ≡ cell.cube
covered_cube header cell h = eqb-true header.cube cell.cube (and_parts _ _ (and_parts _ _ h).0).0

-- a covering flush at the end stands after every load
pub flushed_last : (history : List Entry) (who : Who) (region : Region) (cell : Cell) (j : ℕ) (load : Load) → region_covers region cell ≡ true → load_at (history ++ Flush who region ∷ []) j ≡ Some load → flushed_after (history ++ Flush who region ∷ []) j cell ≡ true
flushed_last history who region cell j load covers at = passes_after (flushes cell) j after (suc (length history)) (Flush who region) at_end before covers
  where
    after : List Entry
    after = history ++ Flush who region ∷ []

    at_end : entry_at after (suc (length history)) ≡ Some (Flush who region)
    at_end = get_last history (Flush who region)

    clash : entry_at after (suc (length history)) ≡ Some (Start load) → ⊥
    clash e = cc (at_end)

    before : j < suc (length history)
    before =
        let start : entry_at after j ≡ Some (Start load) = load_start after j load at in
        let bounds : (1 ≤ j) × (j ≤ length after) = entry_within after j (Start load) start in
        let long : length after ≡ length history + 1 = length_push history (Flush who region) in
        let last : j ≡ suc (length history) → ⊥ = λ same. clash (ap (entry_at after) (sym same) ∙ start) in
        omega (arith, last, bounds.1, long)

pub flush_shuts_off : FlushesShutOff
flush_shuts_off history who region cell j covers = false_from_ne_true (live (history ++ Flush who region ∷ []) j cell) not_live
  where
    not_live : live (history ++ Flush who region ∷ []) j cell ≡ true → ⊥
    not_live h =
        let l : (load : Load) × (load_at (history ++ Flush who region ∷ []) j ≡ Some load) × (header_covers load.header cell ≡ true) = live_load (history ++ Flush who region ∷ []) j cell h in
        both_ways (flushed_after (history ++ Flush who region ∷ []) j cell) (live_parts (history ++ Flush who region ∷ []) j cell h).2 (flushed_last history who region cell j l.0 covers l.1)

-- an entry that flushes nothing of a cell and does not evict a load leaves the load live for it, if it was
pub live_on : (history : List Entry) (entry : Entry) (cell : Cell) (j : ℕ) → flushes cell entry ≡ false → evicts j entry ≡ false → live history j cell ≡ true → live (history ++ entry ∷ []) j cell ≡ true
live_on history entry cell j misses stays h =
    and_from (kept after j && load_covers after j cell) (not (flushed_after after j cell))
    (and_from (kept after j) (load_covers after j cell) kept_on covers_on)
    (not_from_false (flushed_after after j cell) not_flushed)
  where
    after : List Entry
    after = history ++ entry ∷ []

    parts : (kept history j ≡ true) × (load_covers history j cell ≡ true) × (flushed_after history j cell ≡ false)
    parts = live_parts history j cell h

    load : (load : Load) × (load_at history j ≡ Some load) × (header_covers load.header cell ≡ true)
    load = live_load history j cell h

    start : entry_at history j ≡ Some (Start load.0)
    start = load_start history j load.0 load.1

    kept_on : kept after j ≡ true
    kept_on =
        let both : (delivered history j ≡ true) × (list_any (evicts j) history ≡ false) = kept_parts history j parts.0 in
        kept_from after j (list_any-append (delivers j) history (entry ∷ []) ∙ or_left _ _ both.0) (list_any-append (evicts j) history (entry ∷ []) ∙ or_from _ _ both.1 (or_from _ _ stays refl))

    covers_on : load_covers after j cell ≡ true
    covers_on = ap (is_some_and (λ l. header_covers l.header cell)) (start_load after j load.0 (entry-append history (entry ∷ []) j (Start load.0) start)) ∙ load.2

    not_flushed : flushed_after after j cell ≡ false
    not_flushed =
        ap (list_any (flushes cell)) (drop-append-le j history (entry ∷ []) (entry_within history j (Start load.0) start).1)
        ∙ list_any-append (flushes cell) (drop j history) (entry ∷ [])
        ∙ or_from _ _ parts.2 (or_from _ _ misses refl)

pub others_serve_on : OthersServeOn
others_serve_on history who region cell j misses h = live_on history (Flush who region) cell j misses refl h
