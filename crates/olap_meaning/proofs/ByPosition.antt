-- The definitions agree with their forms by position.
use Rattle.std.proofs.Common.{◌≡◌, refl, ◌∙◌, ap, ℕ, ◌<◌, ◌≤◌, List, length, take, Bool, true, not, ◌&&◌, inl, inr, Option, Some, None, arith, unwrap_or, is_some, le_antisymm}
use Rattle.std.specs.List.{list_any}
use Rattle.std.proofs.lemmas.Bool.{both_ways, and_parts, and_from, not_from_false, false_from_ne_true, not-true, eqb-true, eq-eqb}
use Rattle.olap_meaning.specs.declared.cells.Who.{Who}
use Rattle.olap_meaning.specs.declared.cells.Cell.{Cell}
use Rattle.olap_meaning.specs.Covering.{header_covers, just_covers}
use Rattle.olap_meaning.specs.History.{Entry, Append, Agg, Flush, Start, Done, Drop, Evict, Answer, Saw, Load, entry_at, is_some_and, load_at, flushes, flushed_after, live, kept, delivered, delivers, evicts, awaited, flying, ends, load_covers, version, latest, exact_source, load_just_covers}
use Rattle.olap_meaning.specs.Equivalents.{IsGreatestFlushed, FloorIsGreatest, IsLive, LiveIsByPosition, IsAwaited, AwaitedIsByPosition, IsExactSource, ExactSourceIsGreatest}
use Rattle.olap_meaning.proofs.Positions.{passes_after, after_passes, latest_found, latest_bounds, entry_within}
use Rattle.olap_meaning.proofs.Loads.{some_and, kept_parts, kept_from, live_parts, live_load, load_start, start_load}
use Rattle.olap_meaning.proofs.Versions.{versions_rise}

delivery : (entry : Entry) (j : ℕ) → delivers j entry ≡ true → (who : Who) × (entry ≡ Done who j)
delivery (Append w c v r) j h = absurd (cc)
delivery (Agg w t v) j h = absurd (cc)
delivery (Flush w r) j h = absurd (cc)
delivery (Start l) j h = absurd (cc)
delivery (Done w k) j h = (w, ap (λ n. Done w n) (eqb-true k j h))
delivery (Drop w k) j h = absurd (cc)
delivery (Evict k) j h = absurd (cc)
delivery (Answer w cs) j h = absurd (cc)
delivery (Saw w) j h = absurd (cc)

pub from_live : (history : List Entry) (j : ℕ) (cell : Cell) → live history j cell ≡ true → IsLive history j cell
from_live history j cell h =
    let load : (load : Load) × (load_at history j ≡ Some load) × (header_covers load.header cell ≡ true) = live_load history j cell h in
    record {
      load = load.0;
      starts = load_start history j load.0 load.1;
      delivered = done (after_passes (delivers j) 0 history (kept_parts history j (live_parts history j cell h).0).0);
      unevicted = λ p entry at. false_from_ne_true _ (λ e. both_ways _ (kept_parts history j (live_parts history j cell h).0).1 (passes_after (evicts j) 0 history p entry at (omega (arith, (entry_within history p entry at).0)) e));
      covers = load.2;
      unflushed = λ p entry l at. false_from_ne_true _ (λ f. both_ways _ (live_parts history j cell h).2 (passes_after (flushes cell) j history p entry at l f));
    }
  where
    done : (q : ℕ) × (e : Entry) × (entry_at history q ≡ Some e) × (0 < q) × (delivers j e ≡ true) → (p : ℕ) × (who : Who) × (entry_at history p ≡ Some (Done who j))
    done found = let d : (who : Who) × (found.1 ≡ Done who j) = delivery found.1 j found.4 in (found.0, d.0, found.2 ∙ ap Some d.1)

pub to_live : (history : List Entry) (j : ℕ) (cell : Cell) → IsLive history j cell → live history j cell ≡ true
to_live history j cell is =
    and_from (kept history j && load_covers history j cell) (not (flushed_after history j cell))
    (and_from (kept history j) (load_covers history j cell)
    (kept_from history j came (false_from_ne_true _ stays))
    (ap (is_some_and (λ load. header_covers load.header cell)) (start_load history j is.load is.starts) ∙ is.covers))
    (not_from_false (flushed_after history j cell) (false_from_ne_true _ none))
  where
    came : delivered history j ≡ true
    came = passes_after (delivers j) 0 history is.delivered.0 (Done is.delivered.1 j) is.delivered.2 (omega (arith, (entry_within history is.delivered.0 (Done is.delivered.1 j) is.delivered.2).0)) (eq-eqb j j refl)

    stays : list_any (evicts j) history ≡ true → ⊥
    stays f =
        let found : (q : ℕ) × (e : Entry) × (entry_at history q ≡ Some e) × (0 < q) × (evicts j e ≡ true) = after_passes (evicts j) 0 history f in
        both_ways _ (is.unevicted found.0 found.1 found.2) found.4

    none : flushed_after history j cell ≡ true → ⊥
    none f =
        let found : (q : ℕ) × (e : Entry) × (entry_at history q ≡ Some e) × (j < q) × (flushes cell e ≡ true) = after_passes (flushes cell) j history f in
        both_ways _ (is.unflushed found.0 found.1 found.3 found.2) found.4

pub live_is_by_position : LiveIsByPosition
live_is_by_position history j cell = (from_live history j cell, to_live history j cell)

pub from_awaited : (history : List Entry) (j : ℕ) (cell : Cell) → awaited history j cell ≡ true → IsAwaited history j cell
from_awaited history j cell h =
    let both : ((flying history j && load_just_covers history j cell) ≡ true) × (not (flushed_after history j cell) ≡ true) = and_parts _ _ h in
    let front : (flying history j ≡ true) × (load_just_covers history j cell ≡ true) = and_parts _ _ both.0 in
    let load : (load : Load) × (load_at history j ≡ Some load) × (just_covers load.header cell ≡ true) = some_and (λ load. just_covers load.header cell) (load_at history j) front.1 in
    record {
      load = load.0;
      starts = load_start history j load.0 load.1;
      unended = λ p entry at. false_from_ne_true _ (λ e. both_ways _ (not-true _ (and_parts _ _ front.0).1) (passes_after (ends j) 0 history p entry at (omega (arith, (entry_within history p entry at).0)) e));
      covers = load.2;
      unflushed = λ p entry l at. false_from_ne_true _ (λ f. both_ways _ (not-true _ both.1) (passes_after (flushes cell) j history p entry at l f));
    }

pub to_awaited : (history : List Entry) (j : ℕ) (cell : Cell) → IsAwaited history j cell → awaited history j cell ≡ true
to_awaited history j cell is =
    and_from (flying history j && load_just_covers history j cell) (not (flushed_after history j cell))
    (and_from (flying history j) (load_just_covers history j cell)
    (and_from (is_some (load_at history j)) (not (list_any (ends j) history)) (ap is_some (start_load history j is.load is.starts)) (not_from_false _ (false_from_ne_true _ none_ends)))
    (ap (is_some_and (λ load. just_covers load.header cell)) (start_load history j is.load is.starts) ∙ is.covers))
    (not_from_false (flushed_after history j cell) (false_from_ne_true _ none_flushes))
  where
    none_ends : list_any (ends j) history ≡ true → ⊥
    none_ends f =
        let found : (q : ℕ) × (e : Entry) × (entry_at history q ≡ Some e) × (0 < q) × (ends j e ≡ true) = after_passes (ends j) 0 history f in
        both_ways _ (is.unended found.0 found.1 found.2) found.4

    none_flushes : flushed_after history j cell ≡ true → ⊥
    none_flushes f =
        let found : (q : ℕ) × (e : Entry) × (entry_at history q ≡ Some e) × (j < q) × (flushes cell e ≡ true) = after_passes (flushes cell) j history f in
        both_ways _ (is.unflushed found.0 found.1 found.3 found.2) found.4

pub awaited_is_by_position : AwaitedIsByPosition
awaited_is_by_position history j cell = (from_awaited history j cell, to_awaited history j cell)

pub exact_source_is_greatest : ExactSourceIsGreatest
exact_source_is_greatest history cell j = (there, back)
  where
    test : ℕ → Bool
    test k = live history k cell && load_just_covers history k cell

    bounded : (k : ℕ) → live history k cell ≡ true → load_just_covers history k cell ≡ true → (m : ℕ) × (exact_source history cell ≡ Some m) × (k ≤ m)
    bounded k l c =
        let is : IsLive history k cell = from_live history k cell l in
        let within : (1 ≤ k) × (k ≤ length history) = entry_within history k (Start is.load) is.starts in
        latest_bounds (length history) test k (and_from _ _ l c) within.0 within.1

    parts : (m : ℕ) → exact_source history cell ≡ Some m → (live history m cell ≡ true) × (load_just_covers history m cell ≡ true)
    parts m h = and_parts _ _ (latest_found (length history) test m h).0

    there : exact_source history cell ≡ Some j → IsExactSource history cell j
    there h = record {
      serves = (parts j h).0;
      just = (parts j h).1;
      greatest = λ k l c. let b : (m : ℕ) × (exact_source history cell ≡ Some m) × (k ≤ m) = bounded k l c in let same : b.0 ≡ j = cc (h, b.1) in omega (arith, b.2, same);
    }

    back : IsExactSource history cell j → exact_source history cell ≡ Some j
    back is =
        let b : (m : ℕ) × (exact_source history cell ≡ Some m) × (j ≤ m) = bounded j is.serves is.just in
        let p : (live history b.0 cell ≡ true) × (load_just_covers history b.0 cell ≡ true) = parts b.0 b.1 in
        b.1 ∙ ap Some (le_antisymm (is.greatest b.0 p.0 p.1) b.2)

pub floor_is_greatest : FloorIsGreatest
floor_is_greatest history cell = by (latest (length history) test) refl
  where
    test : ℕ → Bool
    test p = is_some_and (flushes cell) (entry_at history p)

    passes : (p : ℕ) (flush : Entry) → entry_at history p ≡ Some flush → flushes cell flush ≡ true → test p ≡ true
    passes p flush at f = ap (is_some_and (flushes cell)) at ∙ f

    bounded : (p : ℕ) (flush : Entry) → entry_at history p ≡ Some flush → flushes cell flush ≡ true → (m : ℕ) × (latest (length history) test ≡ Some m) × (p ≤ m)
    bounded p flush at f = latest_bounds (length history) test p (passes p flush at f) (entry_within history p flush at).0 (entry_within history p flush at).1

    by : (o : Option ℕ) → latest (length history) test ≡ o → IsGreatestFlushed history cell (version (take (unwrap_or o 0) history) cell.cube)
    by None e = record { above = λ p flush at f. let b : (m : ℕ) × (latest (length history) test ≡ Some m) × (p ≤ m) = bounded p flush at f in absurd (cc (e, b.1)); reached = inl refl }
    by (Some k) e = record {
      above = λ p flush at f.
          let b : (m : ℕ) × (latest (length history) test ≡ Some m) × (p ≤ m) = bounded p flush at f in
          let same : b.0 ≡ k = cc (e, b.1) in
          versions_rise history cell.cube p k (omega (arith, b.2, same));
      reached =
          let found : (x : Entry) × (entry_at history k ≡ Some x) × (flushes cell x ≡ true) = some_and (flushes cell) (entry_at history k) (latest_found (length history) test k e).0 in
          inr (k, found.0, found.1, found.2, refl);
    }
