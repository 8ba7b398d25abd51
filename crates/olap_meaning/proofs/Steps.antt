-- What a legal step tells of loads and calls.
use Rattle.std.proofs.Common.{◌≡◌, sym, ◌∙◌, ap, subst, ℕ, zero, suc, ◌<◌, ◌≤◌, List, [], ◌∷◌, length, take, Bool, true, false, cond, not, ◌&&◌, ◌==◌, inl, inr, Some, slice_get, arith, is_some, filter, nat_lt}
use Rattle.std.specs.List.{list_any, list_all}
use Rattle.std.proofs.lemmas.Bool.{both_ways, and_parts, and_from, not-true, not_from_false, eqb-true, eq-eqb, ltb-true, cases_order, false_from_ne_true, true_from_ne_false}
use Rattle.std.proofs.lemmas.List.{take-append-le}
use Rattle.olap_meaning.specs.declared.cells.Who.{Who}
use Rattle.olap_meaning.specs.declared.cells.Cell.{Cell}
use Rattle.olap_meaning.specs.Covering.{just_covers}
use Rattle.olap_meaning.specs.History.{Entry, Append, Agg, Flush, Start, Done, Drop, Evict, Answer, Saw, Load, entry_at, is_some_and, load_at, load_just_covers, flushes, flushed_after, flying, awaited, ends}
use Rattle.olap_meaning.specs.declared.tables.Setting.{Setting}
use Rattle.olap_meaning.specs.Legal.{Legal, LegalStep, is_next_call, is_call_of, is_call_below, caller}
use Rattle.olap_meaning.specs.Laws.{PrefixesAreLegal, LoadsAreNotDoubled, LoadsEndOnce, CallsRise}
use Rattle.olap_meaning.proofs.Positions.{entry_from-take, entry-take, entry-append, entry_within, passes_after, after_passes}
use Rattle.olap_meaning.proofs.Earliest.{earliest_none}
use Rattle.olap_meaning.proofs.Loads.{load_start, start_load}

pub prefixes_are_legal : PrefixesAreLegal
prefixes_are_legal setting history later legal before entry at =
    subst (λ (xs : List Entry). LegalStep setting xs entry) (take-append-le before history later (omega (arith, (entry_within history (suc before) entry at).1)))
    (legal before entry (entry-append history later (suc before) entry at))

-- who ends a load found it flying
pub ended_flew : (setting : Setting) (history : List Entry) (e : Entry) (j : ℕ) → LegalStep setting history e → ends j e ≡ true → flying history j ≡ true
ended_flew setting history (Append w c v r) j step h = absurd (cc)
ended_flew setting history (Agg w t v) j step h = absurd (cc)
ended_flew setting history (Flush w r) j step h = absurd (cc)
ended_flew setting history (Start l) j step h = absurd (cc)
ended_flew setting history (Done w k) j step h = ap (flying history) (sym (eqb-true k j h)) ∙ step.flies
ended_flew setting history (Drop w k) j step h = ap (flying history) (sym (eqb-true k j h)) ∙ step.flies
ended_flew setting history (Evict k) j step h = absurd (cc)
ended_flew setting history (Answer w cs) j step h = absurd (cc)
ended_flew setting history (Saw w) j step h = absurd (cc)

flying_open : (history : List Entry) (j : ℕ) → flying history j ≡ true → list_any (ends j) history ≡ false
flying_open history j h = not-true _ (and_parts (is_some (load_at history j)) (not (list_any (ends j) history)) h).1

-- no second end comes later
no_later_end : (setting : Setting) (history : List Entry) → Legal setting history → (j p q : ℕ) (one other : Entry) → entry_at history p ≡ Some one → entry_at history q ≡ Some other → ends j one ≡ true → ends j other ≡ true → p < q → ⊥
no_later_end setting history legal j p zero one other at_p at_q e f l = absurd (cc)
no_later_end setting history legal j p (suc b) one other at_p at_q e f l =
    let flew : flying (take b history) j ≡ true = ended_flew setting (take b history) other j (legal b other at_q) f in
    let stands : entry_at (take b history) p ≡ Some one = entry-take b history p one at_p (omega (arith, l)) in
    both_ways _ (flying_open (take b history) j flew) (passes_after (ends j) 0 (take b history) p one stands (omega (arith, (entry_within history p one at_p).0)) e)

pub loads_end_once : LoadsEndOnce
loads_end_once setting history legal j p q one other at_p at_q e f =
    elim (cases_order p q) [
      | inl same ↦ same
      | inr apart ↦ elim apart [
        | inl less ↦ absurd (no_later_end setting history legal j p q one other at_p at_q e f less)
        | inr more ↦ absurd (no_later_end setting history legal j q p other one at_q at_p f e more)
      ]
    ]

-- a load that flies in the end flew in each front that has its Start
flew_before : (history : List Entry) (n i : ℕ) (load : Load) → load_at history i ≡ Some load → i ≤ n → flying history i ≡ true → flying (take n history) i ≡ true
flew_before history n i load at l h =
    and_from (is_some (load_at (take n history) i)) (not (list_any (ends i) (take n history)))
    (ap is_some (start_load (take n history) i load (entry-take n history i (Start load) (load_start history i load at) l)))
    (not_from_false _ (false_from_ne_true _ none))
  where
    none : list_any (ends i) (take n history) ≡ true → ⊥
    none e =
        let ended : (q : ℕ) × (x : Entry) × (entry_at (take n history) q ≡ Some x) × (0 < q) × (ends i x ≡ true) = after_passes (ends i) 0 (take n history) e in
        both_ways _ (flying_open history i h) (passes_after (ends i) 0 history ended.0 ended.1 (entry_from-take n history ended.0 ended.1 ended.2).0 ended.3 ended.4)

awaited_unless : (history : List Entry) (i : ℕ) (cell : Cell) → flying history i ≡ true → load_just_covers history i cell ≡ true → awaited history i cell ≡ false → flushed_after history i cell ≡ true
awaited_unless history i cell flies covers none =
    true_from_ne_false _ (λ unflushed. both_ways (awaited history i cell) none
    (and_from (flying history i && load_just_covers history i cell) (not (flushed_after history i cell)) (and_from _ _ flies covers) (not_from_false _ unflushed)))

doubled_at :
    (setting : Setting) (history : List Entry) → Legal setting history → (a b : ℕ) (first second : Load) → a < b
    → entry_at history (suc a) ≡ Some (Start first) → entry_at history (suc b) ≡ Some (Start second) → first.reason ≡ second.reason → flying history (suc a) ≡ true
    → (q : ℕ) × (flush : Entry) × (suc a < q) × (q < suc b) × (entry_at history q ≡ Some flush) × (flushes second.reason flush ≡ true)
doubled_at setting history legal a b first second l at_a at_b same flies =
    let found : (q : ℕ) × (e : Entry) × (entry_at front q ≡ Some e) × (suc a < q) × (flushes second.reason e ≡ true) = after_passes (flushes second.reason) (suc a) front flushed in
    let stands : (entry_at history found.0 ≡ Some found.1) × (1 ≤ found.0) × (found.0 ≤ b) = entry_from-take b history found.0 found.1 found.2 in
    (found.0, found.1, found.3, omega (arith, stands.2), stands.0, found.4)
  where
    front : List Entry
    front = take b history

    started_in : load_at front (suc a) ≡ Some first
    started_in = start_load front (suc a) first (entry-take b history (suc a) (Start first) at_a (omega (arith, l)))

    covers : load_just_covers front (suc a) second.reason ≡ true
    covers = ap (is_some_and (λ load. just_covers load.header second.reason)) started_in ∙ ap (just_covers first.header) (sym same) ∙ (legal a (Start first) at_a).covers

    inside : suc a ≤ length front
    inside = (entry_within front (suc a) (Start first) (load_start front (suc a) first started_in)).1

    flushed : flushed_after front (suc a) second.reason ≡ true
    flushed =
        awaited_unless front (suc a) second.reason (flew_before history b (suc a) first (start_load history (suc a) first at_a) (omega (arith, l)) flies) covers
        (earliest_none (length front) (λ j. awaited front j second.reason) (suc a) (legal b (Start second) at_b).unawaited (omega arith) inside)

pub loads_are_not_doubled : LoadsAreNotDoubled
loads_are_not_doubled setting history legal zero j first second l at_i at_j same flies = absurd (cc)
loads_are_not_doubled setting history legal (suc a) zero first second l at_i at_j same flies = absurd (cc)
loads_are_not_doubled setting history legal (suc a) (suc b) first second l at_i at_j same flies =
    doubled_at setting history legal a b first second (omega (arith, l)) (load_start history (suc a) first at_i) (load_start history (suc b) second at_j) same flies

the_caller : (w who : Who) → Some w ≡ Some who → w ≡ who
the_caller w who h = cc

moved : (history : List Entry) (w who : Who) → Some w ≡ Some who → is_next_call history w ≡ true → is_next_call history who ≡ true
moved history w who h next = ap (is_next_call history) (sym (the_caller w who h)) ∙ next

next_call : (setting : Setting) (history : List Entry) (e : Entry) (who : Who) → LegalStep setting history e → caller e ≡ Some who → is_next_call history who ≡ true
next_call setting history (Append w c v r) who step h = moved history w who h step.call
next_call setting history (Agg w t v) who step h = moved history w who h step.call
next_call setting history (Flush w r) who step h = moved history w who h step.0
next_call setting history (Start l) who step h = absurd (cc)
next_call setting history (Done w k) who step h = absurd (cc)
next_call setting history (Drop w k) who step h = absurd (cc)
next_call setting history (Evict k) who step h = absurd (cc)
next_call setting history (Answer w cs) who step h = moved history w who h step.0
next_call setting history (Saw w) who step h = moved history w who h step

-- what holds of each kept element holds of one at a place
kept_at : {A : Type 0} (test keep : A → Bool) (xs : List A) (i : ℕ) (x : A) → list_all test (filter keep xs) ≡ true → slice_get xs i ≡ Some x → keep x ≡ true → test x ≡ true
kept_at test keep [] i x all h k = absurd (cc)
kept_at test keep (y ∷ ys) zero x all h k =
    let same : y ≡ x = cc in
    let kept : keep y ≡ true = ap keep same ∙ k in
    let whole : list_all test (y ∷ filter keep ys) ≡ true = ap (λ b. list_all test (cond b (y ∷ filter keep ys) (filter keep ys))) (sym kept) ∙ all in
    ap test (sym same) ∙ (and_parts (test y) (list_all test (filter keep ys)) whole).0
kept_at test keep (y ∷ ys) (suc i) x all h k = kept_at test keep ys i x (rest (keep y) all) h k
  where
    rest : (b : Bool) → list_all test (cond b (y ∷ filter keep ys) (filter keep ys)) ≡ true → list_all test (filter keep ys) ≡ true
    rest true e = (and_parts (test y) (list_all test (filter keep ys)) e).1
    rest false e = e

pub calls_rise : CallsRise
calls_rise setting history legal p zero earlier later first second l at_p at_q c d seats = absurd (cc)
calls_rise setting history legal zero (suc b) earlier later first second l at_p at_q c d seats = absurd (cc)
calls_rise setting history legal (suc a) (suc b) earlier later first second l at_p at_q c d seats =
    ltb-true first.call second.call (sym (ap (is_some_and (λ (w : Who). nat_lt w.call second.call)) c) ∙ below)
  where
    below : is_some_and (λ (w : Who). nat_lt w.call second.call) (caller earlier) ≡ true
    below =
        kept_at (is_call_below second.call) (is_call_of second.seat) (take b history) a earlier
        (next_call setting (take b history) later second (legal b later at_q) d)
        (entry-take b history (suc a) earlier at_p (omega (arith, l)))
        (ap (is_some_and (λ (w : Who). w.seat == second.seat)) c ∙ eq-eqb first.seat second.seat seats)
