-- The answers of a legal history are fresh.
use Rattle.std.proofs.Common.{◌≡◌, refl, sym, ◌∙◌, ap, subst, ℕ, zero, suc, ◌<◌, ◌≤◌, List, [], ◌∷◌, ◌++◌, length, take, Bool, true, false, ◌&&◌, inl, inr, Option, Some, None, slice_get, arith, filter_map, option_and_then, option_map, unwrap_or, zero-le, take-take, All, Contains, MatchOption, le_trans, le_of_eq}
use Rattle.std.proofs.lemmas.Bool.{both_ways, and_parts, cases_order}
use Rattle.std.proofs.lemmas.List.Elements.{All-contains, All-from_recursion}
use Rattle.olap_meaning.specs.declared.cells.Who.{Who}
use Rattle.olap_meaning.specs.declared.cells.Cell.{Cell}
use Rattle.olap_meaning.specs.declared.cells.CellSource.{CellSource}
use Rattle.olap_meaning.specs.declared.tables.Catalog.{Catalog}
use Rattle.olap_meaning.specs.Covering.{header_covers}
use Rattle.olap_meaning.specs.History.{Entry, Start, Answer, Load, entry_at, is_some_and, load_at, flushes, flushed_after, live, version, floor, latest, exact_source, load_just_covers, load_version}
use Rattle.olap_meaning.specs.declared.tables.Setting.{Setting}
use Rattle.olap_meaning.specs.Rolled.{Offer, IsRolledSource, offered}
use Rattle.olap_meaning.specs.Legal.{Legal, IsSource, IsAnswered}
use Rattle.olap_meaning.specs.Worth.{answered_version, value}
use Rattle.olap_meaning.specs.Laws.{AnswersAreFresh, AnswersAreServed}
use Rattle.olap_meaning.proofs.Members.{filter_map_member, in_first}
use Rattle.olap_meaning.proofs.Positions.{entry_from-take, entry-take, passes_after, latest_found, take-push, entry-append}
use Rattle.olap_meaning.proofs.Loads.{some_and, live_parts, live_load, load_start, start_load, covered_cube, live_on}
use Rattle.olap_meaning.proofs.Versions.{versions_rise}

-- what no covering flush exceeds, the floor does not
pub floor_bound : (history : List Entry) (cell : Cell) (n : ℕ) → ((q : ℕ) (e : Entry) → entry_at history q ≡ Some e → flushes cell e ≡ true → version (take q history) cell.cube ≤ n) → floor history cell ≤ n
floor_bound history cell n bound = by (latest (length history) test) refl
  where
    test : ℕ → Bool
    test p = is_some_and (flushes cell) (entry_at history p)

    by : (o : Option ℕ) → latest (length history) test ≡ o → version (take (unwrap_or o 0) history) cell.cube ≤ n
    by None e = zero-le
    by (Some k) e =
        let found : (x : Entry) × (entry_at history k ≡ Some x) × (flushes cell x ≡ true) = some_and (flushes cell) (entry_at history k) (latest_found (length history) test k e).0 in
        bound k found.0 found.1 found.2

in_one : (loads : List ℕ) (j k : ℕ) → loads ≡ j ∷ [] → Contains loads k → k ≡ j
in_one loads j k same among = one (subst (λ (ls : List ℕ). Contains ls k) same among)
  where
    one : Contains (j ∷ []) k → k ≡ j
    one (zero, l, e) = sym e
    one (suc i, l, e) = absurd (omega arith)

-- the loads of a source: each is live, and has the version of the first
pub record Serve (history : List Entry) (cell : Cell) (loads : List ℕ) : Type 0 where
  pub first : ℕ
  pub is_first : slice_get loads 0 ≡ Some first
  pub first_lives : live history first cell ≡ true
  pub each_lives : (k : ℕ) → Contains loads k → live history k cell ≡ true
  pub one_version : (k : ℕ) → Contains loads k → load_version history k ≡ load_version history first

exact_serve : (history : List Entry) (cell : Cell) (loads : List ℕ) (j : ℕ) → exact_source history cell ≡ Some j → loads ≡ j ∷ [] → Serve history cell loads
exact_serve history cell loads j found same = record {
  first = j;
  is_first = ap (λ ls. slice_get ls 0) same;
  first_lives = lives;
  each_lives = λ k c. ap (λ n. live history n cell) (in_one loads j k same c) ∙ lives;
  one_version = λ k c. ap (load_version history) (in_one loads j k same c);
}
  where
    lives : live history j cell ≡ true
    lives = (and_parts _ _ (latest_found (length history) (λ k. live history k cell && load_just_covers history k cell) j found).0).0

-- what a live load offers
pub live_offer : (history : List Entry) (cell : Cell) (k : ℕ) → live history k cell ≡ true → (offer : Offer) × (offered history k ≡ Some offer) × (load_version history k ≡ Some offer.version)
live_offer history cell k lives =
    let load : (load : Load) × (load_at history k ≡ Some load) × (header_covers load.header cell ≡ true) = live_load history k cell lives in
    (record { header = load.0.header; version = load.0.version }, ap (option_map (λ (l : Load). record { header = l.header; version = l.version })) load.1, ap (option_map (λ (l : Load). l.version)) load.1)

-- each load of a rolled source has the one version
version_in : (history : List Entry) (cell : Cell) (loads : List ℕ) (v : ℕ) → All (λ j. live history j cell ≡ true) loads → All (λ (offer : Offer). offer.version ≡ v) (filter_map (offered history) loads)
    → (k : ℕ) → Contains loads k → load_version history k ≡ Some v
version_in history cell loads v lives versions k among =
    let offer : (offer : Offer) × (offered history k ≡ Some offer) × (load_version history k ≡ Some offer.version) = live_offer history cell k (All-contains (λ j. live history j cell ≡ true) loads k lives among) in
    offer.2 ∙ ap Some (All-contains (λ (offer : Offer). offer.version ≡ v) (filter_map (offered history) loads) offer.0 versions (filter_map_member (offered history) loads k offer.0 among offer.1))

rolled_serve : (catalog : Catalog) (history : List Entry) (cell : Cell) (loads : List ℕ) → IsRolledSource catalog history cell loads → Serve history cell loads
rolled_serve catalog history cell [] source = absurd (omega (arith, source.rolled.some))
rolled_serve catalog history cell (first ∷ rest) source = record {
  first = first;
  is_first = refl;
  first_lives = All-contains (λ j. live history j cell ≡ true) (first ∷ rest) first source.lives (in_first first rest);
  each_lives = λ k c. All-contains (λ j. live history j cell ≡ true) (first ∷ rest) k source.lives c;
  one_version = λ k c. of_one k c ∙ sym (of_one first (in_first first rest));
}
  where
    of_one : (k : ℕ) → Contains (first ∷ rest) k → load_version history k ≡ Some source.rolled.version
    of_one = version_in history cell (first ∷ rest) source.rolled.version source.lives source.rolled.one_version

-- a source serves
pub source_serve : (catalog : Catalog) (history : List Entry) (cell : Cell) (loads : List ℕ) → IsSource catalog history cell loads → Serve history cell loads
source_serve catalog history cell loads h = by (exact_source history cell) refl h
  where
    by : (o : Option ℕ) → exact_source history cell ≡ o → MatchOption o (IsRolledSource catalog history cell loads) (λ j. loads ≡ j ∷ []) → Serve history cell loads
    by None e source = rolled_serve catalog history cell loads source
    by (Some j) e same = exact_serve history cell loads j e same

-- the load of a legal history that is live at an answer, after the first i entries
fresh_at :
    (setting : Setting) (history : List Entry) → Legal setting history → (i : ℕ) (who : Who) (cells : List CellSource)
    → entry_at history (suc i) ≡ Some (Answer who cells) → (cell : Cell) (b : ℕ) (load : Load) → entry_at history (suc b) ≡ Some (Start load) → suc b ≤ i
    → header_covers load.header cell ≡ true → flushed_after (take i history) (suc b) cell ≡ false
    → (floor (take (suc i) history) cell ≤ load.version) × (load.version ≤ version (take (suc i) history) cell.cube)
fresh_at setting history legal i who cells at cell b load start l covers none =
    (floor_bound (take (suc i) history) cell load.version below, le_trans (le_of_eq present) (versions_rise history cell.cube b (suc i) (omega arith)))
  where
    present : load.version ≡ version (take b history) cell.cube
    present = (legal b (Start load) start).present ∙ ap (version (take b history)) (covered_cube load.header cell covers)

    below : (q : ℕ) (e : Entry) → entry_at (take (suc i) history) q ≡ Some e → flushes cell e ≡ true → version (take q (take (suc i) history)) cell.cube ≤ load.version
    below q e at_q f =
        let stands : (entry_at history q ≡ Some e) × (1 ≤ q) × (q ≤ suc i) = entry_from-take (suc i) history q e at_q in
        elim (cases_order q (suc b)) [
          | inl same ↦ absurd (no_start e f (ap (entry_at history) (sym same) ∙ stands.0))
          | inr apart ↦ elim apart [
            | inl less ↦ earlier q (omega (arith, less)) stands.2
            | inr more ↦ absurd (later q e stands.0 f more stands.2)
          ]
        ]
      where
        no_start : (e : Entry) → flushes cell e ≡ true → entry_at history (suc b) ≡ Some e → ⊥
        no_start e f h = let same : Start load ≡ e = cc (start, h) in let g : flushes cell (Start load) ≡ true = ap (flushes cell) same ∙ f in cc

        no_answer : (e : Entry) → flushes cell e ≡ true → entry_at history (suc i) ≡ Some e → ⊥
        no_answer e f h = let same : Answer who cells ≡ e = cc (at, h) in let g : flushes cell (Answer who cells) ≡ true = ap (flushes cell) same ∙ f in cc

        earlier : (q : ℕ) → q ≤ b → q ≤ suc i → version (take q (take (suc i) history)) cell.cube ≤ load.version
        earlier q small inside =
            le_trans (le_of_eq (ap (λ xs. version xs cell.cube) (take-take q (suc i) history inside)))
            (le_trans (versions_rise history cell.cube q b small) (le_of_eq (sym present)))

        later : (q : ℕ) (e : Entry) → entry_at history q ≡ Some e → flushes cell e ≡ true → suc b < q → q ≤ suc i → ⊥
        later q e h f more inside =
            elim (cases_order q (suc i)) [
              | inl same ↦ no_answer e f (ap (entry_at history) (sym same) ∙ h)
              | inr apart ↦ elim apart [
                | inl less ↦ both_ways _ none (passes_after (flushes cell) (suc b) (take i history) q e (entry-take i history q e h (omega (arith, less))) more f)
                | inr beyond ↦ absurd (omega (arith, beyond, inside))
              ]
            ]

-- what the loads of an answered cell are
pub taken_from :
    (setting : Setting) (history : List Entry) → Legal setting history → (i : ℕ) (who : Who) (cells : List CellSource)
    → entry_at history (suc i) ≡ Some (Answer who cells) → (answered : CellSource) → Contains cells answered
    → Serve (take i history) answered.cell answered.loads
taken_from setting history legal i who cells at answered among =
    source_serve setting.catalog (take i history) answered.cell answered.loads
    (All-contains (IsAnswered setting (take i history)) cells answered (All-from_recursion (IsAnswered setting (take i history)) cells (legal i (Answer who cells) at).1) among).source

fresh_from :
    (setting : Setting) (history : List Entry) → Legal setting history → (i : ℕ) (who : Who) (cells : List CellSource)
    → entry_at history (suc i) ≡ Some (Answer who cells) → (answered : CellSource)
    → (j : ℕ) → slice_get answered.loads 0 ≡ Some j → (load : Load) → entry_at (take i history) j ≡ Some (Start load) → header_covers load.header answered.cell ≡ true
    → flushed_after (take i history) j answered.cell ≡ false
    → (v : ℕ) × (answered_version (take (suc i) history) answered ≡ Some v) × (floor (take (suc i) history) answered.cell ≤ v) × (v ≤ version (take (suc i) history) answered.cell.cube)
fresh_from setting history legal i who cells at answered zero first load start covers none = absurd (cc)
fresh_from setting history legal i who cells at answered (suc b) first load start covers none =
    let stands : (entry_at history (suc b) ≡ Some (Start load)) × (1 ≤ suc b) × (suc b ≤ i) = entry_from-take i history (suc b) (Start load) start in
    let fresh : (floor (take (suc i) history) answered.cell ≤ load.version) × (load.version ≤ version (take (suc i) history) answered.cell.cube) = fresh_at setting history legal i who cells at answered.cell b load stands.0 stands.2 covers none in
    let at_answer : load_at (take (suc i) history) (suc b) ≡ Some load = start_load (take (suc i) history) (suc b) load (entry-take (suc i) history (suc b) (Start load) stands.0 (omega (arith, stands.2))) in (
      load.version,
      ap (option_and_then (load_version (take (suc i) history))) first ∙ ap (option_map (λ (l : Load). l.version)) at_answer,
      fresh.0,
      fresh.1,
    )

pub answers_are_fresh : AnswersAreFresh
answers_are_fresh setting history legal zero who cells at answered among = absurd (cc)
answers_are_fresh setting history legal (suc i) who cells at answered among =
    let from : Serve (take i history) answered.cell answered.loads = taken_from setting history legal i who cells at answered among in
    let load : (load : Load) × (load_at (take i history) from.first ≡ Some load) × (header_covers load.header answered.cell ≡ true) = live_load (take i history) from.first answered.cell from.first_lives in
    fresh_from setting history legal i who cells at answered from.first from.is_first load.0 (load_start (take i history) from.first load.0 load.1) load.2 (live_parts (take i history) from.first answered.cell from.first_lives).2

-- a live load has its version in each longer history
version_on : (history later : List Entry) (j : ℕ) (cell : Cell) → live history j cell ≡ true → load_version (history ++ later) j ≡ load_version history j
version_on history later j cell h =
    let load : (load : Load) × (load_at history j ≡ Some load) × (header_covers load.header cell ≡ true) = live_load history j cell h in
    ap (option_map (λ (l : Load). l.version)) (start_load (history ++ later) j load.0 (entry-append history later j (Start load.0) (load_start history j load.0 load.1)) ∙ sym load.1)

-- the loads of an answered cell at the answer: each is live, and of the version of the first
served_at :
    (setting : Setting) (history : List Entry) → Legal setting history → (i : ℕ) (who : Who) (cells : List CellSource)
    → entry_at history (suc i) ≡ Some (Answer who cells) → (answered : CellSource) → Contains cells answered → (k : ℕ) → Contains answered.loads k
    → (live (take (suc i) history) k answered.cell ≡ true) × (load_version (take (suc i) history) k ≡ answered_version (take (suc i) history) answered)
served_at setting history legal i who cells at answered among k in_loads =
    let from : Serve (take i history) answered.cell answered.loads = taken_from setting history legal i who cells at answered among in
    let longer : take (suc i) history ≡ take i history ++ Answer who cells ∷ [] = take-push history i (Answer who cells) at in (
      ap (λ xs. live xs k answered.cell) longer ∙ live_on (take i history) (Answer who cells) answered.cell k refl refl (from.each_lives k in_loads),
      ap (λ xs. load_version xs k) longer ∙ version_on (take i history) (Answer who cells ∷ []) k answered.cell (from.each_lives k in_loads) ∙ from.one_version k in_loads
          ∙ sym (ap (option_and_then (load_version (take (suc i) history))) from.is_first ∙ ap (λ xs. load_version xs from.first) longer ∙ version_on (take i history) (Answer who cells ∷ []) from.first answered.cell from.first_lives),
    )

pub answers_are_served : AnswersAreServed
answers_are_served setting history legal zero who cells at answered among = absurd (cc)
answers_are_served setting history legal (suc i) who cells at answered among =
    let fresh = answers_are_fresh setting history legal (suc i) who cells at answered among in (
      fresh.0,
      record {
        some = fresh.1;
        lives = λ k c. (served_at setting history legal i who cells at answered among k c).0;
        of_one = λ k c. (served_at setting history legal i who cells at answered among k c).1 ∙ fresh.1;
        recorded = fresh.3;
      },
      ap (option_map (value setting.catalog (take (suc i) history) answered.cell)) fresh.1,
    )
