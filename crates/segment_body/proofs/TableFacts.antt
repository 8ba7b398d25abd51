-- Tables of cells, and what they take of groups.
use Rattle.std.proofs.Common.{◌≡◌, ◌≢◌, ◌∙◌, ◌<◌, ◌≤◌, ℕ, zero, suc, ◌+◌, ℤ, Bool, true, false, not, List, [], ◌∷◌, ◌++◌, Option, None, Some, Result, Ok, Err, Vec, drop, flat_map, length, map, set, take, get_or, bytes_eq, append-nil, append_assoc, length-append, lit≤, refl, sym, ap, subst, arith, inl, inr, if◌then◌else◌}
use Rattle.std.specs.Prelude.{◌&&◌, ◌==◌, All, Contains, IfOk, IsTrue, nat_lt, option_map, position, slice_get}
use Rattle.std.specs.List.{AllZip, length_refill, list_all, list_any, position_or_len, zip}
use Rattle.std.specs.List.Sorted.{IsPermutation}
use Rattle.std.proofs.Math.Bool.{and-true, or-false}
use Rattle.std.proofs.lemmas.Bool.{and_from, and_parts, cases_Bool, eqb-true, not-true}
use Rattle.std.proofs.lemmas.Bool.Decides.{nat_tests}
use Rattle.std.proofs.lemmas.List.{length-map, map-append, take_all, take_more, take_more_set, with_items_is}
use Rattle.std.proofs.lemmas.List.Concat.{flat_map-append}
use Rattle.std.proofs.lemmas.List.Elements.{All-contains, All-contains_itself, All-map, All-push}
use Rattle.std.proofs.lemmas.List.Folds.{length-flat_map-take}
use Rattle.std.proofs.lemmas.List.Sorted.{IsPermutation-append, IsPermutation-refl, length_permutation}
use Rattle.std.proofs.lemmas.Option.{slice_get_within}
use Rattle.olap_meaning.specs.declared.Aggregator.{Aggregator}
use Rattle.olap_meaning.specs.declared.Aggregator.TheVariants.{DistinctCount, Sum}
use Rattle.olap_meaning.specs.declared.OutOfMemory.{OutOfMemory}
use Rattle.olap_meaning.specs.declared.TheConstants.{ROW_LIMIT}
use Rattle.olap_meaning.specs.declared.cells.Allowed.{Allowed}
use Rattle.olap_meaning.specs.declared.cells.Cell.{Cell}
use Rattle.olap_meaning.specs.declared.cells.Header.{Header}
use Rattle.olap_meaning.specs.Covering.{among, allows, columns_of, header_covers}
use Rattle.olap_meaning.specs.Legal.{rise}
use Rattle.olap_meaning.proofs.Members.{all_member, member_any, none_in}
use Rattle.olap_meaning.proofs.Lists.{all_filter, all_push, eq_turned, passes_at, same_text, text_self, zip_push}
use Rattle.olap_meaning.proofs.Positions.{get-append, get_last}
use Rattle.segment_header.specs.Headers.{are_allowed, is_header, is_set}
use Rattle.segment_header.proofs.RiseFacts.{all_at}
use Rattle.measure_folds.specs.Tallied.{Tallied}
use Rattle.list_orders.specs.Parts.{are_different}
use Rattle.list_orders.proofs.Aggregates.{aggregate_permutes}
use Rattle.segment_body.specs.declared.tallies.Fold.{Fold}
use Rattle.segment_body.specs.AllFolds.{AreFolded, FoldOf, are_alike, fold_numbers, fold_of, folded_numbers, values_in}
use Rattle.segment_body.specs.Tables.{AreKeyed, HoldsCells, AreTallied, TableOf, are_taken, chosen, folds_in, grown, has_room, places_of, taken_by}
use Rattle.segment_body.specs.BodyOf.{BodyOf, body_row_in, different_values}
use Rattle.segment_body.specs.Folds.{are_at, are_at_allowed, body_row_within, has_allowed, numbers_where, picked}
use Rattle.segment_body.specs.Groups.{Group, IsMerged, group, group_of, groups_of, values_of, with_numbers}
use Rattle.segment_body.proofs.CellFacts.{all_allowed, none_valued}
use Rattle.segment_body.proofs.GroupFacts.{found, unfound, values_at as group_values}
use Rattle.segment_body.proofs.FoldFacts.{all_numbers, picked_fits, picked_more, picked_permutes}
use Rattle.segment_body.proofs.RowFacts.{other_turned}

-- ---- where columns stand

-- a column that is there has a place
pub place_inside : (columns : List (ℕ × Allowed)) (x : ℕ) → among (map (λ own. own.0) columns) x ≡ true → position_or_len (λ own. own.0 == x) columns < length columns
place_inside [] x found = absurd (cc)
place_inside (c ∷ cs) x found =
    elim (cases_Bool (c.0 == x)) [
      | inl same ↦ rw same (omega arith)
      | inr other ↦ let rest = place_inside cs x (rw other at found) in rw other (omega (arith, rest))
    ]

-- a column has a value where that value stands at its place
value_there : (columns : List (ℕ × Allowed)) (values : List ℕ) (x v : ℕ) → rise (map (λ own. own.0) columns) ≡ true → length values ≡ length columns → among (map (λ own. own.0) columns) x ≡ true
    → list_any (λ own. (own.0.0 == x) && (own.1 == v)) (zip columns values) ≡ (v == get_or values (position_or_len (λ own. own.0 == x) columns) 0)
value_there [] values x v up long found = absurd (cc)
value_there (c ∷ cs) [] x v up long found = absurd (omega arith)
value_there (c ∷ cs) (w ∷ ws) x v up long found =
    let rises = and_parts (list_all (nat_lt c.0) (map (λ own. own.0) cs)) (rise (map (λ own. own.0) cs)) up in
    elim (cases_Bool (c.0 == x)) [
      | inl same ↦
          let e : c.0 ≡ x = eqb-true c.0 x same in
          let none = none_valued cs ws (x, v) (rw e at rises.0) in
          rw (same, none, or-false (w == v)) (eq_turned w v)
      | inr other ↦
          let rest = value_there cs ws x v rises.1 (omega arith) (rw other at found) in
          rw other (rest ∙ ap (λ (m : ℕ). v == m) (sym (next_value w ws (position_or_len (λ own. own.0 == x) cs))))
    ]
  where
    next_value : (w : ℕ) (ws : List ℕ) (n : ℕ) → get_or (w ∷ ws) (1 + n) 0 ≡ get_or ws n 0
    next_value w ws n = let e : 1 + n ≡ suc n = omega arith in ap (λ (m : ℕ). get_or (w ∷ ws) m 0) e

-- values have those of pairs where these stand at the places of the pairs' columns
pub key_met : (columns : List (ℕ × Allowed)) (values : List ℕ) (at : List (ℕ × ℕ)) → rise (map (λ own. own.0) columns) ≡ true → length values ≡ length columns
    → list_all (among (map (λ own. own.0) columns)) (map (λ pair. pair.0) at) ≡ true
    → bytes_eq (map (λ pair. pair.1) at) (chosen (places_of columns (map (λ pair. pair.0) at)) values) ≡ are_at columns at values
key_met columns values [] up long found = refl
key_met columns values (p ∷ ps) up long found =
    let parts = and_parts (among (map (λ own. own.0) columns) p.0) (list_all (among (map (λ own. own.0) columns)) (map (λ pair. pair.0) ps)) found in
    let here = value_there columns values p.0 p.1 up long parts.0 in
    let rest = key_met columns values ps up long parts.1 in
    rw (here, ← rest) refl

-- ---- tables of wanted values

any_push : {X : Type 0} (p : X → Bool) (xs ys : List X) → list_any p xs ≡ true → list_any p (xs ++ ys) ≡ true
any_push p [] ys found = absurd (cc)
any_push p (x ∷ xs) ys found =
    elim (cases_Bool (p x)) [ inl passes ↦ rw passes refl | inr fails ↦ rw fails (any_push p xs ys (rw fails at found)) ]

any_last : {X : Type 0} (p : X → Bool) (xs : List X) (x : X) → p x ≡ true → list_any p (xs ++ x ∷ []) ≡ true
any_last p [] x passes = rw passes refl
any_last p (y ∷ ys) x passes =
    elim (cases_Bool (p y)) [ inl first ↦ rw first refl | inr fails ↦ rw fails (any_last p ys x passes) ]

all_weaker : {X : Type 0} (p q : X → Bool) → ((x : X) → p x ≡ true → q x ≡ true) → (xs : List X) → list_all p xs ≡ true → list_all q xs ≡ true
all_weaker p q tells [] all = refl
all_weaker p q tells (x ∷ xs) all =
    let parts = and_parts (p x) (list_all p xs) all in
    and_from (q x) (list_all q xs) (tells x parts.0) (all_weaker p q tells xs parts.1)

none_any : (k : List ℕ) (ks : List (List ℕ)) → list_all (λ later. not (bytes_eq k later)) ks ≡ true → list_any (bytes_eq k) ks ≡ false
none_any k [] all = refl
none_any k (j ∷ js) all =
    let parts = and_parts (not (bytes_eq k j)) (list_all (λ later. not (bytes_eq k later)) js) all in
    rw (not-true (bytes_eq k j) parts.0) (none_any k js parts.1)

-- new values are different from the others
different_push : (ks : List (List ℕ)) (k : List ℕ) → are_different bytes_eq ks ≡ true → list_any (bytes_eq k) ks ≡ false → are_different bytes_eq (ks ++ k ∷ []) ≡ true
different_push [] k differ new = refl
different_push (j ∷ js) k differ new =
    let parts = and_parts (list_all (λ later. not (bytes_eq j later)) js) (are_different bytes_eq js) differ in
    elim (cases_Bool (bytes_eq k j)) [
      | inl same ↦ let e = rw same at new in absurd (cc)
      | inr other ↦
          let turned = other_turned k j other in
          and_from (list_all (λ later. not (bytes_eq j later)) (js ++ k ∷ [])) (are_different bytes_eq (js ++ k ∷ []))
          (all_push (λ later. not (bytes_eq j later)) js k parts.0 (rw turned refl))
          (different_push js k parts.1 (rw other at new))
    ]

-- no number more changes nothing
set_none : (gs : List Group) (i : ℕ) (d : Group) → set gs i (with_numbers (get_or gs i d) []) ≡ gs
set_none [] i d = refl
set_none (g ∷ gs) zero d = ap (λ (ns : List (Option ℤ)). group g.values (record { aggregator = g.tally.aggregator; values = ns }) ∷ gs) (append-nil g.tally.values)
set_none (g ∷ gs) (suc i) d = ap (λ (rest : List Group). g ∷ rest) (set_none gs i d)

placed_left : {X C : Type 0} (value : C → X) (xs ys : List X) (at : List ℕ) (cs : List C) → map (slice_get xs) at ≡ map (λ c. Some (value c)) cs → map (slice_get (xs ++ ys)) at ≡ map (λ c. Some (value c)) cs
placed_left value xs ys [] [] same = refl
placed_left value xs ys [] (c ∷ cs) same = absurd (cc)
placed_left value xs ys (i ∷ is) [] same = absurd (cc)
placed_left value xs ys (i ∷ is) (c ∷ cs) same =
    let first : slice_get xs i ≡ Some (value c) = cc in
    let rest : map (slice_get xs) is ≡ map (λ c. Some (value c)) cs = cc in
    let first' = get-append xs ys i (value c) first in
    let rest' = placed_left value xs ys is cs rest in
    cc

placed_push : {X C : Type 0} (value : C → X) (xs : List X) (at : List ℕ) (i : ℕ) (cs : List C) (c : C) → map (slice_get xs) at ≡ map (λ c. Some (value c)) cs → slice_get xs i ≡ Some (value c) → map (slice_get xs) (at ++ i ∷ []) ≡ map (λ c. Some (value c)) (cs ++ c ∷ [])
placed_push value xs at i cs c same here =
    map-append (slice_get xs) at (i ∷ []) ∙ ap (λ l. l ++ slice_get xs i ∷ []) same ∙ ap (λ o. map (λ c. Some (value c)) cs ++ o ∷ []) here ∙ sym (map-append (λ c. Some (value c)) cs (c ∷ []))

abbrev none_of : Aggregator → List ℕ → Group
none_of a values = group values (record { aggregator = a; values = [] })

-- what holds of a table with one cell more
pub record KeyedMore (a : Aggregator) (cells : List Cell) (columns : List ℕ) (groups : List Group) (at : List ℕ) : Type 0 where
  pub keyed : AreKeyed a cells (record { columns = columns; groups = groups; at = at })
  pub different : IsTrue (are_different bytes_eq (values_of groups))

-- groups stay different with the values of one cell more
pub different_more : (old new : List Group) (place : ℕ) (values : List ℕ) (a : Aggregator) → IsTrue (are_different bytes_eq (values_of old)) → IsMerged a values [] old new place → IsTrue (are_different bytes_eq (values_of new))
different_more old new place values a differ (inl (there, changed)) =
    let base : Group = none_of a [] in
    let same : new ≡ old = changed base ∙ set_none old place base in
    rw same differ
different_more old new place values a differ (inr (fresh, at, is)) =
    let keys : values_of new ≡ values_of old ++ values ∷ [] = ap values_of is ∙ map-append (λ (g : Group). g.values) old (none_of a values ∷ []) in
    rw keys (different_push (values_of old) values differ fresh)

module _ (a : Aggregator) (columns : List ℕ) where
  abbrev table : List Group → List ℕ → TableOf
  table groups at = record { columns = columns; groups = groups; at = at }

  -- no cell
  pub none_keyed : AreKeyed a [] (table [] [])
  none_keyed = record {
    cells_held = record { columns = λ k d inside. absurd (omega arith); placed = refl; known = refl };
    fresh = λ k d inside. absurd (omega arith);
  }

  -- the groups and places of one cell more
  pub keyed_more : (cells : List Cell) (cell : Cell) (old new : List Group) (at : List ℕ) (place : ℕ) → AreKeyed a cells (table old at) → columns_of cell ≡ columns → IsMerged a (values_in cell) [] old new place
      → AreKeyed a (cells ++ cell ∷ []) (table new (at ++ place ∷ []))
  keyed_more cells cell old new at place keyed own (inl (there, changed)) =
      let base : Group = none_of a [] in
      let same : new ≡ old = changed base ∙ set_none old place base in
      rw same
      (record {
        cells_held = record {
          columns = All-push (λ c. columns_of c ≡ columns) cells cell keyed.cells_held.columns own;
          placed = placed_push values_in (values_of old) at place cells cell keyed.cells_held.placed there;
          known = known_more (values_of old) keyed.cells_held.known;
        };
        fresh = keyed.fresh;
      })
    where
      known_more : (ks : List (List ℕ)) → list_all (λ values. list_any (λ c. bytes_eq values (values_in c)) cells) ks ≡ true → list_all (λ values. list_any (λ c. bytes_eq values (values_in c)) (cells ++ cell ∷ [])) ks ≡ true
      known_more ks known = all_weaker (λ values. list_any (λ c. bytes_eq values (values_in c)) cells) (λ values. list_any (λ c. bytes_eq values (values_in c)) (cells ++ cell ∷ [])) (λ values found. any_push (λ c. bytes_eq values (values_in c)) cells (cell ∷ []) found) ks known
  keyed_more cells cell old new at place keyed own (inr (fresh, here, is)) =
      let keys : values_of new ≡ values_of old ++ values_in cell ∷ [] = ap values_of is ∙ map-append (λ (g : Group). g.values) old (none_of a (values_in cell) ∷ []) in
      let count : place ≡ length (values_of old) = here ∙ sym (length-map old (λ (g : Group). g.values)) in
      let there : slice_get (values_of new) place ≡ Some (values_in cell) = rw (keys, count) (get_last (values_of old) (values_in cell)) in
      let left : map (slice_get (values_of new)) at ≡ map (λ c. Some (values_in c)) cells = rw keys (placed_left values_in (values_of old) (values_in cell ∷ []) at cells keyed.cells_held.placed) in
      record {
        cells_held = record {
          columns = All-push (λ c. columns_of c ≡ columns) cells cell keyed.cells_held.columns own;
          placed = placed_push values_in (values_of new) at place cells cell left there;
          known =
              rw keys
              (all_push (λ values. list_any (λ c. bytes_eq values (values_in c)) (cells ++ cell ∷ [])) (values_of old) (values_in cell)
              (all_weaker (λ values. list_any (λ c. bytes_eq values (values_in c)) cells) (λ values. list_any (λ c. bytes_eq values (values_in c)) (cells ++ cell ∷ [])) (λ values found. any_push (λ c. bytes_eq values (values_in c)) cells (cell ∷ []) found) (values_of old) keyed.cells_held.known)
              (any_last (λ c. bytes_eq (values_in cell) (values_in c)) cells cell (text_self (values_in cell))));
        };
        fresh = rw is (All-push (λ (g : Group). g.tally ≡ record { aggregator = a; values = [] }) old (none_of a (values_in cell)) keyed.fresh refl);
      }

-- ---- groups are taken

-- where no group has the values all stay
others_stay : (gs : List Group) (key : List ℕ) (ns : List (Option ℤ)) → list_any (bytes_eq key) (values_of gs) ≡ false → gs ≡ map (taken_by key ns) gs
others_stay [] key ns none = refl
others_stay (g ∷ gs) key ns none =
    elim (cases_Bool (bytes_eq key g.values)) [
      | inl same ↦ let e = rw same at none in absurd (cc)
      | inr other ↦ let rest = others_stay gs key ns (rw other at none) in rw (other_turned key g.values other) (ap (λ (l : List Group). g ∷ l) rest)
    ]

-- the group with the values takes the numbers, and the others stay
one_takes : (gs : List Group) (place : ℕ) (key : List ℕ) (ns : List (Option ℤ)) (d : Group) → are_different bytes_eq (values_of gs) ≡ true → slice_get (values_of gs) place ≡ Some key
    → set gs place (with_numbers (get_or gs place d) ns) ≡ map (taken_by key ns) gs
one_takes [] place key ns d differ here = absurd (cc)
one_takes (g ∷ gs) zero key ns d differ here =
    let same : g.values ≡ key = cc in
    let parts = and_parts (list_all (λ later. not (bytes_eq g.values later)) (values_of gs)) (are_different bytes_eq (values_of gs)) differ in
    let met : bytes_eq g.values key ≡ true = subst (λ (v : List ℕ). bytes_eq g.values v ≡ true) same (text_self g.values) in
    let rest = others_stay gs key ns (none_any key (values_of gs) (rw same at parts.0)) in
    rw met (ap (λ (l : List Group). with_numbers g ns ∷ l) rest)
one_takes (g ∷ gs) (suc i) key ns d differ here =
    let parts = and_parts (list_all (λ later. not (bytes_eq g.values later)) (values_of gs)) (are_different bytes_eq (values_of gs)) differ in
    let other : bytes_eq g.values key ≡ false = not-true _ (passes_at (λ later. not (bytes_eq g.values later)) (values_of gs) i key parts.0 here) in
    rw other (ap (λ (l : List Group). g ∷ l) (one_takes gs i key ns d parts.1 here))

-- a tally is merged into the group that has some values
pub taken_there : (gs : List Group) (place : ℕ) (key : List ℕ) (ns : List (Option ℤ)) (new : List Group) → are_different bytes_eq (values_of gs) ≡ true → position (λ (g : Group). bytes_eq key g.values) gs ≡ Some place
    → ((d : Group) → new ≡ set gs place (with_numbers (get_or gs place d) ns)) → new ≡ map (taken_by key ns) gs
taken_there gs place key ns new differ at changed =
    let d : Group = group key (record { aggregator = Sum; values = [] }) in
    changed d ∙ one_takes gs place key ns d differ (found key gs place d at).1

pub taken_nowhere : (gs : List Group) (key : List ℕ) (ns : List (Option ℤ)) → position (λ (g : Group). bytes_eq key g.values) gs ≡ None → gs ≡ map (taken_by key ns) gs
taken_nowhere gs key ns at = others_stay gs key ns (unfound key gs at)

-- the group there has the values, and room
pub room_there : (gs : List Group) (place : ℕ) (key : List ℕ) (n : ℕ) → position (λ (g : Group). bytes_eq key g.values) gs ≡ Some place → All (λ (g : Group). g.values ≡ key → length g.tally.values + n ≤ ROW_LIMIT) gs
    → (d : Group) → length (get_or gs place d).tally.values + n ≤ ROW_LIMIT
room_there gs place key n at room d =
    let there = found key gs place d at in
    let same : Some (get_or gs place d).values ≡ Some key = sym (group_values gs place d there.0) ∙ there.1 in
    room place d there.0 (cc)

map_map : {A B C : Type 0} (g : B → C) (f : A → B) (h : A → C) → ((x : A) → g (f x) ≡ h x) → (xs : List A) → map g (map f xs) ≡ map h xs
map_map g f h same [] = refl
map_map g f h same (x ∷ xs) = let first = same x in let rest = map_map g f h same xs in cc

map_same : {A B : Type 0} (f g : A → B) → ((x : A) → f x ≡ g x) → (xs : List A) → map f xs ≡ map g xs
map_same f g same [] = refl
map_same f g same (x ∷ xs) = let first = same x in let rest = map_same f g same xs in cc

-- numbers are added one list after another
numbers_twice : (g : Group) (ns ms : List (Option ℤ)) → with_numbers (with_numbers g ns) ms ≡ with_numbers g (ns ++ ms)
numbers_twice g ns ms = ap (λ (l : List (Option ℤ)). group g.values (record { aggregator = g.tally.aggregator; values = l })) (append_assoc g.tally.values ns ms)

module _ (places : List ℕ) (test : List ℕ → Bool) (groups : List Group) (i : ℕ) (g : Group) (inside : i < length groups) (here : g ≡ get_or groups i g) where
  abbrev taken : List ℕ → List ℕ → Bool
  taken = are_taken places test

  -- a group that passes is taken
  pub grown_yes : test g.values ≡ true → (old : List Group) → map (taken_by (chosen places g.values) g.tally.values) (map (grown taken (take i groups)) old) ≡ map (grown taken (take (i + 1) groups)) old
  grown_yes passes = map_map (taken_by (chosen places g.values) g.tally.values) (grown taken (take i groups)) (grown taken (take (i + 1) groups)) each
    where
      each : (h : Group) → taken_by (chosen places g.values) g.tally.values (grown taken (take i groups) h) ≡ grown taken (take (i + 1) groups) h
      each h =
          let more = picked_more (taken h.values) groups i g inside here in
          elim (cases_Bool (bytes_eq h.values (chosen places g.values))) [
            | inl same ↦ rw (more, same, passes) (numbers_twice h (picked (taken h.values) (take i groups)) g.tally.values)
            | inr other ↦ rw (more, other) (ap (λ (l : List (Option ℤ)). with_numbers h l) (sym (append-nil (picked (taken h.values) (take i groups)))))
          ]

  -- another is not
  pub grown_no : test g.values ≡ false → (old : List Group) → map (grown taken (take i groups)) old ≡ map (grown taken (take (i + 1) groups)) old
  grown_no fails = map_same (grown taken (take i groups)) (grown taken (take (i + 1) groups)) each
    where
      no_more : (b : Bool) → (b && false) ≡ false
      no_more true = refl
      no_more false = refl

      each : (h : Group) → grown taken (take i groups) h ≡ grown taken (take (i + 1) groups) h
      each h =
          let more = picked_more (taken h.values) groups i g inside here in
          rw (more, fails, no_more (bytes_eq h.values (chosen places g.values))) (ap (λ (l : List (Option ℤ)). with_numbers h l) (sym (append-nil (picked (taken h.values) (take i groups)))))

  -- a group that is taken has room
  pub grown_room : test g.values ≡ true → (old : List Group) → All (has_room taken groups) old
      → All (λ (h : Group). h.values ≡ chosen places g.values → length h.tally.values + length g.tally.values ≤ ROW_LIMIT) (map (grown taken (take i groups)) old)
  grown_room passes old room =
      All-map (λ (h : Group). h.values ≡ chosen places g.values → length h.tally.values + length g.tally.values ≤ ROW_LIMIT) (grown taken (take i groups)) old
      (λ k d within same.
      let h : Group = get_or old k d in
      let met : bytes_eq h.values (chosen places g.values) ≡ true = subst (λ (v : List ℕ). bytes_eq h.values v ≡ true) same (text_self h.values) in
      let fits = length-flat_map-take (λ (group : Group). if taken h.values group.values then group.tally.values else []) groups i g inside in
      let fits' = rw (← here, met, passes) at fits in
      let all = room k d within in
      omega (arith, fits', all, length-append h.tally.values (picked (taken h.values) (take i groups))))

-- nothing is taken of no group
pub grown_none : (taken : List ℕ → List ℕ → Bool) (old : List Group) → old ≡ map (grown taken []) old
grown_none taken [] = refl
grown_none taken (g ∷ gs) = let first : g ≡ grown taken [] g = ap (λ (l : List (Option ℤ)). group g.values (record { aggregator = g.tally.aggregator; values = l })) (sym (append-nil g.tally.values)) in let rest = grown_none taken gs in cc

-- the values stay
pub grown_values : (taken : List ℕ → List ℕ → Bool) (groups old : List Group) → values_of (map (grown taken groups) old) ≡ values_of old
grown_values taken groups [] = refl
grown_values taken groups (g ∷ gs) = ap (λ (l : List (List ℕ)). g.values ∷ l) (grown_values taken groups gs)

pub grown_different : (taken : List ℕ → List ℕ → Bool) (groups old : List Group) → IsTrue (are_different bytes_eq (values_of old)) → IsTrue (are_different bytes_eq (values_of (map (grown taken groups) old)))
grown_different taken groups old differ = rw (grown_values taken groups old) differ

-- and the aggregator
pub grown_alike : (a : Aggregator) (taken : List ℕ → List ℕ → Bool) (groups old : List Group) → All (λ group. group.tally.aggregator ≡ a) old → All (λ group. group.tally.aggregator ≡ a) (map (grown taken groups) old)
grown_alike a taken groups old alike = All-map (λ (g : Group). g.tally.aggregator ≡ a) (grown taken groups) old alike

-- groups of no row have room for all numbers
pub fresh_room : (a : Aggregator) (taken : List ℕ → List ℕ → Bool) (groups old : List Group) → All (λ (g : Group). g.tally ≡ record { aggregator = a; values = [] }) old → length (all_numbers groups) ≤ ROW_LIMIT → All (has_room taken groups) old
fresh_room a taken groups old fresh few k d inside =
    rw (fresh k d inside) (omega (arith, picked_fits (taken (get_or old k d).values) groups, few))

-- what has room has not too many numbers then
pub grown_few : (taken : List ℕ → List ℕ → Bool) (groups old : List Group) → All (has_room taken groups) old → All (λ group. length group.tally.values ≤ ROW_LIMIT) (map (grown taken groups) old)
grown_few taken groups old room =
    All-map (λ (g : Group). length g.tally.values ≤ ROW_LIMIT) (grown taken groups) old
    (λ k d inside. let all = room k d inside in omega (arith, all, length-append (get_or old k d).tally.values (picked (taken (get_or old k d).values) groups)))

pub grown_count : (taken : List ℕ → List ℕ → Bool) (groups old : List Group) → length (map (grown taken groups) old) ≡ length old
grown_count taken groups old = length-map old (grown taken groups)

-- ---- the tallies of cells

pub fresh_alike : (a : Aggregator) (gs : List Group) → All (λ (g : Group). g.tally ≡ record { aggregator = a; values = [] }) gs → All (λ group. group.tally.aggregator ≡ a) gs
fresh_alike a gs fresh k d inside = ap (λ (t : Tallied). t.aggregator) (fresh k d inside)

-- the place of a cell is one of a group
pub places_inside : {C : Type 0} (value : C → List ℕ) (gs : List Group) (at : List ℕ) (cs : List C) → map (slice_get (values_of gs)) at ≡ map (λ c. Some (value c)) cs → All (λ place. place < length gs) at
places_inside value gs [] cs same k d inside = absurd (omega arith)
places_inside value gs (i ∷ is) [] same k d inside = absurd (cc)
places_inside value gs (i ∷ is) (c ∷ cs) same zero d inside =
    let first : slice_get (values_of gs) i ≡ Some (value c) = cc in
    let below = slice_get_within (values_of gs) i (value c) first in
    omega (arith, below, length-map gs (λ (g : Group). g.values))
places_inside value gs (i ∷ is) (c ∷ cs) same (suc k) d inside = places_inside value gs is cs (cc) k d (omega arith)

group_there : (gs : List Group) (i : ℕ) (v : List ℕ) (t : Tallied) → slice_get (values_of gs) i ≡ Some v → Some t ≡ option_map (λ (g : Group). g.tally) (slice_get gs i) → Contains gs (group v t)
group_there [] i v t key tally = absurd (cc)
group_there (g ∷ gs) zero v t key tally =
    let same : g.values ≡ v = cc in
    let same' : t ≡ g.tally = cc in
    (zero, omega arith, rw (← same, same') refl)
group_there (g ∷ gs) (suc i) v t key tally = let rest = group_there gs i v t key tally in (suc rest.0, omega (arith, rest.1), rest.2)

-- the tallies at the cells' places are those of the groups of their values
pub zip_placed : (gs : List Group) (at : List ℕ) (cells : List Cell) (ts : List Tallied) → map (slice_get (values_of gs)) at ≡ map (λ cell. Some (values_in cell)) cells
    → map Some ts ≡ map (λ place. option_map (λ (g : Group). g.tally) (slice_get gs place)) at → AllZip (λ cell tally. Contains gs (group (values_in cell) tally)) cells ts
zip_placed gs [] [] [] keys tallies = tt
zip_placed gs [] [] (t ∷ ts) keys tallies = absurd (cc)
zip_placed gs [] (c ∷ cs) ts keys tallies = absurd (cc)
zip_placed gs (i ∷ is) [] ts keys tallies = absurd (cc)
zip_placed gs (i ∷ is) (c ∷ cs) [] keys tallies = absurd (cc)
zip_placed gs (i ∷ is) (c ∷ cs) (t ∷ ts) keys tallies = (group_there gs i (values_in c) t (cc) (cc), zip_placed gs is cs ts (cc) (cc))

-- ---- lists side by side

module _ {X Y : Type 0} (R : X → Y → Type 0) where
  pub zip_more : (xs : List X) (ys : List Y) (i : ℕ) (x : X) (y : Y) → i < length xs → x ≡ get_or xs i x → AllZip R (take i xs) ys → R x y → AllZip R (take (i + 1) xs) (ys ++ y ∷ [])
  zip_more xs ys i x y inside here all one = rw (take_more xs i x inside, ← here) (zip_push R (take i xs) ys x y all one)

  pub zip_weaker : (S : X → Y → Type 0) (P : X → Type 0) → ((x : X) (y : Y) → P x → R x y → S x y) → (xs : List X) (ys : List Y) → All P xs → AllZip R xs ys → AllZip S xs ys
  zip_weaker S P tells [] [] each all = tt
  zip_weaker S P tells [] (y ∷ ys) each all = absurd all
  zip_weaker S P tells (x ∷ xs) [] each all = absurd all
  zip_weaker S P tells (x ∷ xs) (y ∷ ys) each all =
      (tells x y (each 0 x (omega arith)) all.0, zip_weaker S P tells xs ys (λ k d inside. each (suc k) d (omega arith)) all.1)

-- ---- cells of the same columns

-- the first of some cells has the columns of the others
pub alike_first : (cells : List Cell) (first : Cell) (n : ℕ) → first ≡ get_or cells 0 first → length cells ≤ n + 1 → list_all (λ cell. bytes_eq (columns_of first) (columns_of cell)) (take n (drop 1 cells)) ≡ are_alike cells
alike_first [] first n here fits = rw (take_all {A = Cell} n [] (omega arith)) refl
alike_first (c ∷ cs) first n here fits = let same : first ≡ c = here in rw (same, take_all {A = Cell} n cs (omega arith)) refl

pub alike_all : (cells : List Cell) (first : Cell) → first ≡ get_or cells 0 first → 0 < length cells → are_alike cells ≡ true → All (λ cell. columns_of cell ≡ columns_of first) cells
alike_all [] first here some alike = absurd (omega arith)
alike_all (c ∷ cs) first here some alike = let same : first ≡ c = here in rw same (each c cs alike)
  where
    rest : (c : Cell) (cs : List Cell) → list_all (λ other. bytes_eq (columns_of c) (columns_of other)) cs ≡ true → All (λ cell. columns_of cell ≡ columns_of c) cs
    rest c [] all k d inside = absurd (omega arith)
    rest c (x ∷ xs) all zero d inside = sym (same_text (columns_of c) (columns_of x) (and_parts (bytes_eq (columns_of c) (columns_of x)) (list_all (λ other. bytes_eq (columns_of c) (columns_of other)) xs) all).0)
    rest c (x ∷ xs) all (suc k) d inside = rest c xs (and_parts (bytes_eq (columns_of c) (columns_of x)) (list_all (λ other. bytes_eq (columns_of c) (columns_of other)) xs) all).1 k d (omega arith)

    each : (c : Cell) (cs : List Cell) → list_all (λ other. bytes_eq (columns_of c) (columns_of other)) cs ≡ true → All (λ cell. columns_of cell ≡ columns_of c) (c ∷ cs)
    each c cs all zero d inside = refl
    each c cs all (suc k) d inside = rest c cs all k d (omega arith)

-- there is a cell where some are
pub not_empty : (n : ℕ) → false ≡ (n == 0) → 0 < n
not_empty n h = grind (arith, nat_tests)

-- the columns of the first are those of each
pub columns_are : (cells : List Cell) (first : Cell) (r : Result (List ℕ) OutOfMemory) → first ≡ get_or cells 0 first → 0 < length cells → are_alike cells ≡ true
    → IfOk r (λ columns. columns ≡ columns_of first) → IfOk r (λ columns. All (λ cell. columns_of cell ≡ columns) cells)
columns_are cells first (Err e) here some alike is = tt
columns_are cells first (Ok columns) here some alike is = rw is (alike_all cells first here some alike)

-- ---- what a body folds

long_values : (h : Header) (rows : List (List ℕ × Option ℤ)) → list_all (λ row. are_allowed h row.0) rows ≡ true → list_all (λ values. length values == length h.columns) (different_values rows) ≡ true
long_values h [] all = refl
long_values h (row ∷ rows) all =
    let parts = and_parts (are_allowed h row.0) (list_all (λ r. are_allowed h r.0) rows) all in
    let long = and_parts (length row.0 == length h.columns) (list_all (λ own. allows own.0.1 own.1) (zip h.columns row.0)) parts.0 in
    and_from (length row.0 == length h.columns) _ long.0
    (all_filter (λ values. length values == length h.columns) (λ later. not (bytes_eq row.0 later)) (different_values rows) (long_values h rows parts.1))

long_groups : (h : Header) (a : Aggregator) (rows : List (List ℕ × Option ℤ)) (ds : List (List ℕ)) → list_all (λ values. length values == length h.columns) ds ≡ true → list_all (λ (g : Group). length g.values == length h.columns) (map (group_of a rows) ds) ≡ true
long_groups h a rows [] all = refl
long_groups h a rows (d ∷ ds) all =
    let parts = and_parts (length d == length h.columns) (list_all (λ values. length values == length h.columns) ds) all in
    and_from (length d == length h.columns) _ parts.0 (long_groups h a rows ds parts.1)

picked_same : (n : ℕ) (p q : List ℕ → Bool) → ((v : List ℕ) → length v ≡ n → p v ≡ q v) → (gs : List Group) → list_all (λ (g : Group). length g.values == n) gs ≡ true → picked p gs ≡ picked q gs
picked_same n p q agree [] all = refl
picked_same n p q agree (g ∷ gs) all =
    let parts = and_parts (length g.values == n) (list_all (λ (h : Group). length h.values == n) gs) all in
    rw (agree g.values (eqb-true (length g.values) n parts.0), picked_same n p q agree gs parts.1) refl

-- a covered cell's columns are the header's
pub covered_columns : (h : Header) (cell : Cell) → IsTrue (header_covers h cell) → list_all (among (map (λ own. own.0) h.columns)) (columns_of cell) ≡ true
covered_columns h cell covered =
    let own = and_parts ((h.cube == cell.cube) && (h.measure == cell.measure)) (list_all (λ pair. list_any (λ column. (column.0 == pair.0) && allows column.1 pair.1) h.columns) cell.at) covered in
    all_allowed h.columns cell.at own.1

-- each group of a table is that of a cell
group_cell : (cells : List Cell) (table : TableOf) → HoldsCells cells table → (k : ℕ) (d : Group) → k < length table.groups → (cell : Cell) × Contains cells cell × (values_in cell ≡ (get_or table.groups k d).values)
group_cell cells table held k d inside =
    let values : List ℕ = (get_or table.groups k d).values in
    let known : list_any (λ cell. bytes_eq values (values_in cell)) cells ≡ true = passes_at (λ v. list_any (λ cell. bytes_eq v (values_in cell)) cells) (values_of table.groups) k values held.known (group_values table.groups k d inside) in
    let one = member_any (λ cell. bytes_eq values (values_in cell)) cells known in
    (one.0, one.1, sym (same_text values (values_in one.0) one.2))

-- the groups of allowed rows
module _ (h : Header) (a : Aggregator) (rows : List (List ℕ × Option ℤ)) (formed : IsTrue (is_header h)) (allowed : IsTrue (list_all (λ row. are_allowed h row.0) rows)) where
  -- each has one value a column
  rows_long : list_all (λ (g : Group). length g.values == length h.columns) (groups_of a rows) ≡ true
  rows_long = long_groups h a rows (different_values rows) (long_values h rows allowed)

  -- the places of a covered cell's columns are within each group's values
  pub places_within : (some : List ℕ) → list_all (among (map (λ own. own.0) h.columns)) some ≡ true → All (λ group. All (λ place. place < length group.values) (places_of h.columns some)) (groups_of a rows)
  places_within some named k d inside =
      let long = eqb-true _ _ (all_at (λ (g : Group). length g.values == length h.columns) (groups_of a rows) k d rows_long inside) in
      rw long (All-map (λ place. place < length h.columns) (λ column. position_or_len (λ own. own.0 == column) h.columns) some (λ j x within. place_inside h.columns (get_or some j x) (all_at (among (map (λ own. own.0) h.columns)) some j x named within)))

  -- so are those of the columns of covered cells
  pub table_within : (cells : List Cell) (table : TableOf) → list_all (header_covers h) cells ≡ true → HoldsCells cells table → 0 < length table.groups → All (λ group. All (λ place. place < length group.values) (places_of h.columns table.columns)) (groups_of a rows)
  table_within cells table covered held some =
      let one = group_cell cells table held 0 (none_of a []) some in
      let columns = All-contains (λ c. columns_of c ≡ table.columns) cells one.0 held.columns one.1 in
      rw (← columns) (places_within (columns_of one.0) (covered_columns h one.0 (all_member (header_covers h) cells one.0 covered one.1)))

  module _ (cell : Cell) (covered : IsTrue (header_covers h cell)) where
    key_same : (v : List ℕ) → length v ≡ length h.columns → bytes_eq (values_in cell) (chosen (places_of h.columns (columns_of cell)) v) ≡ are_at h.columns cell.at v
    key_same v long =
        let rises = and_parts (rise (map (λ column. column.0) h.columns)) (list_all (λ column. is_set column.1) h.columns) formed in
        key_met h.columns v cell.at rises.0 long (covered_columns h cell covered)

    -- the group of a covered cell's values takes the numbers of the rows in the cell
    pub cell_permutes : IsPermutation (numbers_where (body_row_in h cell) rows) (picked (are_taken (places_of h.columns (columns_of cell)) (λ v. true) (values_in cell)) (groups_of a rows))
    cell_permutes =
        rw (picked_same (length h.columns) (are_taken (places_of h.columns (columns_of cell)) (λ v. true) (values_in cell)) (are_at h.columns cell.at)
        (λ v long. and-true (bytes_eq (values_in cell) (chosen (places_of h.columns (columns_of cell)) v)) ∙ key_same v long) (groups_of a rows) rows_long)
        (picked_permutes a (are_at h.columns cell.at) rows)

    -- of them those that have an allowed value
    pub fold_permutes : (column : ℕ) (own : Allowed) → IsPermutation (numbers_where (body_row_within h cell column own) rows) (picked (are_taken (places_of h.columns (columns_of cell)) (has_allowed h.columns column own) (values_in cell)) (groups_of a rows))
    fold_permutes column own =
        rw (picked_same (length h.columns) (are_taken (places_of h.columns (columns_of cell)) (has_allowed h.columns column own) (values_in cell)) (are_at_allowed h.columns cell.at column own)
        (λ v long. ap (λ (b : Bool). b && has_allowed h.columns column own v) (key_same v long)) (groups_of a rows) rows_long)
        (picked_permutes a (are_at_allowed h.columns cell.at column own) rows)

  -- ---- many bodies

  module _ (cells : List Cell) (folds : List FoldOf) (table : TableOf) (column : ℕ) (own : Allowed) (tallied : AreTallied a cells folds table) (covered : list_all (header_covers h) cells ≡ true)
      (room : All (λ cell. length (folded_numbers cell (folds ++ fold_of (record { header = h; aggregator = a; rows = rows }) column own ∷ [])) ≤ ROW_LIMIT) cells) where
    abbrev taken_here : List ℕ → List ℕ → Bool
    taken_here = are_taken (places_of h.columns table.columns) (has_allowed h.columns column own)

    abbrev fold : FoldOf
    fold = fold_of (record { header = h; aggregator = a; rows = rows }) column own

    fold_more : (cell : Cell) → folded_numbers cell (folds ++ fold ∷ []) ≡ folded_numbers cell folds ++ numbers_where (body_row_within h cell column own) rows
    fold_more cell = flat_map-append (fold_numbers cell) folds (fold ∷ []) ∙ ap (λ (ns : List (Option ℤ)). folded_numbers cell folds ++ ns) (append-nil (numbers_where (body_row_within h cell column own) rows))

    -- a cell's group with what it takes
    group_more : (cell : Cell) (g : Group) → Contains cells cell → values_in cell ≡ g.values → IsPermutation (folded_numbers cell folds) g.tally.values
        → IsPermutation (folded_numbers cell (folds ++ fold ∷ [])) (g.tally.values ++ picked (taken_here g.values) (groups_of a rows))
    group_more cell g held same was =
        let columns = All-contains (λ c. columns_of c ≡ table.columns) cells cell tallied.cells_held.columns held in
        let taken : IsPermutation (numbers_where (body_row_within h cell column own) rows) (picked (taken_here g.values) (groups_of a rows)) =
        subst (λ (v : List ℕ). IsPermutation (numbers_where (body_row_within h cell column own) rows) (picked (taken_here v) (groups_of a rows))) same
        (subst (λ (cs : List ℕ). IsPermutation (numbers_where (body_row_within h cell column own) rows) (picked (are_taken (places_of h.columns cs) (has_allowed h.columns column own) (values_in cell)) (groups_of a rows))) columns
        (fold_permutes cell (all_member (header_covers h) cells cell covered held) column own)) in
        rw (fold_more cell) (IsPermutation-append _ _ _ _ was taken)

    pub more_room : All (has_room taken_here (groups_of a rows)) table.groups
    more_room k d inside =
        let g : Group = get_or table.groups k d in
        let one = group_cell cells table tallied.cells_held k d inside in
        let more = group_more one.0 g one.1 one.2 (tallied.folded k d inside one.0 one.1 one.2) in
        let fits = All-contains (λ cell. length (folded_numbers cell (folds ++ fold ∷ [])) ≤ ROW_LIMIT) cells one.0 room one.1 in
        omega (arith, fits, length_permutation _ _ more, length-append g.tally.values (picked (taken_here g.values) (groups_of a rows)))

    pub tallied_more : AreTallied a cells (folds ++ fold ∷ []) (record table { groups = map (grown taken_here (groups_of a rows)) table.groups })
    tallied_more =
        let keys = grown_values taken_here (groups_of a rows) table.groups in
        record {
          adds_up = tallied.adds_up;
          cells_held = record {
            columns = tallied.cells_held.columns;
            placed = rw keys tallied.cells_held.placed;
            known = rw keys tallied.cells_held.known;
          };
          alike = grown_alike a taken_here (groups_of a rows) table.groups tallied.alike;
          folded =
              All-map (λ (g : Group). (cell : Cell) → Contains cells cell → values_in cell ≡ g.values → IsPermutation (folded_numbers cell (folds ++ fold ∷ [])) g.tally.values) (grown taken_here (groups_of a rows)) table.groups
              (λ k d inside cell held same. group_more cell (get_or table.groups k d) held same (tallied.folded k d inside cell held same));
          room = room;
        }

-- tallies of cells that have taken nothing
pub none_tallied : (a : Aggregator) (cells : List Cell) (table : TableOf) → a ≢ DistinctCount → AreKeyed a cells table → AreTallied a cells [] table
none_tallied a cells table adds keyed = record {
  adds_up = adds;
  cells_held = keyed.cells_held;
  alike = fresh_alike a table.groups keyed.fresh;
  folded = λ k d inside cell held same. rw (keyed.fresh k d inside) (IsPermutation-refl []);
  room = λ k d inside. lit≤ tt;
}

module _ (a : Aggregator) (cells : List Cell) (folds : List FoldOf) (table : TableOf) (tallied : AreTallied a cells folds table) where
  -- no group has too many numbers
  pub tallied_room : All (λ group. length group.tally.values ≤ ROW_LIMIT) table.groups
  tallied_room k d inside =
      let one = group_cell cells table tallied.cells_held k d inside in
      let same = tallied.folded k d inside one.0 one.1 one.2 in
      let fits = All-contains (λ cell. length (folded_numbers cell folds) ≤ ROW_LIMIT) cells one.0 tallied.room one.1 in
      omega (arith, fits, length_permutation _ _ same)

  -- the tally of each cell is that of its rows
  pub tallies_are : (r : Result (List Tallied) OutOfMemory) → IfOk r (λ ts. map Some ts ≡ map (λ place. option_map (λ (g : Group). g.tally) (slice_get table.groups place)) table.at) → IfOk r (AllZip (AreFolded a folds) cells)
  tallies_are (Err e) are = tt
  tallies_are (Ok ts) are =
      zip_weaker (λ cell tally. Contains table.groups (group (values_in cell) tally)) (AreFolded a folds) (Contains cells)
      (λ cell t known held.
      let kind = All-contains (λ (g : Group). g.tally.aggregator ≡ a) table.groups (group (values_in cell) t) tallied.alike held in
      let rows = All-contains (λ (g : Group). (c : Cell) → Contains cells c → values_in c ≡ g.values → IsPermutation (folded_numbers c folds) g.tally.values) table.groups (group (values_in cell) t) tallied.folded held cell known refl in
      record { aggregator = kind; rows = rows; worth = rw kind (sym (aggregate_permutes a _ _ rows)) })
      cells ts (All-contains_itself cells) (zip_placed table.groups table.at cells ts tallied.cells_held.placed are)

-- the place of one column more is written
pub find_more : (columns : List (ℕ × Allowed)) (places some : List ℕ) (i x place : ℕ) → i < length some → length places ≡ length some → x ≡ get_or some i x → place ≡ position_or_len (λ own. own.0 == x) columns
    → take i places ≡ places_of columns (take i some) → take (i + 1) (set places i place) ≡ places_of columns (take (i + 1) some)
find_more columns places some i x place inside long here is was =
    take_more_set places i place (omega arith)
    ∙ ap (λ l. l ++ place ∷ []) was
    ∙ ap (λ (n : ℕ). places_of columns (take i some) ++ n ∷ []) is
    ∙ sym (ap (places_of columns) (take_more some i x inside ∙ ap (λ (n : ℕ). take i some ++ n ∷ []) (sym here)) ∙ map-append (λ column. position_or_len (λ own. own.0 == column) columns) (take i some) (x ∷ []))

-- a vector is written anew, in its length
pub refilled : {X Z : Type 0} (v : Vec X Z) (ws : List X) → length ws ≡ length v.items → take v.len (ws ++ drop (length ws) v.items) ≡ ws
refilled v ws long = with_items_is v ws (long ∙ sym v.ok.0)

pub refilled_long : {X Z : Type 0} (v : Vec X Z) (ws : List X) → length (take v.len (ws ++ drop (length ws) v.items)) ≡ length v.items
refilled_long v ws = sym (length_refill v.len v.items ws v.ok.0) ∙ v.ok.0

pub places_counted : (columns : List (ℕ × Allowed)) (some : List ℕ) → length (places_of columns some) ≡ length some
places_counted columns some = length-map some (λ column. position_or_len (λ own. own.0 == column) columns)

pub values_counted : (at : List (ℕ × ℕ)) → length (map (λ pair. pair.1) at) ≡ length (map (λ pair. pair.0) at)
values_counted at = length-map at (λ pair. pair.1) ∙ sym (length-map at (λ pair. pair.0))

-- the folds of a trace with one more
pub folds_more : (folds : List Fold) (fold : Fold) (body : BodyOf) (own : Allowed) → fold.body.items ≡ body ∷ [] → fold.own.items ≡ own ∷ [] → folds_in (folds ++ fold ∷ []) ≡ folds_in folds ++ fold_of body fold.column own ∷ []
folds_more folds fold body own one two =
    flat_map-append (λ (f : Fold). flat_map (λ (b : BodyOf). map (λ (o : Allowed). fold_of b f.column o) f.own.items) f.body.items) folds (fold ∷ [])
    ∙ rw (one, two) refl
