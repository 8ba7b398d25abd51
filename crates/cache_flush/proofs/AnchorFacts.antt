-- Positions under keys and anchors: what is put there stays, and each record that covers a cell is among its candidates.
use Rattle.std.proofs.Common.{◌≡◌, ◌∙◌, ◌⊎◌, sym, ap, subst, refl, ◌<◌, ◌==◌, ◌&&◌, ◌||◌, ◌++◌, ℕ, zero, suc, Bool, true, false, not, List, [], ◌∷◌, Option, None, Some, inl, inr, arith, length, map, cond, set, get_or, slice_get, nat_eq}
use Rattle.std.specs.Prelude.{Contains}
use Rattle.std.specs.List.{list_all, list_any}
use Rattle.std.specs.Map.{lookup}
use Rattle.std.specs.Option.{option_or}
use Rattle.std.proofs.lemmas.Bool.{and_from, and_parts, cases_Bool, eq-eqb, eqb-true, or_cases, or_left, or_right}
use Rattle.std.proofs.lemmas.List.Folds.{list_any-append}
use Rattle.std.proofs.lemmas.Option.{slice_get-get_or}
use Rattle.olap_meaning.specs.declared.cells.Allowed.{Allowed}
use Rattle.olap_meaning.specs.declared.cells.Cell.{Cell}
use Rattle.olap_meaning.specs.declared.cells.Header.{Header}
use Rattle.olap_meaning.specs.declared.regions.Region.{Region}
use Rattle.olap_meaning.specs.declared.regions.RegionBox.{RegionBox}
use Rattle.olap_meaning.specs.Covering.{allows, among, box_covers, box_touches, of_measure, region_covers, region_touches}
use Rattle.olap_meaning.proofs.Lists.{any_at, eq_turned, same_bool}
use Rattle.olap_meaning.proofs.Members.{all_member, any_member, in_first, in_rest, member_all, member_any}
use Rattle.olap_meaning.proofs.Orders.{among_held}
use Rattle.cache_flush.specs.Anchors.{AnchorsOf, AreListed, ColumnOf, anchor_in, anchor_of, covers_after, is_listed, last_single, meets, one_value, places_at, some_candidate, stands_under, under, value_in}
use Rattle.cache_flush.specs.Records.{RecordOf, is_after, passes, passes_at}

-- ---- positions under keys

module _ {V : Type 0} (items : V → List ℕ) where
  -- the positions that were found
  abbrev pub positions_or_none : Option V → List ℕ
  positions_or_none None = []
  positions_or_none (Some v) = items v

  abbrev pub shown : List (ℕ × V) → List (ℕ × List ℕ)
  shown es = map (λ e. (e.0, items e.1)) es

  pub places_looked_up : (es : List (ℕ × V)) (q : ℕ) → places_at (shown es) q ≡ positions_or_none (lookup (nat_eq q) es)
  places_looked_up [] q = refl
  places_looked_up (e ∷ es) q =
      elim (cases_Bool (nat_eq q e.0)) [
        | inl same ↦ rw same refl
        | inr other ↦ rw other (places_looked_up es q)
      ]

  -- where the positions under one key are others
  module _ (es fs : List (ℕ × V)) (key : ℕ) (w : V) (o : Option V) (had : lookup (nat_eq key) es ≡ o)
      (rest : (q : ℕ) → lookup (nat_eq q) fs ≡ cond (nat_eq key q) (Some w) (lookup (nat_eq q) es)) where
    pub places_there : places_at (shown fs) key ≡ items w
    places_there =
        let now : lookup (nat_eq key) fs ≡ Some w = rest key ∙ ap (λ (b : Bool). cond b (Some w) (lookup (nat_eq key) es)) (eq-eqb key key refl) in
        places_looked_up fs key ∙ ap positions_or_none now

    -- each stays where those under the key stay
    pub places_stay : ((p : ℕ) → among (positions_or_none o) p ≡ true → among (items w) p ≡ true) → (q p : ℕ) → among (places_at (shown es) q) p ≡ true → among (places_at (shown fs) q) p ≡ true
    places_stay more q p h =
        elim (cases_Bool (nat_eq key q)) [
          | inl same ↦
              let here : key ≡ q = eqb-true key q same in
              let was : among (positions_or_none o) p ≡ true = rw (places_looked_up es q, ← here, had) at h in
              subst (λ (k : ℕ). among (places_at (shown fs) k) p ≡ true) here (rw places_there (more p was))
          | inr other ↦
              let now : lookup (nat_eq q) fs ≡ lookup (nat_eq q) es = rest q ∙ rw other refl in
              ap (λ (ps : List ℕ). among ps p) (places_looked_up fs q ∙ ap positions_or_none now ∙ sym (places_looked_up es q)) ∙ h
        ]

-- a number stands among those to which it is added, and the others stay
pub among_added : (ns : List ℕ) (n : ℕ) → among (ns ++ n ∷ []) n ≡ true
among_added ns n = list_any-append (λ v. v == n) ns (n ∷ []) ∙ or_right (among ns n) (among (n ∷ []) n) (or_left (n == n) false (eq-eqb n n refl))

pub among_stays : (ns : List ℕ) (n p : ℕ) → among ns p ≡ true → among (ns ++ n ∷ []) p ≡ true
among_stays ns n p h = list_any-append (λ v. v == p) ns (n ∷ []) ∙ or_left (among ns p) (among (n ∷ []) p) h

-- ---- one element of a list

module _ {X : Type 0} where
  -- an element is set that passes
  pub set_passes : (p : X → Bool) (xs : List X) (i : ℕ) (new : X) → i < length xs → p new ≡ true → list_any p (set xs i new) ≡ true
  set_passes p [] i new inside ok = absurd (omega arith)
  set_passes p (x ∷ xs) zero new inside ok = or_left (p new) (list_any p xs) ok
  set_passes p (x ∷ xs) (suc i) new inside ok = or_right (p x) (list_any p (set xs i new)) (set_passes p xs i new (omega arith) ok)

  -- an element is set that passes where the one before did
  pub set_stays : (p : X → Bool) (xs : List X) (i : ℕ) (new d : X) → i < length xs → (p (get_or xs i d) ≡ true → p new ≡ true) → list_any p xs ≡ true → list_any p (set xs i new) ≡ true
  set_stays p [] i new d inside more some = absurd (omega arith)
  set_stays p (x ∷ xs) zero new d inside more some =
      elim (or_cases (p x) (list_any p xs) some) [
        | inl first ↦ or_left (p new) (list_any p xs) (more first)
        | inr later ↦ or_right (p new) (list_any p xs) later
      ]
  set_stays p (x ∷ xs) (suc i) new d inside more some =
      elim (or_cases (p x) (list_any p xs) some) [
        | inl first ↦ or_left (p x) (list_any p (set xs i new)) first
        | inr later ↦ or_right (p x) (list_any p (set xs i new)) (set_stays p xs i new d (omega arith) more later)
      ]

  pub push_stays : (p : X → Bool) (xs : List X) (x : X) → list_any p xs ≡ true → list_any p (xs ++ x ∷ []) ≡ true
  push_stays p xs x h = list_any-append p xs (x ∷ []) ∙ or_left (list_any p xs) (list_any p (x ∷ [])) h

  pub push_passes : (p : X → Bool) (xs : List X) (x : X) → p x ≡ true → list_any p (xs ++ x ∷ []) ≡ true
  push_passes p xs x h = list_any-append p xs (x ∷ []) ∙ or_right (list_any p xs) (list_any p (x ∷ [])) (or_left (p x) false h)

-- what stood under the columns stays where one of them is another, under which what it had stays
pub stays_under : (columns : List ColumnOf) (i : ℕ) (own new : ColumnOf) → i < length columns → own ≡ get_or columns i own → new.column ≡ own.column → ((v p : ℕ) → stands_under own v p ≡ true → stands_under new v p ≡ true)
    → (q v p : ℕ) → list_any (λ own. (own.column == q) && stands_under own v p) columns ≡ true → list_any (λ own. (own.column == q) && stands_under own v p) (set columns i new) ≡ true
stays_under columns i own new inside here same more q v p h =
    set_stays (λ (own : ColumnOf). (own.column == q) && stands_under own v p) columns i new own inside one h
  where
    one : ((get_or columns i own).column == q && stands_under (get_or columns i own) v p) ≡ true → (new.column == q && stands_under new v p) ≡ true
    one stands =
        let parts = and_parts (own.column == q) (stands_under own v p) (subst (λ (o : ColumnOf). (o.column == q && stands_under o v p) ≡ true) (sym here) stands) in
        and_from (new.column == q) (stands_under new v p) (ap (λ (c : ℕ). c == q) same ∙ parts.0) (more v p parts.1)

-- ---- the anchor of a region that covers a cell

one_is : (column : ℕ) (values : List ℕ) (anchor : ℕ × ℕ) → one_value column values ≡ Some anchor → (column ≡ anchor.0) × (values ≡ anchor.1 ∷ [])
one_is column [] anchor h = absurd (cc)
one_is column (v ∷ []) anchor h = let e : (column, v) ≡ anchor = cc in (ap (λ (p : ℕ × ℕ). p.0) e, ap (λ (p : ℕ × ℕ). p.1 ∷ []) e)
one_is column (v ∷ w ∷ vs) anchor h = absurd (cc)

-- the anchor is one of the columns
held_single : (before : Option (ℕ × ℕ)) (columns : List (ℕ × List ℕ)) (anchor : ℕ × ℕ) → last_single before columns ≡ Some anchor
    → (before ≡ Some anchor) ⊎ ((column : ℕ × List ℕ) × Contains columns column × (column.0 ≡ anchor.0) × (column.1 ≡ anchor.1 ∷ []))
held_single before [] anchor h = inl h
held_single before (column ∷ columns) anchor h =
    elim (held_single (option_or (one_value column.0 column.1) before) columns anchor h) [
      | inl here ↦ by (one_value column.0 column.1) refl here
      | inr later ↦ inr (later.0, in_rest column columns later.0 later.1, later.2, later.3)
    ]
  where
    by : (o : Option (ℕ × ℕ)) → one_value column.0 column.1 ≡ o → option_or o before ≡ Some anchor
        → (before ≡ Some anchor) ⊎ ((c : ℕ × List ℕ) × Contains (column ∷ columns) c × (c.0 ≡ anchor.0) × (c.1 ≡ anchor.1 ∷ []))
    by None e here = inl here
    by (Some one) e here =
        let same = one_is column.0 column.1 anchor (e ∙ here) in
        inr (column, in_first column columns, same.0, same.1)

value_held : (pairs : List (ℕ × ℕ)) (column value : ℕ) → value_in pairs column ≡ Some value → (pair : ℕ × ℕ) × Contains pairs pair × (pair.0 ≡ column) × (pair.1 ≡ value)
value_held [] column value h = absurd (cc)
value_held (pair ∷ pairs) column value h =
    elim (cases_Bool (pair.0 == column)) [
      | inl here ↦ let e : Some pair.1 ≡ Some value = rw here at h in (pair, in_first pair pairs, eqb-true pair.0 column here, cc)
      | inr other ↦ let later = value_held pairs column value (rw other at h) in (later.0, in_rest pair pairs later.0 later.1, later.2, later.3)
    ]

-- a box that covers a cell has the cell's value of a column with one value
box_value : (box : RegionBox) (cell : Cell) (column : ℕ × List ℕ) (value own : ℕ) → box_covers box cell ≡ true → Contains box.columns column → column.1 ≡ own ∷ [] → value_in cell.at column.0 ≡ Some value → own ≡ value
box_value box cell column value own covers held one at =
    let pairs = (and_parts (of_measure box.measures cell.measure) (list_all (λ (pair : ℕ × ℕ). list_all (λ (column : ℕ × List ℕ). not (column.0 == pair.0) || among column.1 pair.1) box.columns) cell.at) covers).1 in
    let (pair, there, same, is) = value_held cell.at column.0 value at in
    let columns = all_member (λ (pair : ℕ × ℕ). list_all (λ (column : ℕ × List ℕ). not (column.0 == pair.0) || among column.1 pair.1) box.columns) cell.at pair pairs there in
    let mine = all_member (λ (column : ℕ × List ℕ). not (column.0 == pair.0) || among column.1 pair.1) box.columns column columns held in
    elim (or_cases (not (column.0 == pair.0)) (among column.1 pair.1) mine) [
      | inl other ↦ let own_column = eq-eqb column.0 pair.0 (sym same) in absurd (cc (own_column, other))
      | inr has ↦
          let first : ((own == value) || false) ≡ true = rw (one, is) at has in
          elim (or_cases (own == value) false first) [ inl e ↦ eqb-true own value e | inr none ↦ absurd (cc) ]
    ]

-- so of a region with an anchor
region_value : (boxes : List RegionBox) (cell : Cell) (anchor : ℕ × ℕ) (value : ℕ) → anchor_in boxes ≡ Some anchor → list_any (λ box. box_covers box cell) boxes ≡ true → value_in cell.at anchor.0 ≡ Some value → anchor.1 ≡ value
region_value [] cell anchor value is covers at = absurd (cc)
region_value (box ∷ []) cell anchor value is covers at =
    elim (held_single None box.columns anchor is) [
      | inl none ↦ absurd (cc)
      | inr held ↦
          let (column, there, same, one) = held in
          elim (or_cases (box_covers box cell) false covers) [
            | inl own ↦ box_value box cell column value anchor.1 own there one (ap (value_in cell.at) same ∙ at)
            | inr none ↦ absurd (cc)
          ]
    ]
region_value (box ∷ other ∷ boxes) cell anchor value is covers at = absurd (cc)

-- ---- the anchor of a region that touches a header

-- a box that touches a header has a value that the header allows, where it has one value
box_meets : (box : RegionBox) (header : Header) (column : ℕ × List ℕ) (value : ℕ) → box_touches box header ≡ true → Contains box.columns column → column.1 ≡ value ∷ [] → meets (Some (column.0, value)) header ≡ true
box_meets box header column value touch held one =
    member_all (λ (own : ℕ × Allowed). not (own.0 == column.0) || allows own.1 value) header.columns each
  where
    owns : list_all (λ (own : ℕ × Allowed). list_all (λ (column : ℕ × List ℕ). not (column.0 == own.0) || list_any (allows own.1) column.1) box.columns) header.columns ≡ true
    owns = (and_parts (of_measure box.measures header.measure) _ touch).1

    each : (own : ℕ × Allowed) → Contains header.columns own → (not (own.0 == column.0) || allows own.1 value) ≡ true
    each own inside =
        let columns = all_member (λ (own : ℕ × Allowed). list_all (λ (column : ℕ × List ℕ). not (column.0 == own.0) || list_any (allows own.1) column.1) box.columns) header.columns own owns inside in
        let mine = all_member (λ (column : ℕ × List ℕ). not (column.0 == own.0) || list_any (allows own.1) column.1) box.columns column columns held in
        elim (or_cases (not (column.0 == own.0)) (list_any (allows own.1) column.1) mine) [
          | inl other ↦ or_left (not (own.0 == column.0)) (allows own.1 value) (ap not (eq_turned own.0 column.0) ∙ other)
          | inr has ↦
              let first : (allows own.1 value || false) ≡ true = rw one at has in
              elim (or_cases (allows own.1 value) false first) [
                | inl allowed ↦ or_right (not (own.0 == column.0)) (allows own.1 value) allowed
                | inr none ↦ absurd (cc)
              ]
        ]

boxes_meet : (boxes : List RegionBox) (header : Header) (o : Option (ℕ × ℕ)) → anchor_in boxes ≡ o → list_any (λ box. box_touches box header) boxes ≡ true → meets o header ≡ true
boxes_meet boxes header None is touch = refl
boxes_meet [] header (Some anchor) is touch = absurd (cc)
boxes_meet (box ∷ []) header (Some anchor) is touch =
    elim (held_single None box.columns anchor is) [
      | inl none ↦ absurd (cc)
      | inr held ↦
          let (column, there, same, one) = held in
          elim (or_cases (box_touches box header) false touch) [
            | inl own ↦ subst (λ (c : ℕ). meets (Some (c, anchor.1)) header ≡ true) same (box_meets box header column anchor.1 own there one)
            | inr none ↦ absurd (cc)
          ]
    ]
boxes_meet (box ∷ other ∷ boxes) header (Some anchor) is touch = absurd (cc)

-- a region touches a header only where the header meets its anchor
pub touch_meets : (region : Region) (header : Header) (o : Option (ℕ × ℕ)) → o ≡ anchor_of region → meets o header ≡ false → region_touches region header ≡ false
touch_meets region header o is apart =
    elim (cases_Bool (region_touches region header)) [
      | inl touch ↦
          let boxes = (and_parts (region.cube == header.cube) (list_any (λ box. box_touches box header) region.boxes) touch).1 in
          let met = boxes_meet region.boxes header o (sym is) boxes in
          absurd (cc)
      | inr none ↦ none
    ]

-- ---- the candidates for a cell

module _ (anchors : AnchorsOf) (cell : Cell) (test : ℕ → Bool) (position : ℕ) (passing : test position ≡ true) where
  among_passes : (ns : List ℕ) → among ns position ≡ true → list_any test ns ≡ true
  among_passes ns h = any_member test ns position (among_held ns position h) passing

  under_passes : (own : ColumnOf) (anchor : ℕ × ℕ) → own.column ≡ anchor.0 → stands_under own anchor.1 position ≡ true → ((value : ℕ) → value_in cell.at anchor.0 ≡ Some value → anchor.1 ≡ value)
      → list_any test (under own (value_in cell.at own.column)) ≡ true
  under_passes own anchor same stands only = by (value_in cell.at own.column) refl
    where
      by : (o : Option ℕ) → value_in cell.at own.column ≡ o → list_any test (under own o) ≡ true
      by None e = among_passes own.all (and_parts (among own.all position) (among (places_at own.by_value anchor.1) position) stands).0
      by (Some value) e =
          let here : anchor.1 ≡ value = only value (ap (value_in cell.at) (sym same) ∙ e) in
          among_passes (places_at own.by_value value)
          (subst (λ (v : ℕ). among (places_at own.by_value v) position ≡ true) here (and_parts (among own.all position) (among (places_at own.by_value anchor.1) position) stands).1)

  candidate_passes : (region : Region) → is_listed anchors (anchor_of region) position ≡ true → region_covers region cell ≡ true → some_candidate anchors cell test ≡ true
  candidate_passes region listed covers = by (anchor_of region) refl listed
    where
      by : (o : Option (ℕ × ℕ)) → anchor_of region ≡ o → is_listed anchors o position ≡ true → some_candidate anchors cell test ≡ true
      by None e stands = or_left (list_any test anchors.wide) _ (among_passes anchors.wide stands)
      by (Some anchor) e stands =
          let (own, inside, is) = member_any (λ (own : ColumnOf). (own.column == anchor.0) && stands_under own anchor.1 position) anchors.columns stands in
          let parts = and_parts (own.column == anchor.0) (stands_under own anchor.1 position) is in
          let boxes = (and_parts (region.cube == cell.cube) (list_any (λ box. box_covers box cell) region.boxes) covers).1 in
          or_right (list_any test anchors.wide) _
          (any_member (λ (own : ColumnOf). list_any test (under own (value_in cell.at own.column))) anchors.columns own inside
          (under_passes own anchor (eqb-true own.column anchor.0 parts.0) parts.1 (λ value at. region_value region.boxes cell anchor value e boxes at)))

-- what passes at some positions passes among the records
pub any_positions : (p : RecordOf → Bool) (records : List RecordOf) (positions : List ℕ) → list_any (passes_at p records) positions ≡ true → list_any p records ≡ true
any_positions p records positions h =
    let (position, held, passing) = member_any (passes_at p records) positions h in
    by position (slice_get records position) refl passing
  where
    by : (i : ℕ) (o : Option RecordOf) → slice_get records i ≡ o → passes p o ≡ true → list_any p records ≡ true
    by i None e passing = absurd (cc)
    by i (Some item) e passing = any_at p records i item e passing

-- a record that covers a cell is found at the candidates for it
pub covered_at : (anchors : AnchorsOf) (records : List RecordOf) (place : ℕ) (cell : Cell) → AreListed anchors records
    → some_candidate anchors cell (passes_at (covers_after place cell) records) ≡ list_any (covers_after place cell) records
covered_at anchors records place cell listed = same_bool _ _ into back
  where
    into : some_candidate anchors cell (passes_at (covers_after place cell) records) ≡ true → list_any (covers_after place cell) records ≡ true
    into h =
        elim (or_cases (list_any (passes_at (covers_after place cell) records) anchors.wide) _ h) [
          | inl wide ↦ any_positions (covers_after place cell) records anchors.wide wide
          | inr some ↦
              let (own, inside, passing) = member_any (λ (own : ColumnOf). list_any (passes_at (covers_after place cell) records) (under own (value_in cell.at own.column))) anchors.columns some in
              any_positions (covers_after place cell) records (under own (value_in cell.at own.column)) passing
        ]

    back : list_any (covers_after place cell) records ≡ true → some_candidate anchors cell (passes_at (covers_after place cell) records) ≡ true
    back h =
        let (item, held, passing) = member_any (covers_after place cell) records h in
        let (position, inside, here) = held in
        let at : slice_get records position ≡ Some item = slice_get-get_or records position item inside ∙ ap Some here in
        candidate_passes anchors cell (passes_at (covers_after place cell) records) position (ap (passes (covers_after place cell)) at ∙ passing)
        item.region (listed position item at) (and_parts (list_any (is_after place) item.flushes) (region_covers item.region cell) passing).1

-- ---- records that are listed

set_there : {X : Type 0} (xs : List X) (k : ℕ) (x new : X) → slice_get xs k ≡ Some x → (i : ℕ) (y : X) → slice_get (set xs k new) i ≡ Some y → (slice_get xs i ≡ Some y) ⊎ ((i ≡ k) × (y ≡ new))
set_there [] k x new there i y at = absurd (cc)
set_there (z ∷ zs) zero x new there zero y at = inr (refl, cc)
set_there (z ∷ zs) zero x new there (suc i) y at = inl at
set_there (z ∷ zs) (suc k) x new there zero y at = inl at
set_there (z ∷ zs) (suc k) x new there (suc i) y at =
    elim (set_there zs k x new there i y at) [ inl here ↦ inl here | inr is ↦ inr (ap suc is.0, is.1) ]

-- a record is another of the same region
pub listed_set : (anchors : AnchorsOf) (records : List RecordOf) (place : ℕ) (item new : RecordOf) → AreListed anchors records → slice_get records place ≡ Some item → new.region ≡ item.region → AreListed anchors (set records place new)
listed_set anchors records place item new listed there same position other at =
    elim (set_there records place item new there position other at) [
      | inl here ↦ listed position other here
      | inr is ↦ subst (λ (r : Region). is_listed anchors (anchor_of r) position ≡ true) (sym (ap (λ (r : RecordOf). r.region) is.1 ∙ same)) (listed position item (ap (slice_get records) is.0 ∙ there))
    ]
