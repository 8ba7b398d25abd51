-- Cells that may share a load, and the header of their load.
use Rattle.std.proofs.Common.{◌≡◌, refl, sym, ◌∙◌, ap, subst, ℕ, zero, suc, ◌<◌, List, [], ◌∷◌, ◌++◌, length, map, filter, Bool, true, false, ◌&&◌, ◌||◌, ◌==◌, inl, inr, Option, Some, None, slice_get, option_map, arith, All, Contains, get_or}
use Rattle.std.specs.Prelude.{nat_lt}
use Rattle.std.specs.List.{find, list_all, list_any}
use Rattle.std.proofs.lemmas.Bool.{and_from, and_parts, eq-eqb, eqb-true, ltb-true, or_cases, or_left, or_right}
use Rattle.std.proofs.lemmas.Option.{slice_get_read, slice_get_within}
use Rattle.olap_meaning.specs.declared.cells.Allowed.{Allowed}
use Rattle.olap_meaning.specs.declared.cells.Header.{Header}
use Rattle.olap_meaning.specs.declared.cells.Cell.{Cell}
use Rattle.olap_meaning.specs.declared.tables.Catalog.{Catalog}
use Rattle.olap_meaning.specs.Catalog.{values}
use Rattle.olap_meaning.specs.Covering.{allows, among, columns_of, header_covers, just_covers, names_column}
use Rattle.olap_meaning.specs.Legal.{is_cell, is_column_of, is_value, rise}
use Rattle.segment_header.specs.Headers.{is_header, is_set}
use Rattle.segment_header.specs.Widening.{Allowing, Serves}
use Rattle.history_core.specs.Groups.{IsHeaderFor, alike, firsts, has_on, value_on, values_on}
use Rattle.cell_groups.specs.Lent.{lent}
use Rattle.cell_groups.specs.declared.groups.Group.{Group}
use Rattle.cell_groups.proofs.Alike.{Alike, alike_from, alike_self}
use Rattle.cell_groups.proofs.KeyFacts.{known_rises, known_values}
use Rattle.cell_groups.proofs.HeaderFacts.{passing_there}
use Rattle.cache_manager.proofs.Rising.{same_rising}
use Rattle.fact_reader.specs.BodyRows.{is_loadable}
use Rattle.std.proofs.lemmas.List.Elements.{All-head, All-tail, All-weaker}
use Rattle.std.proofs.lemmas.List.Folds.{list_all-map}
use Rattle.segment_body.proofs.CellFacts.{allowed_among}
use Rattle.olap_meaning.specs.History.{is_some_and}
use Rattle.olap_meaning.specs.declared.tables.Cube.{Cube}
use Rattle.olap_meaning.proofs.Lists.{below_differs, passes_at}

-- the columns of pairs
abbrev pub names : List (ℕ × ℕ) → List ℕ
names at = map (λ pair. pair.0) at

pub all_from : {A : Type 0} (p : A → Bool) (xs : List A) → ((k : ℕ) (x : A) → slice_get xs k ≡ Some x → p x ≡ true) → list_all p xs ≡ true
all_from p [] each = refl
all_from p (x ∷ xs) each = and_from _ _ (each 0 x refl) (all_from p xs (λ k y h. each (suc k) y h))

name_at : (at : List (ℕ × ℕ)) (k : ℕ) (pair : ℕ × ℕ) → slice_get at k ≡ Some pair → among (names at) pair.0 ≡ true
name_at [] k pair h = absurd (cc)
name_at (p ∷ ps) zero pair h = let same : p ≡ pair = cc in or_left _ _ (eq-eqb p.0 pair.0 (ap (λ (q : ℕ × ℕ). q.0) same))
name_at (p ∷ ps) (suc k) pair h = or_right _ _ (name_at ps k pair h)

name_above : (n : ℕ) (at : List (ℕ × ℕ)) (k : ℕ) (pair : ℕ × ℕ) → list_all (nat_lt n) (names at) ≡ true → slice_get at k ≡ Some pair → n < pair.0
name_above n [] k pair all h = absurd (cc)
name_above n (p ∷ ps) zero pair all h = let same : p ≡ pair = cc in let e : p.0 ≡ pair.0 = ap (λ (q : ℕ × ℕ). q.0) same in let l : n < p.0 = ltb-true n p.0 (and_parts _ _ all).0 in omega (arith, e, l)
name_above n (p ∷ ps) (suc k) pair all h = name_above n ps k pair (and_parts _ _ all).1 h

-- where columns rise, a pair is found by its column
found_pair : (at : List (ℕ × ℕ)) (k : ℕ) (pair : ℕ × ℕ) → rise (names at) ≡ true → slice_get at k ≡ Some pair → find (λ p. p.0 == pair.0) at ≡ Some pair
found_pair [] k pair up h = absurd (cc)
found_pair (p ∷ ps) zero pair up h =
    let same : p ≡ pair = cc in
    let test : (p.0 == pair.0) ≡ true = eq-eqb p.0 pair.0 (ap (λ (q : ℕ × ℕ). q.0) same) in
    rw test (ap (λ (q : ℕ × ℕ). Some q) same)
found_pair (p ∷ ps) (suc k) pair up h = rw (below_differs p.0 pair.0 (name_above p.0 ps k pair (and_parts _ _ up).0 h)) (found_pair ps k pair (and_parts _ _ up).1 h)

value_here : (cell : Cell) (k : ℕ) (pair : ℕ × ℕ) → rise (columns_of cell) ≡ true → slice_get cell.at k ≡ Some pair → value_on pair.0 cell ≡ Some pair.1
value_here cell k pair up h = ap (option_map (λ (q : ℕ × ℕ). q.1)) (found_pair cell.at k pair up h)

-- a value that a cell of a catalog has in a column is one of the column
found_value :
    (catalog : Catalog) (column v : ℕ) (at : List (ℕ × ℕ)) → list_all (λ pair. nat_lt pair.0 (length catalog.columns) && is_value catalog pair.0 pair.1) at ≡ true
    → is_some_and (λ (own : ℕ). own == v) (option_map (λ (q : ℕ × ℕ). q.1) (find (λ p. p.0 == column) at)) ≡ true → v < length (values catalog column)
found_value catalog column v [] all h = absurd (cc)
found_value catalog column v (p ∷ ps) all h = by (p.0 == column) refl h (found_value catalog column v ps (and_parts _ _ all).1)
  where
    by : (b : Bool) → (p.0 == column) ≡ b → is_some_and (λ (own : ℕ). own == v) (option_map (λ (q : ℕ × ℕ). q.1) (find (λ q. q.0 == column) (p ∷ ps))) ≡ true
        → (is_some_and (λ (own : ℕ). own == v) (option_map (λ (q : ℕ × ℕ). q.1) (find (λ q. q.0 == column) ps)) ≡ true → v < length (values catalog column)) → v < length (values catalog column)
    by true e k later =
        let same : p.1 ≡ v = eqb-true p.1 v (rw e at k) in
        let here : is_value catalog p.0 p.1 ≡ true = (and_parts (nat_lt p.0 (length catalog.columns)) (is_value catalog p.0 p.1) (and_parts _ _ all).0).1 in
        let l : p.1 < length (values catalog p.0) = ltb-true p.1 (length (values catalog p.0)) here in
        let column_is : length (values catalog p.0) ≡ length (values catalog column) = ap (λ (n : ℕ). length (values catalog n)) (eqb-true p.0 column e) in
        omega (arith, l, same, column_is)
    by false e k later = later (rw e at k)

-- a cell of a group has its value among the group's
in_group : (column v : ℕ) (cells : List Cell) (i : ℕ) (cell : Cell) → slice_get cells i ≡ Some cell → has_on column v cell ≡ true → list_any (has_on column v) cells ≡ true
in_group column v [] i cell at has = absurd (cc)
in_group column v (c ∷ cs) zero cell at has = let same : c ≡ cell = cc in or_left _ _ (ap (has_on column v) same ∙ has)
in_group column v (c ∷ cs) (suc i) cell at has = or_right _ _ (in_group column v cs i cell at has)

has_value_on : (catalog : Catalog) (cells : List Cell) (i : ℕ) (cell : Cell) (k : ℕ) (pair : ℕ × ℕ) → is_cell catalog cell ≡ true → slice_get cells i ≡ Some cell → slice_get cell.at k ≡ Some pair → among (values_on catalog cells pair.0) pair.1 ≡ true
has_value_on catalog cells i cell k pair known at there =
    let value : value_on pair.0 cell ≡ Some pair.1 = value_here cell k pair (known_rises catalog cell known) there in
    let has : has_on pair.0 pair.1 cell ≡ true = ap (is_some_and (λ (own : ℕ). own == pair.1)) value ∙ eq-eqb pair.1 pair.1 refl in
    let l : pair.1 < length (values catalog pair.0) = found_value catalog pair.0 pair.1 cell.at (known_values catalog cell known) has in
    passing_there (λ v. list_any (has_on pair.0 v) cells) 0 (length (values catalog pair.0)) pair.1 (omega arith) (omega (arith, l)) (in_group pair.0 pair.1 cells i cell at has)

named_as : (cell : Cell) (x : ℕ) → names_column cell x ≡ among (columns_of cell) x
named_as cell x = by cell.at
  where
    by : (at : List (ℕ × ℕ)) → list_any (λ pair. pair.0 == x) at ≡ among (names at) x
    by [] = refl
    by (p ∷ ps) = ap (λ (b : Bool). (p.0 == x) || b) (by ps)

-- each column of a list is named, where its name is one of the cell's
all_named : (cell : Cell) (columns : List (ℕ × Allowed)) → ((x : ℕ) → among (map (λ own. own.0) columns) x ≡ true → among (columns_of cell) x ≡ true) → list_all (λ own. names_column cell own.0) columns ≡ true
all_named cell [] each = refl
all_named cell (p ∷ ps) each =
    and_from _ _ (named_as cell p.0 ∙ each p.0 (or_left _ _ (eq-eqb p.0 p.0 refl)))
    (all_named cell ps (λ x h. each x (or_right (p.0 == x) (among (map (λ own. own.0) ps) x) h)))

-- a column that is named is one that allows a value, where each of its name does
any_own : (columns : List (ℕ × Allowed)) (x v : ℕ) → among (map (λ own. own.0) columns) x ≡ true → All (λ own. own.0 ≡ x → allows own.1 v ≡ true) columns → list_any (λ own. (own.0 == x) && allows own.1 v) columns ≡ true
any_own [] x v h all = absurd (cc)
any_own (p ∷ ps) x v h all =
    elim (or_cases (p.0 == x) (among (map (λ own. own.0) ps) x) h) [
      | inl here ↦ or_left _ _ (and_from _ _ here (All-head (λ own. own.0 ≡ x → allows own.1 v ≡ true) p ps all (eqb-true p.0 x here)))
      | inr there ↦ or_right _ _ (any_own ps x v there (All-tail (λ own. own.0 ≡ x → allows own.1 v ≡ true) p ps all))
    ]

-- what all of some values have, one of them has
allows_among : (allowed : Allowed) (wanted : List ℕ) (v : ℕ) → list_all (allows allowed) wanted ≡ true → among wanted v ≡ true → allows allowed v ≡ true
allows_among allowed [] v all h = absurd (cc)
allows_among allowed (w ∷ ws) v all h =
    elim (or_cases (w == v) (among ws v) h) [
      | inl here ↦ ap (allows allowed) (sym (eqb-true w v here)) ∙ (and_parts (allows allowed w) (list_all (allows allowed) ws) all).0
      | inr there ↦ allows_among allowed ws v (and_parts (allows allowed w) (list_all (allows allowed) ws) all).1 there
    ]

module _ (allowing : Allowing) (catalog : Catalog) (first : Cell) (cells : List Cell) (header : Header) (is : IsHeaderFor allowing catalog first cells header) where
  abbrev serves_own : ℕ × Allowed → Type 0
  serves_own own = Serves (values_on catalog cells own.0) (length (values catalog own.0)) own.1

  -- the header of a group covers each of its cells with just its columns
  pub group_covered : (i : ℕ) (cell : Cell) → Alike first cell → is_cell catalog cell ≡ true → slice_get cells i ≡ Some cell → just_covers header cell ≡ true
  group_covered i cell like known at =
      and_from _ _
      (and_from _ _ (and_from _ _ (eq-eqb _ _ (is.cube ∙ like.cube)) (eq-eqb _ _ (is.measure ∙ like.measure))) covered)
      (all_named cell header.columns (λ x h. subst (λ (ns : List ℕ). among ns x ≡ true) (is.columns ∙ like.columns) h))
    where
      covered : list_all (λ pair. list_any (λ own. (own.0 == pair.0) && allows own.1 pair.1) header.columns) cell.at ≡ true
      covered =
          all_from (λ pair. list_any (λ own. (own.0 == pair.0) && allows own.1 pair.1) header.columns) cell.at
          (λ k pair there.
          any_own header.columns pair.0 pair.1 (subst (λ (ns : List ℕ). among ns pair.0 ≡ true) (sym (is.columns ∙ like.columns)) (name_at cell.at k pair there))
          (All-weaker serves_own (λ own. own.0 ≡ pair.0 → allows own.1 pair.1 ≡ true)
          (λ own serves same. allows_among own.1 (values_on catalog cells own.0) pair.1 serves.wide (ap (λ (n : ℕ). among (values_on catalog cells n) pair.1) same ∙ has_value_on catalog cells i cell k pair known at there)) header.columns is.serves))

  -- it is well formed
  pub header_formed : is_cell catalog first ≡ true → is_header header ≡ true
  header_formed known = and_from _ _ (ap rise is.columns ∙ known_rises catalog first known) (sets header.columns is.serves)
    where
      sets : (columns : List (ℕ × Allowed)) → All serves_own columns → list_all (λ own. is_set own.1) columns ≡ true
      sets [] all = refl
      sets (p ∷ ps) all = and_from _ _ (All-head serves_own p ps all).formed (sets ps (All-tail serves_own p ps all))

  -- it can be loaded, where its first cell is known
  pub group_loadable : is_cell catalog first ≡ true → is_loadable catalog header ≡ true
  group_loadable known =
      let parts = and_parts _ _ known in
      rw (is.cube, is.measure) (and_from _ _ (and_parts _ _ (and_parts _ _ parts.0).0).0 (by (slice_get catalog.cubes first.cube) parts.1))
    where
      by : (o : Option Cube) → is_some_and (λ (cube : Cube). list_all (λ pair. is_column_of catalog cube.dimensions pair.0) first.at) o ≡ true
          → is_some_and (λ (cube : Cube). list_all (λ own. is_column_of catalog cube.dimensions own.0) header.columns) o ≡ true
      by None h = absurd (cc)
      by (Some cube) h =
          sym (list_all-map (is_column_of catalog cube.dimensions) (λ (own : ℕ × Allowed). own.0) header.columns)
          ∙ ap (list_all (is_column_of catalog cube.dimensions)) is.columns
          ∙ list_all-map (is_column_of catalog cube.dimensions) (λ (pair : ℕ × ℕ). pair.0) first.at ∙ h

  -- a cell that it covers with just its columns is alike to the first
  pub covered_alike : (cell : Cell) → rise (columns_of first) ≡ true → rise (columns_of cell) ≡ true → just_covers header cell ≡ true → alike cell first ≡ true
  covered_alike cell up over h =
      let whole = and_parts (header_covers header cell) (list_all (λ own. names_column cell own.0) header.columns) h in
      let front = and_parts _ _ whole.0 in
      let both = and_parts (header.cube == cell.cube) (header.measure == cell.measure) front.0 in
      alike_from cell first
      (record {
        cube = sym (eqb-true header.cube cell.cube both.0) ∙ is.cube;
        measure = sym (eqb-true header.measure cell.measure both.1) ∙ is.measure;
        columns = same_rising (columns_of cell) (columns_of first) over up (λ x k. subst (λ (ns : List ℕ). among ns x ≡ true) is.columns (into cell.at front.1 x k)) (λ x k. back header.columns whole.1 x (subst (λ (ns : List ℕ). among ns x ≡ true) (sym is.columns) k));
      })
    where
      into : (at : List (ℕ × ℕ)) → list_all (λ pair. list_any (λ own. (own.0 == pair.0) && allows own.1 pair.1) header.columns) at ≡ true → (x : ℕ) → among (names at) x ≡ true → among (map (λ own. own.0) header.columns) x ≡ true
      into [] all x k = absurd (cc)
      into (p ∷ ps) all x k =
          elim (or_cases (p.0 == x) (among (names ps) x) k) [
            | inl here ↦ ap (among (map (λ own. own.0) header.columns)) (sym (eqb-true p.0 x here)) ∙ allowed_among header.columns p.0 p.1 (and_parts _ _ all).0
            | inr there ↦ into ps (and_parts _ _ all).1 x there
          ]

      back : (columns : List (ℕ × Allowed)) → list_all (λ own. names_column cell own.0) columns ≡ true → (x : ℕ) → among (map (λ own. own.0) columns) x ≡ true → among (columns_of cell) x ≡ true
      back [] all x k = absurd (cc)
      back (p ∷ ps) all x k =
          elim (or_cases (p.0 == x) (among (map (λ own. own.0) ps) x) k) [
            | inl here ↦ ap (among (columns_of cell)) (sym (eqb-true p.0 x here)) ∙ sym (named_as cell p.0) ∙ (and_parts _ _ all).0
            | inr there ↦ back ps (and_parts _ _ all).1 x there
          ]

  -- whatever allows its values, it serves
  pub serving_header : IsHeaderFor Serves catalog first cells header
  serving_header = record { cube = is.cube; measure = is.measure; columns = is.columns; allowed = is.serves; serves = is.serves }

pub kept_place : (keep : Cell → Bool) (cells : List Cell) (k : ℕ) (cell : Cell) → slice_get cells k ≡ Some cell → keep cell ≡ true → (i : ℕ) × (slice_get (filter keep cells) i ≡ Some cell)
kept_place keep [] k cell at keeps = absurd (cc)
kept_place keep (c ∷ cs) zero cell at keeps =
    let same : c ≡ cell = cc in
    let here : keep c ≡ true = ap keep same ∙ keeps in
    (0, rw here (ap (λ (d : Cell). Some d) same))
kept_place keep (c ∷ cs) (suc k) cell at keeps = by (keep c) refl (kept_place keep cs k cell at keeps)
  where
    by : (b : Bool) → keep c ≡ b → (i : ℕ) × (slice_get (filter keep cs) i ≡ Some cell) → (i : ℕ) × (slice_get (filter keep (c ∷ cs)) i ≡ Some cell)
    by true e rest = (suc rest.0, rw e rest.1)
    by false e rest = (rest.0, rw e rest.1)

-- a cell is in its own group
pub group_place : (first : Cell) (wanted : List Cell) → Contains wanted first → (i : ℕ) × (slice_get (filter (alike first) wanted) i ≡ Some first)
group_place first wanted has = kept_place (alike first) wanted has.0 first (slice_get_read wanted (length wanted) has.0 first refl has.1 (sym has.2)) (alike_self first)

-- what holds of all cells holds of the first cells
pub firsts_all : (p : Cell → Bool) (before cells : List Cell) → list_all p cells ≡ true → list_all p (firsts before cells) ≡ true
firsts_all p before [] all = refl
firsts_all p before (c ∷ cs) all = by (list_any (alike c) before) refl (firsts_all p before cs (and_parts _ _ all).1) (firsts_all p (before ++ c ∷ []) cs (and_parts _ _ all).1)
  where
    by : (b : Bool) → list_any (alike c) before ≡ b → list_all p (firsts before cs) ≡ true → list_all p (firsts (before ++ c ∷ []) cs) ≡ true → list_all p (firsts before (c ∷ cs)) ≡ true
    by true e seen new = rw e seen
    by false e seen new = rw e (and_from _ _ (and_parts _ _ all).0 new)

-- each first cell is one of the cells
first_there : (before cells : List Cell) (i : ℕ) (cell : Cell) → slice_get (firsts before cells) i ≡ Some cell → (k : ℕ) × (slice_get cells k ≡ Some cell)
first_there before [] i cell at = absurd (cc)
first_there before (c ∷ cs) i cell at = by (list_any (alike c) before) refl i at (first_there before cs) (first_there (before ++ c ∷ []) cs)
  where
    by : (b : Bool) → list_any (alike c) before ≡ b → (i : ℕ) → slice_get (firsts before (c ∷ cs)) i ≡ Some cell
        → ((i : ℕ) (d : Cell) → slice_get (firsts before cs) i ≡ Some d → (k : ℕ) × (slice_get cs k ≡ Some d))
        → ((i : ℕ) (d : Cell) → slice_get (firsts (before ++ c ∷ []) cs) i ≡ Some d → (k : ℕ) × (slice_get cs k ≡ Some d))
        → (k : ℕ) × (slice_get (c ∷ cs) k ≡ Some cell)
    by true e i at seen new = let place = seen i cell (rw e at at) in (suc place.0, place.1)
    by false e zero at seen new = (0, rw e at at)
    by false e (suc i) at seen new = let place = new i cell (rw e at at) in (suc place.0, place.1)

pub contains_at : (cells : List Cell) (k : ℕ) (cell : Cell) → slice_get cells k ≡ Some cell → Contains cells cell
contains_at [] k cell at = absurd (cc)
contains_at (c ∷ cs) zero cell at = (0, omega arith, cc)
contains_at (c ∷ cs) (suc k) cell at = let rest = contains_at cs k cell at in (suc rest.0, omega (arith, rest.1), rest.2)

pub first_contained : (cells : List Cell) (i : ℕ) (cell : Cell) → i < length (firsts [] cells) → cell ≡ get_or (firsts [] cells) i cell → Contains cells cell
first_contained cells i cell l is =
    let place = first_there [] cells i cell (slice_get_read (firsts [] cells) (length (firsts [] cells)) i cell refl l is) in
    contains_at cells place.0 cell place.1

pub first_passes : (p : Cell → Bool) (cells : List Cell) (i : ℕ) (cell : Cell) → list_all p cells ≡ true → i < length (firsts [] cells) → cell ≡ get_or (firsts [] cells) i cell → p cell ≡ true
first_passes p cells i cell all l is = passes_at p (firsts [] cells) i cell (firsts_all p [] cells all) (slice_get_read (firsts [] cells) (length (firsts [] cells)) i cell refl l is)

-- a known cell's cube is one of the catalog's
pub cube_known : (catalog : Catalog) (cell : Cell) → is_cell catalog cell ≡ true → cell.cube < length catalog.cubes
cube_known catalog cell known = by (slice_get catalog.cubes cell.cube) refl (and_parts _ _ known).1
  where
    by : (o : Option Cube) → slice_get catalog.cubes cell.cube ≡ o → is_some_and (λ (cube : Cube). list_all (λ pair. is_column_of catalog cube.dimensions pair.0) cell.at) o ≡ true → cell.cube < length catalog.cubes
    by None at h = absurd (cc)
    by (Some cube) at h = slice_get_within catalog.cubes cell.cube cube at

-- one of some known cells is known
pub known_of : (catalog : Catalog) (cells : List Cell) (cell : Cell) → list_all (is_cell catalog) cells ≡ true → Contains cells cell → is_cell catalog cell ≡ true
known_of catalog cells cell known has = passes_at (is_cell catalog) cells has.0 cell known (slice_get_read cells (length cells) has.0 cell refl has.1 (sym has.2))

-- what holds of cells holds of those of a group
pub group_known : (catalog : Catalog) (keep : Cell → Bool) (cells : List Cell) → list_all (is_cell catalog) cells ≡ true → list_all (is_cell catalog) (filter keep cells) ≡ true
group_known catalog keep [] all = refl
group_known catalog keep (cell ∷ cells) all = by (keep cell) refl (group_known catalog keep cells (and_parts _ _ all).1)
  where
    by : (b : Bool) → keep cell ≡ b → list_all (is_cell catalog) (filter keep cells) ≡ true → list_all (is_cell catalog) (filter keep (cell ∷ cells)) ≡ true
    by true e rest = rw e (and_from _ _ (and_parts _ _ all).0 rest)
    by false e rest = rw e rest

-- a group that was found has the cells that are alike to its first one
pub group_at : (wanted : List Cell) (groups : List Group) (i : ℕ) (group : Group) → All (λ g. lent g.cells.items ≡ filter (alike g.first.now) wanted) groups → i < length groups → group ≡ get_or groups i group → lent group.cells.items ≡ filter (alike group.first.now) wanted
group_at wanted groups i group all l is = subst (λ (g : Group). lent g.cells.items ≡ filter (alike g.first.now) wanted) (sym is) (all i group l)

-- its first cell is that of its place
first_at : (groups : List Group) (i : ℕ) (group : Group) → i < length groups → group ≡ get_or groups i group → (i < length (map (λ g. g.first.now) groups)) × (group.first.now ≡ get_or (map (λ g. g.first.now) groups) i group.first.now)
first_at [] i group l is = absurd (omega (arith, l))
first_at (g ∷ gs) zero group l is = (omega arith, ap (λ (h : Group). h.first.now) is)
first_at (g ∷ gs) (suc i) group l is = let rest = first_at gs i group (omega (arith, l)) is in (let inside = rest.0 in omega (arith, inside), rest.1)

-- and one of the cells
pub first_wanted : (wanted : List Cell) (groups : List Group) (i : ℕ) (group : Group) → map (λ g. g.first.now) groups ≡ firsts [] wanted → i < length groups → group ≡ get_or groups i group → Contains wanted group.first.now
first_wanted wanted groups i group are l is =
    let at = first_at groups i group l is in
    first_contained wanted i group.first.now (subst (λ (cs : List Cell). i < length cs) are at.0) (subst (λ (cs : List Cell). group.first.now ≡ get_or cs i group.first.now) are at.1)
