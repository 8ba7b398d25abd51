-- The values that cells of a group have in a column, and the columns of the group's header.
use Rattle.std.proofs.Common.{◌≡◌, refl, sym, ◌∙◌, ap, subst, ℕ, zero, suc, ◌+◌, ◌<◌, ◌≤◌, List, [], ◌∷◌, ◌++◌, length, map, take, filter, Bool, true, false, ◌&&◌, ◌||◌, ◌==◌, inl, inr, Some, option_map, arith, Contains, get_or, All, Ok, Err, IfOk}
use Rattle.std.specs.Prelude.{Result, nat_le, nat_lt}
use Rattle.std.specs.List.{find, list_all, list_any, AllByRecursion}
use Rattle.std.proofs.lemmas.Bool.{and_from, and_parts, cases_order, eq-eqb, eqb-true, lt-ltb, ltb-true, or_cases, or_left, or_right}
use Rattle.std.proofs.lemmas.List.{map_push}
use Rattle.std.proofs.lemmas.List.Elements.{All-from_recursion, All-push}
use Rattle.olap_meaning.proofs.Members.{any_member}
use Rattle.olap_meaning.specs.declared.schema.TheConstants.{RECORD_LIMIT}
use Rattle.olap_meaning.specs.declared.OutOfMemory.{OutOfMemory}
use Rattle.olap_meaning.specs.declared.cells.Allowed.{Allowed}
use Rattle.olap_meaning.specs.declared.cells.Cell.{Cell}
use Rattle.olap_meaning.specs.declared.cells.Header.{Header}
use Rattle.olap_meaning.specs.declared.tables.Catalog.{Catalog}
use Rattle.olap_meaning.specs.Catalog.{values}
use Rattle.olap_meaning.specs.Covering.{among, columns_of}
use Rattle.olap_meaning.specs.History.{is_some_and}
use Rattle.olap_meaning.specs.Legal.{is_cell, is_value, rise}
use Rattle.olap_meaning.proofs.Lists.{below_differs, take_step, take_whole}
use Rattle.olap_meaning.proofs.Orders.{among_held}
use Rattle.list_orders.proofs.Rising.{rising_same}
use Rattle.segment_header.specs.Widening.{Allowing, Serves, Widened, are_below, are_wanted}
use Rattle.history_core.specs.Groups.{IsHeaderFor, alike, has_on, numbers_from, value_on, values_on}
use Rattle.cell_groups.specs.Gathered.{column_at, value_at}
use Rattle.cell_groups.proofs.Alike.{alike_told}
use Rattle.cell_groups.proofs.KeyFacts.{known_rises, known_values}

-- ---- the numbers from one on that pass a test: they rise, and are just those that pass

pub all_above : (p : ℕ → Bool) (n first count : ℕ) → n < first → list_all (nat_lt n) (filter p (numbers_from first count)) ≡ true
all_above p n first zero l = refl
all_above p n first (suc count) l = by (p first) refl (all_above p n (suc first) count (omega (arith, l)))
  where
    by : (b : Bool) → p first ≡ b → list_all (nat_lt n) (filter p (numbers_from (suc first) count)) ≡ true → list_all (nat_lt n) (filter p (numbers_from first (suc count))) ≡ true
    by true e rest = rw e (and_from _ _ (lt-ltb n first l) rest)
    by false e rest = rw e rest

pub rise_passing : (p : ℕ → Bool) (first count : ℕ) → rise (filter p (numbers_from first count)) ≡ true
rise_passing p first zero = refl
rise_passing p first (suc count) = by (p first) refl (rise_passing p (suc first) count)
  where
    by : (b : Bool) → p first ≡ b → rise (filter p (numbers_from (suc first) count)) ≡ true → rise (filter p (numbers_from first (suc count))) ≡ true
    by true e rest = rw e (and_from _ _ (all_above p first (suc first) count (omega arith)) rest)
    by false e rest = rw e rest

pub passing_there : (p : ℕ → Bool) (first count v : ℕ) → first ≤ v → v < first + count → p v ≡ true → among (filter p (numbers_from first count)) v ≡ true
passing_there p first zero v low high passes = absurd (omega (arith, low, high))
passing_there p first (suc count) v low high passes =
    elim (cases_order first v) [
      | inl same ↦ let here : p first ≡ true = ap p same ∙ passes in rw here (or_left _ _ (eq-eqb first v same))
      | inr apart ↦ elim apart [
        | inl less ↦ later (p first) refl (passing_there p (suc first) count v (omega (arith, less)) (omega (arith, high)) passes)
        | inr more ↦ absurd (omega (arith, low, more))
      ]
    ]
  where
    later : (b : Bool) → p first ≡ b → among (filter p (numbers_from (suc first) count)) v ≡ true → among (filter p (numbers_from first (suc count))) v ≡ true
    later true e rest = rw e (or_right (first == v) (among (filter p (numbers_from (suc first) count)) v) rest)
    later false e rest = rw e rest

pub there_passes : (p : ℕ → Bool) (first count v : ℕ) → among (filter p (numbers_from first count)) v ≡ true → p v ≡ true
there_passes p first zero v h = absurd (cc)
there_passes p first (suc count) v h = by (p first) refl h (there_passes p (suc first) count v)
  where
    by : (b : Bool) → p first ≡ b → among (filter p (numbers_from first (suc count))) v ≡ true → (among (filter p (numbers_from (suc first) count)) v ≡ true → p v ≡ true) → p v ≡ true
    by true e k later =
        elim (or_cases (first == v) (among (filter p (numbers_from (suc first) count)) v) (rw e at k)) [
          | inl here ↦ ap p (sym (eqb-true first v here)) ∙ e
          | inr there ↦ later there
        ]
    by false e k later = later (rw e at k)

-- ---- the value of a cell at a place

-- the columns of pairs
abbrev names : List (ℕ × ℕ) → List ℕ
names at = map (λ pair. pair.0) at

name_above : (n : ℕ) (at : List (ℕ × ℕ)) (k : ℕ) → list_all (nat_lt n) (names at) ≡ true → k < length at → n < (get_or at k (0, 0)).0
name_above n [] k all l = absurd (omega (arith, l))
name_above n (p ∷ ps) zero all l = ltb-true n p.0 (and_parts _ _ all).0
name_above n (p ∷ ps) (suc k) all l = name_above n ps k (and_parts _ _ all).1 (omega (arith, l))

-- where columns rise, a pair is found by its column
found_pair : (at : List (ℕ × ℕ)) (k : ℕ) → rise (names at) ≡ true → k < length at → find (λ p. p.0 == (get_or at k (0, 0)).0) at ≡ Some (get_or at k (0, 0))
found_pair [] k up l = absurd (omega (arith, l))
found_pair (p ∷ ps) zero up l = rw (eq-eqb p.0 p.0 refl) refl
found_pair (p ∷ ps) (suc k) up l = rw (below_differs p.0 (get_or ps k (0, 0)).0 (name_above p.0 ps k (and_parts _ _ up).0 (omega (arith, l)))) (found_pair ps k (and_parts _ _ up).1 (omega (arith, l)))

length_names : (at : List (ℕ × ℕ)) → length (names at) ≡ length at
length_names [] = refl
length_names (p ∷ ps) = ap suc (length_names ps)

name_at : (at : List (ℕ × ℕ)) (k : ℕ) → get_or (names at) k 0 ≡ (get_or at k (0, 0)).0
name_at [] k = refl
name_at (p ∷ ps) zero = refl
name_at (p ∷ ps) (suc k) = name_at ps k

-- cells of a group have as many columns
as_many : (first cell : Cell) → alike first cell ≡ true → length first.at ≡ length cell.at
as_many first cell same = sym (length_names first.at) ∙ ap length (alike_told first cell same).columns ∙ length_names cell.at

-- and the same column at each place
same_column : (first cell : Cell) (place : ℕ) → alike first cell ≡ true → (get_or first.at place (0, 0)).0 ≡ (get_or cell.at place (0, 0)).0
same_column first cell place same = sym (name_at first.at place) ∙ ap (λ (ns : List ℕ). get_or ns place 0) (alike_told first cell same).columns ∙ name_at cell.at place

pub enough : (first : Cell) (cells : List Cell) (place : ℕ) → list_all (alike first) cells ≡ true → place < length first.at → All (λ cell. place < length cell.at) cells
enough first cells place same l = All-from_recursion (λ cell. place < length cell.at) cells (each cells same)
  where
    each : (cells : List Cell) → list_all (alike first) cells ≡ true → AllByRecursion (λ cell. place < length cell.at) cells
    each [] same = tt
    each (cell ∷ cells) same =
        let parts = and_parts (alike first cell) (list_all (alike first) cells) same in
        let many = as_many first cell parts.0 in
        (omega (arith, l, many), each cells parts.1)

module _ (catalog : Catalog) (first : Cell) (place : ℕ) (l : place < length first.at) where
  abbrev column : ℕ
  column = column_at place first

  -- a cell of the group has just its value at the place
  has_value : (cell : Cell) (v : ℕ) → is_cell catalog cell ≡ true → alike first cell ≡ true → has_on column v cell ≡ (value_at place cell == v)
  has_value cell v known same =
      let many = as_many first cell same in
      let found : find (λ p. p.0 == (get_or cell.at place (0, 0)).0) cell.at ≡ Some (get_or cell.at place (0, 0)) = found_pair cell.at place (known_rises catalog cell known) (omega (arith, l, many)) in
      let here : value_on column cell ≡ Some (value_at place cell) = ap (λ (n : ℕ). value_on n cell) (same_column first cell place same) ∙ ap (option_map (λ (q : ℕ × ℕ). q.1)) found in
      ap (is_some_and (λ (own : ℕ). own == v)) here

  have_values : (cells : List Cell) (v : ℕ) → list_all (is_cell catalog) cells ≡ true → list_all (alike first) cells ≡ true → list_any (has_on column v) cells ≡ among (map (value_at place) cells) v
  have_values [] v known same = refl
  have_values (cell ∷ cells) v known same =
      let knows = and_parts (is_cell catalog cell) (list_all (is_cell catalog) cells) known in
      let sames = and_parts (alike first cell) (list_all (alike first) cells) same in
      ap (λ (b : Bool). b || list_any (has_on column v) cells) (has_value cell v knows.0 sames.0) ∙ ap (λ (b : Bool). (value_at place cell == v) || b) (have_values cells v knows.1 sames.1)

  -- the column is one of the catalog
  pub known_column : is_cell catalog first ≡ true → column < length catalog.columns
  known_column known = by first.at place (known_values catalog first known) l
    where
      by : (at : List (ℕ × ℕ)) (k : ℕ) → list_all (λ pair. nat_lt pair.0 (length catalog.columns) && is_value catalog pair.0 pair.1) at ≡ true → k < length at → (get_or at k (0, 0)).0 < length catalog.columns
      by [] k all l = absurd (omega (arith, l))
      by (p ∷ ps) zero all l = ltb-true p.0 (length catalog.columns) (and_parts (nat_lt p.0 (length catalog.columns)) (is_value catalog p.0 p.1) (and_parts _ _ all).0).0
      by (p ∷ ps) (suc k) all l = by ps k (and_parts _ _ all).1 (omega (arith, l))

  value_known : (cell : Cell) → is_cell catalog cell ≡ true → alike first cell ≡ true → value_at place cell < length (values catalog column)
  value_known cell known same =
      let many = as_many first cell same in
      let here = by cell.at place (known_values catalog cell known) (omega (arith, l, many)) in
      subst (λ (n : ℕ). value_at place cell < length (values catalog n)) (sym (same_column first cell place same)) here
    where
      by : (at : List (ℕ × ℕ)) (k : ℕ) → list_all (λ pair. nat_lt pair.0 (length catalog.columns) && is_value catalog pair.0 pair.1) at ≡ true → k < length at → (get_or at k (0, 0)).1 < length (values catalog (get_or at k (0, 0)).0)
      by [] k all l = absurd (omega (arith, l))
      by (p ∷ ps) zero all l = ltb-true p.1 (length (values catalog p.0)) (and_parts (nat_lt p.0 (length catalog.columns)) (is_value catalog p.0 p.1) (and_parts _ _ all).0).1
      by (p ∷ ps) (suc k) all l = by ps k (and_parts _ _ all).1 (omega (arith, l))

  among_known : (cells : List Cell) (v : ℕ) → list_all (is_cell catalog) cells ≡ true → list_all (alike first) cells ≡ true → among (map (value_at place) cells) v ≡ true → v < length (values catalog column)
  among_known [] v known same h = absurd (cc)
  among_known (cell ∷ cells) v known same h =
      let knows = and_parts (is_cell catalog cell) (list_all (is_cell catalog) cells) known in
      let sames = and_parts (alike first cell) (list_all (alike first) cells) same in
      elim (or_cases (value_at place cell == v) (among (map (value_at place) cells) v) h) [
        | inl here ↦ let e : value_at place cell ≡ v = eqb-true (value_at place cell) v here in let below = value_known cell knows.0 sames.0 in omega (arith, e, below)
        | inr there ↦ among_known cells v knows.1 sames.1 there
      ]

  module _ (cells : List Cell) (known : list_all (is_cell catalog) cells ≡ true) (same : list_all (alike first) cells ≡ true) (found : List ℕ) (up : rise found ≡ true) (just : (v : ℕ) → among found v ≡ among (map (value_at place) cells) v) where
    -- the values are the one rising list of just those that the cells have in the column
    pub values_are : found ≡ values_on catalog cells column
    values_are =
        rising_same found (values_on catalog cells column) up (rise_passing passes 0 (length (values catalog column)))
        (λ v h.
        let there : among (map (value_at place) cells) v ≡ true = sym (just v) ∙ any_member (λ n. n == v) found v h (eq-eqb v v refl) in
        let below = among_known cells v known same there in
        among_held (values_on catalog cells column) v (passing_there passes 0 (length (values catalog column)) v (omega arith) (omega (arith, below)) (have_values cells v known same ∙ there)))
        (λ v h.
        let passed : passes v ≡ true = there_passes passes 0 (length (values catalog column)) v (any_member (λ n. n == v) (values_on catalog cells column) v h (eq-eqb v v refl)) in
        among_held found v (just v ∙ sym (have_values cells v known same) ∙ passed))
      where
        passes : ℕ → Bool
        passes value = list_any (has_on column value) cells

    own_value : Contains cells first → among found (value_at place first) ≡ true
    own_value has = just (value_at place first) ∙ by cells has
      where
        by : (cs : List Cell) → Contains cs first → among (map (value_at place) cs) (value_at place first) ≡ true
        by [] has = absurd (omega (arith, has.1))
        by (c ∷ cs) (zero, inside, here) = or_left _ _ (eq-eqb (value_at place c) (value_at place first) (ap (value_at place) here))
        by (c ∷ cs) (suc k, inside, here) = or_right (value_at place c == value_at place first) (among (map (value_at place) cs) (value_at place first)) (by cs (k, omega (arith, inside), here))

    -- they may be wanted in the column
    pub wanted_there : Contains cells first → length (values catalog column) ≤ RECORD_LIMIT → are_wanted found (length (values catalog column)) ≡ true
    wanted_there has few =
        and_from _ _
        (and_from _ _ (and_from _ _ (some found (own_value has)) up) (below found (λ v h. among_known cells v known same (sym (just v) ∙ h))))
        (limit (length (values catalog column)) few)
      where
        some : (ns : List ℕ) → among ns (value_at place first) ≡ true → nat_lt 0 (length ns) ≡ true
        some [] h = absurd (cc)
        some (n ∷ ns) h = lt-ltb 0 (length (n ∷ ns)) (omega arith)

        below : (ns : List ℕ) → ((v : ℕ) → among ns v ≡ true → v < length (values catalog column)) → are_below (length (values catalog column)) ns ≡ true
        below [] each = refl
        below (n ∷ ns) each = and_from _ _ (lt-ltb n (length (values catalog column)) (each n (or_left _ _ (eq-eqb n n refl)))) (below ns (λ v h. each v (or_right (n == v) (among ns v) h)))

        limit : (n : ℕ) → n ≤ RECORD_LIMIT → nat_le n RECORD_LIMIT ≡ true
        limit n few = grind (arith, few)

-- what holds of all cells holds of one of them
pub member_passes : (p : Cell → Bool) (cells : List Cell) (cell : Cell) → list_all p cells ≡ true → Contains cells cell → p cell ≡ true
member_passes p [] cell all (k, inside, here) = absurd (omega (arith, inside))
member_passes p (c ∷ cs) cell all (zero, inside, here) = ap p (sym here) ∙ (and_parts _ _ all).0
member_passes p (c ∷ cs) cell all (suc k, inside, here) = member_passes p cs cell (and_parts _ _ all).1 (k, omega (arith, inside), here)

-- ---- what a widener answers

pub answered :
    (answers : List ℕ → ℕ → Result Allowed OutOfMemory → Type 0) (asked wanted : List ℕ) (told count : ℕ) (result : Result Allowed OutOfMemory) → asked ≡ wanted → told ≡ count → answers asked told result
    → IfOk result (λ allowed. Widened answers wanted count allowed)
answered answers asked wanted told count (Ok allowed) same as_told h = subst (λ (n : ℕ). answers wanted n (Ok allowed)) as_told (subst (λ (ns : List ℕ). answers ns told (Ok allowed)) same h)
answered answers asked wanted told count (Err fault) same as_told h = tt

pub served : (asked wanted : List ℕ) (told count : ℕ) (result : Result Allowed OutOfMemory) → asked ≡ wanted → told ≡ count → IfOk result (Serves asked told) → IfOk result (Serves wanted count)
served asked wanted told count result same as_told h = subst (λ (n : ℕ). IfOk result (Serves wanted n)) as_told (subst (λ (ns : List ℕ). IfOk result (Serves ns told)) same h)

-- what holds of the columns up to a place
pub record ColumnsSoFar (allowing : Allowing) (catalog : Catalog) (first : Cell) (cells : List Cell) (place : ℕ) (columns : List (ℕ × Allowed)) : Type 0 where
  pub names : map (λ own. own.0) columns ≡ take place (columns_of first)
  pub allowed : All (λ own. allowing (values_on catalog cells own.0) (length (values catalog own.0)) own.1) columns
  pub serves : All (λ own. Serves (values_on catalog cells own.0) (length (values catalog own.0)) own.1) columns

pub no_columns : (allowing : Allowing) (catalog : Catalog) (first : Cell) (cells : List Cell) → ColumnsSoFar allowing catalog first cells 0 []
no_columns allowing catalog first cells = record { names = refl; allowed = λ k d l. absurd (omega (arith, l)); serves = λ k d l. absurd (omega (arith, l)) }

name_read : (at : List (ℕ × ℕ)) (k d : ℕ) → k < length at → get_or (names at) k d ≡ (get_or at k (0, 0)).0
name_read [] k d l = absurd (omega (arith, l))
name_read (p ∷ ps) zero d l = refl
name_read (p ∷ ps) (suc k) d l = name_read ps k d (omega (arith, l))

pub columns_more :
    (allowing : Allowing) (catalog : Catalog) (first : Cell) (cells : List Cell) (place column : ℕ) (allowed : Allowed) (columns longer : List (ℕ × Allowed)) → place < length first.at → column ≡ column_at place first
    → longer ≡ columns ++ (column, allowed) ∷ [] → allowing (values_on catalog cells (column_at place first)) (length (values catalog (column_at place first))) allowed
    → Serves (values_on catalog cells (column_at place first)) (length (values catalog (column_at place first))) allowed → ColumnsSoFar allowing catalog first cells place columns → ColumnsSoFar allowing catalog first cells (place + 1) longer
columns_more allowing catalog first cells place column allowed columns longer l is more may fits so_far =
    record {
      names =
          ap (map (λ own. own.0)) more ∙ map_push (λ (own : ℕ × Allowed). own.0) columns (column, allowed) ∙ ap (λ (ns : List ℕ). ns ++ column ∷ []) so_far.names
          ∙ sym (take_step (columns_of first) place column (let many = length_names first.at in omega (arith, l, many)) (is ∙ sym (name_read first.at place column l)));
      allowed =
          subst (λ (cs : List (ℕ × Allowed)). All May cs) (sym more)
          (All-push May columns (column, allowed) so_far.allowed (subst (λ (n : ℕ). allowing (values_on catalog cells n) (length (values catalog n)) allowed) (sym is) may));
      serves =
          subst (λ (cs : List (ℕ × Allowed)). All Fits cs) (sym more)
          (All-push Fits columns (column, allowed) so_far.serves (subst (λ (n : ℕ). Serves (values_on catalog cells n) (length (values catalog n)) allowed) (sym is) fits));
    }
  where
    May : ℕ × Allowed → Type 0
    May own = allowing (values_on catalog cells own.0) (length (values catalog own.0)) own.1

    Fits : ℕ × Allowed → Type 0
    Fits own = Serves (values_on catalog cells own.0) (length (values catalog own.0)) own.1

-- all columns make the header
pub header_made :
    (allowing : Allowing) (catalog : Catalog) (first : Cell) (cells : List Cell) (place : ℕ) (header : Header) → place ≡ length first.at → header.cube ≡ first.cube → header.measure ≡ first.measure
    → ColumnsSoFar allowing catalog first cells place header.columns → IsHeaderFor allowing catalog first cells header
header_made allowing catalog first cells place header all cube measure so_far =
    record {
      cube = cube;
      measure = measure;
      columns = so_far.names ∙ ap (λ (n : ℕ). take n (columns_of first)) (all ∙ sym (length_names first.at)) ∙ take_whole (columns_of first);
      allowed = so_far.allowed;
      serves = so_far.serves;
    }
