-- What is picked of some kept loads, one after another, so that each value of a split is of one of them.
use Rattle.std.specs.Prelude.{ℕ, ◌≡◌, ◌⊎◌, ◌<◌, ◌≤◌, ◌==◌, ◌&&◌, ◌||◌, List, [], ◌∷◌, Bool, true, false, not, Some, All, Contains, IsTrue, length, map, bytes_eq, nat_lt, slice_get, slice_index_or}
use Rattle.std.specs.List.{list_any}
use Rattle.std.specs.Borrow.{Bor}
use Rattle.olap_meaning.specs.declared.cells.Allowed.{Allowed}
use Rattle.olap_meaning.specs.declared.cells.Allowed.TheVariants.{Any, Set}
use Rattle.olap_meaning.specs.declared.cells.Cell.{Cell}
use Rattle.olap_meaning.specs.Covering.{allows, among, names_column}
use Rattle.olap_meaning.specs.Rolled.{all_below, allows_in, can_begin, header_columns, is_open_but, is_open_in}
use Rattle.segment_header.specs.Headers.{is_header, is_set}
use Rattle.cache_flush.specs.Loads.{KeptOf, kept_of}
use Rattle.cache_flush.specs.declared.kept.Kept.{Kept}
use Rattle.rollup_plan.specs.Plans.{offer_of}
use Rattle.rollup_plan.specs.declared.plan.Part.{Part}
use Rattle.rollup_plan.specs.declared.plan.Plan.{Plan}

-- a kept load without what shuts off part of it
abbrev pub bare_of : KeptOf → KeptOf
bare_of kept = record kept { shut = [] }

-- so kept loads are
abbrev pub bare : List KeptOf → List KeptOf
bare loads = map bare_of loads

-- kept loads that are lent, without what shuts off parts of them
abbrev pub lent : List (Bor Kept) → List KeptOf
lent kept = map (λ (one : Bor Kept). kept_of one.now) kept

-- a value is marked
abbrev pub is_marked : List Bool → ℕ → Bool
is_marked marks value = slice_index_or marks value false

-- a value has a mark, which is not set
abbrev pub is_free : List Bool → ℕ → Bool
is_free marks value = nat_lt value (length marks) && not (is_marked marks value)

-- the values of a set
abbrev pub listed : Allowed → List ℕ
listed Any = []
listed (Set values) = values

-- the part of a load that brings some values: none where it brings none
abbrev pub part_with : ℕ → List ℕ → List Part
part_with load [] = []
part_with load (value ∷ values) = record { load = load; own = Set (value ∷ values) } ∷ []

-- a kept load is open in each column that a cell lacks, except for the split
abbrev pub is_open : Cell → ℕ → KeptOf → Bool
is_open cell split kept = is_open_but cell split kept.body.header

-- such a load allows a value of the split
abbrev pub has_value : Cell → ℕ → ℕ → KeptOf → Bool
has_value cell split value kept =
    is_open cell split kept && allows_in kept.body.header split value

-- such a load allows each value of the split: it is open there too, or the split has no values
abbrev pub is_whole : ℕ → Cell → ℕ → KeptOf → Bool
is_whole size cell split kept =
    is_open cell split kept && ((size == 0) || is_open_in kept.body.header split)

-- loads of one kind are rolled up to a cell along a split
abbrev pub kind_splits : ℕ → Cell → ℕ → List KeptOf → Bool
kind_splits size cell split loads =
    list_any (is_open cell split) loads
    && all_below size (λ value. list_any (has_value cell split value) loads)

-- a kept load that is picked, and the values of the split that are its own
pub record Pick : Type 0 where
  pub kept : KeptOf
  pub own : Allowed

-- the part of a pick
abbrev pub part_of : Pick → Part
part_of pick = record { load = pick.kept.load; own = pick.own }

-- some pick has a value
abbrev pub some_pick : List Pick → ℕ → Bool
some_pick picks value = list_any (λ pick. allows pick.own value) picks

-- a pick has a value below the size as its own
abbrev pub HasOwn : ℕ → Pick → Type 0
HasOwn size pick = (value : ℕ) × (value < size) × IsTrue (allows pick.own value)

-- picks are from some loads: each is open except for the split, and has values that its load allows; no value below the size
-- that the load of a pick allows is a later pick's own
pub record ArePicks (size : ℕ) (cell : Cell) (split : ℕ) (loads : List KeptOf) (picks : List Pick)
    : Type 0 where
  pub own : All (λ pick. Contains loads pick.kept) picks
  pub opened : All (λ pick. IsTrue (is_open cell split pick.kept)) picks
  pub formed : All (λ pick. IsTrue (is_header pick.kept.body.header)) picks
  pub sets : All (λ pick. IsTrue (is_set pick.own)) picks
  pub within : All
      (λ pick. (value : ℕ) → IsTrue (allows pick.own value)
      → IsTrue (allows_in pick.kept.body.header split value)) picks
  pub fresh : (i j : ℕ) (one other : Pick) → i < j → slice_get picks i ≡ Some one
      → slice_get picks j ≡ Some other → (value : ℕ) → value < size
      → allows_in one.kept.body.header split value ≡ true → allows other.own value ≡ false

-- parts are picked from some loads: there is one, and they have each value below the size; where there are more, each has
-- something of its own
pub record ArePicked (size : ℕ) (cell : Cell) (split : ℕ) (loads : List KeptOf) (parts : List Part)
    : Type 0 where
  pub picks : List Pick
  pub same : map part_of picks ≡ parts
  pub good : ArePicks size cell split loads picks
  pub some : 0 < length picks
  pub every : (value : ℕ) → value < size → IsTrue (some_pick picks value)
  pub needed : (length picks ≡ 1) ⊎ All (HasOwn size) picks

-- parts are picked as far as loads were seen, and the marks tell which values they have
pub record ArePickedOf (size : ℕ) (cell : Cell) (split : ℕ) (loads seen : List KeptOf)
    (parts : List Part) (marks : List Bool) : Type 0 where
  pub picks : List Pick
  pub same : map part_of picks ≡ parts
  pub good : ArePicks size cell split loads picks
  pub seen_all : All (λ pick. Contains seen pick.kept) picks
  pub needed : All (HasOwn size) picks
  pub count : length marks ≡ size
  pub marked : (value : ℕ) → value < size → is_marked marks value ≡ some_pick picks value
  pub told : (value : ℕ) → value < size
      → some_pick picks value ≡ list_any (has_value cell split value) seen

-- the values of a split that loads have are no more than this many
pub record AreCounted (cell : Cell) (split : ℕ) (loads : List KeptOf) (count : ℕ) : Type 0 where
  pub values : List ℕ
  pub fits : length values ≤ count
  pub all : (value : ℕ) → IsTrue (list_any (has_value cell split value) loads)
      → IsTrue (among values value)

-- two kept loads are of one kind: they have one version and the same columns
abbrev pub are_kin : KeptOf → KeptOf → Bool
are_kin one other =
    (other.version == one.version)
    && bytes_eq (header_columns other.body.header) (header_columns one.body.header)

-- loads of one kind are rolled up to a cell along a column that the cell lacks
abbrev pub splits_along : (ℕ → ℕ) → Cell → List KeptOf → ℕ → Bool
splits_along size cell kin split =
    not (names_column cell split) && kind_splits (size split) cell split kin

-- so they are along some column of one of them
abbrev pub kin_splits : (ℕ → ℕ) → Cell → KeptOf → List KeptOf → Bool
kin_splits size cell first kin =
    list_any (λ own. splits_along size cell kin own.0) first.body.header.columns

-- some load can be begun with
abbrev pub can_begin_some : (ℕ → ℕ) → Cell → List KeptOf → Bool
can_begin_some size cell loads =
    list_any (can_begin size cell (map offer_of loads)) (map offer_of loads)

-- a plan is picked from loads of one kind, along a column that the cell lacks
pub record IsPickedFrom (size : ℕ → ℕ) (cell : Cell) (kin : List KeptOf) (plan : Plan)
    : Type 0 where
  pub lacked : names_column cell plan.split ≡ false
  pub picked : ArePicked (size plan.split) cell plan.split kin plan.parts

-- a plan is picked from loads, all of one kind, along a column that they have; none of all loads that could have been
-- begun with is newer
pub record IsPicked (size : ℕ → ℕ) (cell : Cell) (loads : List KeptOf) (plan : Plan) : Type 0 where
  pub first : KeptOf
  pub kin : List KeptOf
  pub known : All (Contains loads) kin
  pub alike : All (λ kept. IsTrue (are_kin first kept)) kin
  pub having : Contains (header_columns first.body.header) plan.split
  pub from : IsPickedFrom size cell kin plan
  pub newest : All
      (λ kept. IsTrue (can_begin size cell (map offer_of loads) (offer_of kept))
      → kept.version ≤ first.version) loads

-- of some loads, others are left: each that may be begun with, and with each the others of its kind
pub record IsLeft (size : ℕ → ℕ) (cell : Cell) (loads rest : List KeptOf) : Type 0 where
  pub known : All (Contains loads) rest
  pub kept : (one other : KeptOf) → Contains rest one → Contains loads other
      → IsTrue (are_kin one other) → Contains rest other
  pub may : (one : KeptOf) → Contains loads one
      → IsTrue (can_begin size cell (map offer_of loads) (offer_of one)) → Contains rest one
