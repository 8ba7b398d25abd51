-- By what the records that can cover a cell are found.
use Rattle.std.specs.Prelude.{ℕ, ◌≡◌, ◌==◌, ◌&&◌, ◌||◌, [], ◌∷◌, List, Bool, true, not, Option, Some, None, if◌then◌else◌, slice_get}
use Rattle.std.specs.List.{list_all, list_any}
use Rattle.std.specs.Option.{option_or}
use Rattle.olap_meaning.specs.declared.cells.Cell.{Cell}
use Rattle.olap_meaning.specs.declared.cells.Header.{Header}
use Rattle.olap_meaning.specs.declared.regions.Region.{Region}
use Rattle.olap_meaning.specs.declared.regions.RegionBox.{RegionBox}
use Rattle.olap_meaning.specs.Covering.{allows, among, region_covers}
use Rattle.cache_flush.specs.Records.{RecordOf, is_after}

-- ---- the anchor of a region

-- the one value of a column, where it is one
abbrev pub one_value : ℕ → List ℕ → Option (ℕ × ℕ)
one_value column [] = None
one_value column (value ∷ []) = Some (column, value)
one_value column (value ∷ other ∷ values) = None

-- the last of some columns that has one value, with it; another where there is none
abbrev pub last_single : Option (ℕ × ℕ) → List (ℕ × List ℕ) → Option (ℕ × ℕ)
last_single before [] = before
last_single before (column ∷ columns) =
    last_single (option_or (one_value column.0 column.1) before) columns

-- so of boxes that are one box
abbrev pub anchor_in : List RegionBox → Option (ℕ × ℕ)
anchor_in [] = None
anchor_in (box ∷ []) = last_single None box.columns
anchor_in (box ∷ other ∷ boxes) = None

-- the anchor of a region of one box: the last column with one value, and this value
abbrev pub anchor_of : Region → Option (ℕ × ℕ)
anchor_of region = anchor_in region.boxes

-- ---- positions under keys

-- the positions under a key
abbrev pub places_at : List (ℕ × List ℕ) → ℕ → List ℕ
places_at [] key = []
places_at (entry ∷ entries) key =
    if key == entry.0 then entry.1 else places_at entries key

-- ---- positions under anchors

-- the positions under one column: all, and those under each value
pub record ColumnOf : Type 0 where
  pub column : ℕ
  pub all : List ℕ
  pub by_value : List (ℕ × List ℕ)

-- the positions without an anchor, and those under each column
pub record AnchorsOf : Type 0 where
  pub wide : List ℕ
  pub columns : List ColumnOf

-- a position stands under a value of a column
abbrev pub stands_under : ColumnOf → ℕ → ℕ → Bool
stands_under own value position =
    among own.all position && among (places_at own.by_value value) position

-- a position stands where its anchor says
abbrev pub is_listed : AnchorsOf → Option (ℕ × ℕ) → ℕ → Bool
is_listed anchors None position = among anchors.wide position
is_listed anchors (Some anchor) position =
    list_any
    (λ own. (own.column == anchor.0) && stands_under own anchor.1 position) anchors.columns

-- each record stands where the anchor of its region says
abbrev pub AreListed : AnchorsOf → List RecordOf → Type 0
AreListed anchors records =
    (position : ℕ) (item : RecordOf) → slice_get records position ≡ Some item
    → is_listed anchors (anchor_of item.region) position ≡ true

-- ---- the candidates for a cell

-- the value of a column, where some pairs name it
abbrev pub value_in : List (ℕ × ℕ) → ℕ → Option ℕ
value_in [] column = None
value_in (pair ∷ pairs) column =
    if pair.0 == column then Some pair.1 else value_in pairs column

-- the positions under one value of a column, or all where there is none
abbrev pub under : ColumnOf → Option ℕ → List ℕ
under own None = own.all
under own (Some value) = places_at own.by_value value

-- a position passes a test that is a candidate for a cell: it has no anchor, or stands under the cell's value, or under
-- a column that the cell does not name
abbrev pub some_candidate : AnchorsOf → Cell → (ℕ → Bool) → Bool
some_candidate anchors cell test =
    list_any test anchors.wide
    || list_any (λ own. list_any test (under own (value_in cell.at own.column))) anchors.columns

-- a record has a flush after a place, and its region covers a cell
abbrev pub covers_after : ℕ → Cell → RecordOf → Bool
covers_after place cell item =
    list_any (is_after place) item.flushes && region_covers item.region cell

-- ---- the anchor of a region, and a header

-- a header allows the value of an anchor, where it names its column
abbrev pub meets : Option (ℕ × ℕ) → Header → Bool
meets None header = true
meets (Some anchor) header =
    list_all (λ own. not (own.0 == anchor.0) || allows own.1 anchor.1) header.columns
