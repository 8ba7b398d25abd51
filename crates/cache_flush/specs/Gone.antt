-- When flushed regions shut off a header as a whole.
use Rattle.std.specs.Prelude.{ℕ, suc, ◌≡◌, ◌==◌, ◌&&◌, ◌||◌, List, Bool, true, false, not, if◌then◌else◌, IsTrue, Option, Some, None, fold, length, nat_le}
use Rattle.std.specs.List.{list_all, list_any}
use Rattle.olap_meaning.specs.declared.cells.Allowed.{Allowed}
use Rattle.olap_meaning.specs.declared.cells.Allowed.TheVariants.{Any, Set}
use Rattle.olap_meaning.specs.declared.cells.Cell.{Cell}
use Rattle.olap_meaning.specs.declared.cells.Header.{Header}
use Rattle.olap_meaning.specs.declared.regions.Region.{Region}
use Rattle.olap_meaning.specs.declared.regions.RegionBox.{RegionBox}
use Rattle.olap_meaning.specs.Covering.{among, header_covers, of_measure}
use Rattle.cache_flush.specs.Formed.{is_formed, values_of}
use Rattle.cache_flush.specs.Records.{LedgerOf, RecordOf, is_after, passes_at}
use Rattle.cache_flush.specs.Shuts.{is_live}
use Rattle.cache_flush.specs.declared.gone.TheConstants.{FEW_VALUES}

-- regions shut off a header as a whole: no well-formed cell that it covers is live under them. Here and below, sizes tell
-- how many values each column has
abbrev pub NoneIsLive : (ℕ → ℕ) → List Region → Header → Type 0
NoneIsLive sizes regions header =
    (cell : Cell) → IsTrue (is_formed sizes cell) → IsTrue (header_covers header cell)
    → is_live regions cell ≡ false

-- how many of the first numbers stand among values in their order
abbrev pub reached : List ℕ → ℕ
reached values = fold (λ next value. if value == next then suc next else next) 0 values

-- some values are among others: they are not more, and each is one of them
abbrev pub have_all : List ℕ → List ℕ → Bool
have_all values wanted =
    nat_le (length wanted) (length values) && list_all (among values) wanted

-- values have all that a column of this size allows: where it allows any, they have each value of the column, in order
abbrev pub has_all : ℕ → List ℕ → Allowed → Bool
has_all size values Any = nat_le size (reached values)
has_all size values (Set wanted) = have_all values wanted

-- the columns of a box have all that a header's column of this size allows, where they name it
abbrev pub column_spans : ℕ → List (ℕ × List ℕ) → ℕ → Allowed → Bool
column_spans size columns own allowed =
    list_all (λ column. not (column.0 == own) || has_all size column.1 allowed) columns

-- the columns of a box have a value in a column, where they name it
abbrev pub column_holds : List (ℕ × List ℕ) → ℕ → ℕ → Bool
column_holds columns own value =
    list_all (λ column. not (column.0 == own) || among column.1 value) columns

-- the columns of a box have the value to which a header is narrowed, if it is
abbrev pub holds_along : Option (ℕ × ℕ) → List (ℕ × List ℕ) → Bool
holds_along None columns = true
holds_along (Some along) columns = column_holds columns along.0 along.1

-- a column is the one that is narrowed
abbrev pub is_along : Option (ℕ × ℕ) → ℕ → Bool
is_along None own = false
is_along (Some along) own = along.0 == own

-- a box spans a header, which may be narrowed to one value along one column: it is of its measure, has that value, and
-- has all that the other columns allow
abbrev pub box_spans : (ℕ → ℕ) → Option (ℕ × ℕ) → Header → RegionBox → Bool
box_spans sizes along header box =
    of_measure box.measures header.measure && holds_along along box.columns
    && list_all
    (λ own. is_along along own.0 || column_spans (sizes own.0) box.columns own.0 own.1)
    header.columns

-- a region spans a header, which may be narrowed: the cube is the header's, and one of its boxes spans it
abbrev pub region_spans : (ℕ → ℕ) → Option (ℕ × ℕ) → Header → Region → Bool
region_spans sizes along header region =
    (region.cube == header.cube) && list_any (box_spans sizes along header) region.boxes

-- a record has a flush after a place, and its region spans a header, which may be narrowed
abbrev pub spans_after : (ℕ → ℕ) → ℕ → Option (ℕ × ℕ) → Header → RecordOf → Bool
spans_after sizes place along header item =
    list_any (is_after place) item.flushes && region_spans sizes along header item.region

-- so does one of the records that were flushed last
abbrev pub records_span : (ℕ → ℕ) → LedgerOf → ℕ → Option (ℕ × ℕ) → Header → Bool
records_span sizes ledger place along header =
    list_any (passes_at (spans_after sizes place along header) ledger.records) ledger.recent

-- a box of a region names a column
abbrev pub region_names : Region → ℕ → Bool
region_names region own = list_any (λ box. list_any (λ column. column.0 == own) box.columns) region.boxes

-- along a column that a region names, with few allowed values, the region spans a header that is narrowed to one of them,
-- and for each of them the region or one of the records that were flushed last does
abbrev pub spans_along : (ℕ → ℕ) → LedgerOf → ℕ → Header → Region → ℕ → Allowed → Bool
spans_along sizes ledger place header region own allowed =
    region_names region own
    && nat_le (length (values_of (sizes own) allowed)) FEW_VALUES
    && list_any (λ value. region_spans sizes (Some (own, value)) header region)
    (values_of (sizes own) allowed)
    && list_all
    (λ value. region_spans sizes (Some (own, value)) header region
    || records_span sizes ledger place (Some (own, value)) header)
    (values_of (sizes own) allowed)
