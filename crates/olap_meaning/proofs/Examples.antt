-- Cases worked by hand: what the definitions say of a small history and a small catalog.
use Rattle.std.proofs.Common.{Ok, Err, ◌≡◌, refl, ℕ, List, [], ◌∷◌, ◌++◌, true, false, Some, None, take, codes, pos, negsuc}
use Rattle.olap_meaning.specs.declared.cells.Who.{Who}
use Rattle.olap_meaning.specs.declared.cells.Cell.{Cell}
use Rattle.olap_meaning.specs.declared.cells.Allowed.{Allowed}
use Rattle.olap_meaning.specs.declared.cells.Allowed.TheVariants.{Any, Set}
use Rattle.olap_meaning.specs.declared.regions.RegionDim.TheVariants.{Measures}
use Rattle.olap_meaning.specs.declared.regions.Region.{Region}
use Rattle.olap_meaning.specs.declared.Aggregator.TheVariants.{Sum, Avg}
use Rattle.olap_meaning.specs.declared.CellValue.TheVariants.{Empty, Whole, Hundredths}
use Rattle.olap_meaning.specs.declared.tables.Row.{Row}
use Rattle.olap_meaning.specs.Values.{aggregate, rounded}
use Rattle.olap_meaning.specs.History.{Entry, Append, Flush, Start, Done, Evict, floor, kept, live, awaited, exact_source, shutting, flush_count}
use Rattle.olap_meaning.specs.Worth.{value}
use Rattle.olap_meaning.specs.Legal.{is_row, is_cell, is_flushable}
use Rattle.olap_meaning.specs.declared.tables.Catalog.{Catalog}
use Rattle.olap_meaning.specs.declared.tables.Record.{Record}
use Rattle.olap_meaning.specs.declared.cells.Member.TheVariants as member
use Rattle.olap_meaning.specs.declared.cells.LevelRef.TheVariants.{Measures as All_measures, Whole, One}
use Rattle.olap_meaning.specs.Catalog.{values, leaf_value, children, level_members, box, match_of, default_member, find_member}

abbrev pub who : ℕ → Who
who call = record { seat = 1; call = call }

abbrev pub cell : List (ℕ × ℕ) → Cell
cell at = record { cube = 0; measure = 0; at = at }

abbrev pub year : Cell
year = cell ((0, 0) ∷ [])

abbrev pub q1 : Cell
q1 = cell ((0, 0) ∷ (1, 0) ∷ [])

abbrev pub q2 : Cell
q2 = cell ((0, 0) ∷ (1, 1) ∷ [])

abbrev pub load : List (ℕ × Allowed) → ℕ → Cell → Entry
load columns v reason = Start (record { who = who 0; header = record { cube = 0; measure = 0; columns = columns }; version = v; reason = reason })

abbrev pub first_quarter : Region
first_quarter = record { cube = 0; dims = Measures ∷ []; boxes = (record { measures = None; columns = (1, 0 ∷ []) ∷ [] }) ∷ [] }

abbrev pub flush_q1 : Entry
flush_q1 = Flush (who 3) first_quarter

abbrev pub rows : List Row
rows = (record { leaves = 0 ∷ []; values = Some (pos 5) ∷ [] }) ∷ (record { leaves = 1 ∷ []; values = Some (pos 7) ∷ [] }) ∷ (record { leaves = 2 ∷ []; values = None ∷ [] }) ∷ []

abbrev pub history : List Entry
history =
    Append (who 1) 0 1 rows
    ∷ load ((0, Any) ∷ []) 1 year ∷ Done (who 0) 2
    ∷ load ((0, Any) ∷ (1, Any) ∷ []) 1 q1 ∷ Done (who 0) 4
    ∷ load ((0, Set (0 ∷ [])) ∷ (1, Set (1 ∷ [])) ∷ []) 1 q2
    ∷ flush_q1 ∷ Done (who 0) 6 ∷ []

year_before : exact_source (take 6 history) year ≡ Some 2
year_before = refl

year_after : exact_source history year ≡ None
year_after = refl

q1_after : live history 4 q1 ≡ false
q1_after = refl

q2_after : exact_source history q2 ≡ Some 6
q2_after = refl

year_not_rolled : live history 6 year ≡ false
year_not_rolled = refl

awaited_before : awaited (take 6 history) 6 q2 ≡ true
awaited_before = refl

awaited_after : awaited history 6 q2 ≡ false
awaited_after = refl

floor_of_year : floor history year ≡ 1
floor_of_year = refl

floor_of_q2 : floor history q2 ≡ 0
floor_of_q2 = refl

-- the flush of a quarter concerns the load of another quarter, and does not touch it
shut_q2 : shutting history 6 ≡ first_quarter ∷ []
shut_q2 = refl

untouched_q2 : flush_count history 6 ≡ 0
untouched_q2 = refl

touched_year : flush_count history 2 ≡ 1
touched_year = refl

evicted : kept (history ++ Evict 4 ∷ []) 4 ≡ false
evicted = refl

evicted_q2 : exact_source (history ++ Evict 6 ∷ []) q2 ≡ Some 4
evicted_q2 = refl

abbrev pub leaf : List ℕ → List ℕ → List ℕ → Record
leaf key year quarter = record { key = key; fields = year ∷ quarter ∷ [] }

-- four days in three quarters of two years, and two stores; the hierarchy of stores has no all member
abbrev pub catalog : Catalog
catalog = record {
  schema = record { dimensions = []; cubes = []; aggregates = [] };
  dimensions =
      (record { name = codes "Time"; records = leaf (codes "a") (codes "2024") (codes "Q1") ∷ leaf (codes "b") (codes "2024") (codes "Q2") ∷ leaf (codes "c") (codes "2023") (codes "Q1") ∷ leaf (codes "d") (codes "2024") (codes "Q1") ∷ [] })
      ∷ (record { name = codes "Store"; records = (record { key = codes "x"; fields = codes "Rome" ∷ [] }) ∷ (record { key = codes "y"; fields = codes "Bern" ∷ [] }) ∷ [] }) ∷ [];
  columns = (record { name = codes "Year"; dimension = 0; field = 0 }) ∷ (record { name = codes "Quarter"; dimension = 0; field = 1 }) ∷ (record { name = codes "City"; dimension = 1; field = 0 }) ∷ [];
  hierarchies =
      (record { name = codes "Time"; dimension = 0; all_member = Some (codes "All Times"); levels = 0 ∷ 1 ∷ [] })
      ∷ (record { name = codes "City"; dimension = 1; all_member = None; levels = 2 ∷ [] }) ∷ [];
  cubes = (record { name = codes "Sales"; dimensions = 0 ∷ []; measures = (record { name = codes "Units"; column = codes "units"; aggregator = Sum }) ∷ [] })
      ∷ (record { name = codes "Stock"; dimensions = 1 ∷ 0 ∷ []; measures = (record { name = codes "Low"; column = codes "pieces"; aggregator = Sum }) ∷ (record { name = codes "Mean"; column = codes "pieces"; aggregator = Avg }) ∷ [] }) ∷ [];
}

quarters : values catalog 1 ≡ codes "Q1" ∷ codes "Q2" ∷ []
quarters = refl

leaf_3 : leaf_value catalog 1 3 ≡ Some 0
leaf_3 = refl

years : children catalog (member.All 0) ≡ member.At 0 (0 ∷ []) ∷ member.At 0 (1 ∷ []) ∷ []
years = refl

quarters_of_2024 : children catalog (member.At 0 (0 ∷ [])) ≡ member.At 0 (0 ∷ 0 ∷ []) ∷ member.At 0 (0 ∷ 1 ∷ []) ∷ []
quarters_of_2024 = refl

below_a_quarter : children catalog (member.At 0 (0 ∷ 0 ∷ [])) ≡ []
below_a_quarter = refl

all_quarters : level_members catalog 0 (One 0 1) ≡ member.At 0 (0 ∷ 0 ∷ []) ∷ member.At 0 (0 ∷ 1 ∷ []) ∷ member.At 0 (1 ∷ 0 ∷ []) ∷ []
all_quarters = refl

all_times :
    level_members catalog 0 (Whole 0)
    ≡ member.All 0 ∷ member.At 0 (0 ∷ []) ∷ member.At 0 (0 ∷ 0 ∷ []) ∷ member.At 0 (0 ∷ 1 ∷ []) ∷ member.At 0 (1 ∷ []) ∷ member.At 0 (1 ∷ 0 ∷ []) ∷ []
all_times = refl

measures_of_stock : level_members catalog 1 All_measures ≡ member.Measure 0 ∷ member.Measure 1 ∷ []
measures_of_stock = refl

default_time : default_member catalog 0 (Whole 0) ≡ Some (member.All 0)
default_time = refl

default_city : default_member catalog 1 (Whole 1) ≡ Some (member.At 1 (0 ∷ []))
default_city = refl

box_of_q2 : box catalog (member.At 0 (0 ∷ 1 ∷ [])) ≡ (0, 0) ∷ (1, 1) ∷ []
box_of_q2 = refl

matched : match_of (codes "q2") (codes "Q1" ∷ codes "Q2" ∷ codes "q2" ∷ []) ≡ Some 2
matched = refl

matched_case : match_of (codes "q1") (codes "Q1" ∷ codes "Q2" ∷ codes "q2" ∷ []) ≡ Some 0
matched_case = refl

found_q2 : find_member catalog 0 (codes "time") (codes "2024" ∷ codes "q2" ∷ []) ≡ Ok (member.At 0 (0 ∷ 1 ∷ []))
found_q2 = refl

found_default : find_member catalog 0 (codes "Time") [] ≡ Ok (member.All 0)
found_default = refl

found_below_all : find_member catalog 0 (codes "Time") (codes "All Times" ∷ codes "2023" ∷ codes "Q1" ∷ []) ≡ Ok (member.At 0 (1 ∷ 0 ∷ []))
found_below_all = refl

found_city : find_member catalog 1 (codes "Store.City") (codes "bern" ∷ []) ≡ Ok (member.At 1 (1 ∷ []))
found_city = refl

found_measure : find_member catalog 1 (codes "Measures") (codes "Mean" ∷ []) ≡ Ok (member.Measure 1)
found_measure = refl

not_found : find_member catalog 0 (codes "Time") (codes "2024" ∷ codes "Q7" ∷ codes "Q8" ∷ []) ≡ Err (codes "Q7")
not_found = refl

no_such_root : find_member catalog 0 (codes "Store.City") [] ≡ Err (codes "Store.City")
no_such_root = refl

-- two measures of one fact column: one number a row
row_of_stock : is_row catalog 1 (record { leaves = 0 ∷ 3 ∷ []; values = Some (pos 5) ∷ [] }) ≡ true
row_of_stock = refl

row_too_long : is_row catalog 1 (record { leaves = 0 ∷ 3 ∷ []; values = Some (pos 5) ∷ None ∷ [] }) ≡ false
row_too_long = refl

row_of_no_leaf : is_row catalog 1 (record { leaves = 2 ∷ 3 ∷ []; values = None ∷ [] }) ≡ false
row_of_no_leaf = refl

cell_of_catalog : is_cell catalog q2 ≡ true
cell_of_catalog = refl

cell_not_rising : is_cell catalog (cell ((1, 1) ∷ (0, 0) ∷ [])) ≡ false
cell_not_rising = refl

-- a column of the catalog that is of no dimension of the cell's cube
cell_of_other_dimension : is_cell catalog (cell ((2, 0) ∷ [])) ≡ false
cell_of_other_dimension = refl

flushable : is_flushable catalog first_quarter ≡ true
flushable = refl

-- a column that the catalog lacks, with no value
not_flushable : is_flushable catalog (record { cube = 0; dims = Measures ∷ []; boxes = (record { measures = None; columns = (3, []) ∷ [] }) ∷ [] }) ≡ false
not_flushable = refl

no_measures : is_flushable catalog (record { cube = 0; dims = []; boxes = [] }) ≡ false
no_measures = refl

year_value : value catalog history year 1 ≡ Whole (pos 12)
year_value = refl

q2_value : value catalog history q2 1 ≡ Whole (pos 7)
q2_value = refl

other_value : value catalog history (cell ((0, 1) ∷ [])) 1 ≡ Empty
other_value = refl

no_rows_yet : value catalog history year 0 ≡ Empty
no_rows_yet = refl

average : aggregate Avg (Some (pos 1) ∷ None ∷ Some (pos 2) ∷ Some (pos 2) ∷ []) ≡ Hundredths (pos 167)
average = refl

half_away : rounded (negsuc 4) 2 ≡ negsuc 2
half_away = refl
