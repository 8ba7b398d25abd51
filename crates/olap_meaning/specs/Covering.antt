-- Which cells a header, a box and a region cover.
use Rattle.std.specs.Prelude.{ℕ, List, Bool, true, ◌==◌, ◌&&◌, ◌||◌, not, Option, Some, None, ◌≡◌, Contains, filter, map, count_by}
use Rattle.std.specs.List.{list_any, list_all}
use Rattle.olap_meaning.specs.declared.cells.Cell.{Cell}
use Rattle.olap_meaning.specs.declared.cells.Header.{Header}
use Rattle.olap_meaning.specs.declared.cells.Allowed.{Allowed}
use Rattle.olap_meaning.specs.declared.cells.Allowed.TheVariants.{Any, Set}
use Rattle.olap_meaning.specs.declared.regions.RegionBox.{RegionBox}
use Rattle.olap_meaning.specs.declared.regions.Region.{Region}

-- a number is one of a list
abbrev pub among : List ℕ → ℕ → Bool
among values value = list_any (λ v. v == value) values

-- a value is allowed: any is, or it is one of the set
abbrev pub allows : Allowed → ℕ → Bool
allows Any value = true
allows (Set values) value = among values value

-- the columns of a cell
abbrev pub columns_of : Cell → List ℕ
columns_of cell = map (λ pair. pair.0) cell.at

-- a cell names a column
abbrev pub names_column : Cell → ℕ → Bool
names_column cell column = list_any (λ pair. pair.0 == column) cell.at

-- a header covers a cell: cube and measure are the cell's, each column of the cell is one of its columns, and the
-- cell's value is allowed there
abbrev pub header_covers : Header → Cell → Bool
header_covers header cell =
    (header.cube == cell.cube) && (header.measure == cell.measure)
    && list_all
    (λ pair. list_any
    (λ column. (column.0 == pair.0) && allows column.1 pair.1) header.columns) cell.at

-- a header covers a cell with just the cell's columns
abbrev pub just_covers : Header → Cell → Bool
just_covers header cell =
    header_covers header cell && list_all (λ column. names_column cell column.0) header.columns

-- a box is of a measure: it has the measure, or names no measures
abbrev pub of_measure : Option (List ℕ) → ℕ → Bool
of_measure None measure = true
of_measure (Some measures) measure = among measures measure

-- a box covers a cell: it is of the cell's measure, and on each column that both name it has the cell's value (Cache
-- Control; that it covers cells above it too is this project's rule)
abbrev pub box_covers : RegionBox → Cell → Bool
box_covers box cell =
    of_measure box.measures cell.measure
    && list_all
    (λ pair. list_all
    (λ column. not (column.0 == pair.0) || among column.1 pair.1) box.columns) cell.at

-- a region covers a cell: the cube is the cell's, and one of its boxes covers the cell (Cache Control)
abbrev pub region_covers : Region → Cell → Bool
region_covers region cell =
    (region.cube == cell.cube) && list_any (λ box. box_covers box cell) region.boxes

-- a box touches a header: it is of the header's measure, and on each column that both name it has a value that the
-- header allows
abbrev pub box_touches : RegionBox → Header → Bool
box_touches box header =
    of_measure box.measures header.measure
    && list_all
    (λ own. list_all
    (λ column. not (column.0 == own.0)
    || list_any (allows own.1) column.1) box.columns) header.columns

-- a region touches a header: the cube is the header's, and one of its boxes touches the header
abbrev pub region_touches : Region → Header → Bool
region_touches region header =
    (region.cube == header.cube) && list_any (λ box. box_touches box header) region.boxes

-- a region concerns a header: the cube is the header's, and one of its boxes is of the header's measure
abbrev pub region_concerns : Region → Header → Bool
region_concerns region header =
    (region.cube == header.cube)
    && list_any (λ box. of_measure box.measures header.measure) region.boxes

-- those of some regions that concern a header, in order
abbrev pub concerning : Header → List Region → List Region
concerning header regions = filter (λ region. region_concerns region header) regions

-- how many of some regions touch a header
abbrev pub touching : Header → List Region → ℕ
touching header regions = count_by (λ region. region_touches region header) regions

-- one cell has fewer columns than another: each of its pairs of column and value is a pair of the other
pub record HasFewerColumns (fewer more : Cell) : Type 0 where
  pub cube : fewer.cube ≡ more.cube
  pub measure : fewer.measure ≡ more.measure
  pub pairs : (pair : ℕ × ℕ) → Contains fewer.at pair → Contains more.at pair
