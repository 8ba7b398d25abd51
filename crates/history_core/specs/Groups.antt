-- Which loads some cells lack.
use Rattle.std.specs.Prelude.{ℕ, zero, suc, ◌≡◌, List, [], ◌∷◌, ◌++◌, All, Bool, not, ◌&&◌, ◌==◌, Option, if◌then◌else◌, bytes_eq, filter, filter_map, is_some, length, map, option_map}
use Rattle.std.specs.List.{AllZip, find, list_any, zip}
use Rattle.olap_meaning.specs.declared.cells.Cell.{Cell}
use Rattle.olap_meaning.specs.declared.cells.Header.{Header}
use Rattle.olap_meaning.specs.declared.cells.Who.{Who}
use Rattle.olap_meaning.specs.declared.tables.Catalog.{Catalog}
use Rattle.olap_meaning.specs.Catalog.{values}
use Rattle.olap_meaning.specs.Covering.{columns_of}
use Rattle.olap_meaning.specs.History.{Entry, Load, awaited_load, is_some_and, version}
use Rattle.olap_meaning.specs.Legal.{has_source}
use Rattle.segment_header.specs.Widening.{Allowing, Serves}
use Rattle.history_core.specs.Cache.{CacheOf}

-- this many numbers, from one on
abbrev pub numbers_from : ℕ → ℕ → List ℕ
numbers_from first zero = []
numbers_from first (suc count) = first ∷ numbers_from (suc first) count

-- the cells that have no source, exact or rolled, in order
abbrev pub wanting : Catalog → List Entry → List Cell → List Cell
wanting catalog history cells = filter (λ cell. not (has_source catalog history cell)) cells

-- the cells that await no load in flight, in order
abbrev pub unawaited : List Entry → List Cell → List Cell
unawaited history cells = filter (λ cell. not (is_some (awaited_load history cell))) cells

-- the loads that cells await, each where its cell awaits one
abbrev pub awaited_loads : List Entry → List Cell → List ℕ
awaited_loads history cells = filter_map (awaited_load history) cells

-- two cells may share a load: they have one cube, one measure and the same columns
abbrev pub alike : Cell → Cell → Bool
alike one other =
    (one.cube == other.cube) && (one.measure == other.measure)
    && bytes_eq (columns_of one) (columns_of other)

-- the first cells of the groups of cells that may share a load, in order: those that are alike to none before them
abbrev pub firsts : List Cell → List Cell → List Cell
firsts before [] = []
firsts before (cell ∷ cells) =
    if list_any (alike cell) before then firsts before cells
    else cell ∷ firsts (before ++ cell ∷ []) cells

-- the value of a cell in a column
abbrev pub value_on : ℕ → Cell → Option ℕ
value_on column cell = option_map (λ pair. pair.1) (find (λ pair. pair.0 == column) cell.at)

-- a cell has a value in a column
abbrev pub has_on : ℕ → ℕ → Cell → Bool
has_on column value cell = is_some_and (λ own. own == value) (value_on column cell)

-- the values that some cells have in a column, in the order in which the catalog numbers the column's values
abbrev pub values_on : Catalog → List Cell → ℕ → List ℕ
values_on catalog cells column =
    filter
    (λ value. list_any (has_on column value) cells)
    (numbers_from 0 (length (values catalog column)))

-- a header is one for a load of some cells that may share one, by one of them: it has their cube, their measure and
-- their columns, and allows in each column what it may, by the values that they have there, and what serves these
pub record IsHeaderFor (allowing : Allowing) (catalog : Catalog) (first : Cell) (cells : List Cell)
    (header : Header) : Type 0 where
  pub cube : header.cube ≡ first.cube
  pub measure : header.measure ≡ first.measure
  pub columns : map (λ own. own.0) header.columns ≡ columns_of first
  pub allowed : All
      (λ own. allowing (values_on catalog cells own.0) (length (values catalog own.0)) own.1)
      header.columns
  pub serves : All
      (λ own. Serves (values_on catalog cells own.0) (length (values catalog own.0)) own.1)
      header.columns

-- headers are those for the loads of the groups of some cells: one for each group, in order
abbrev pub AreHeadersFor : Allowing → Catalog → List Cell → List Header → Type 0
AreHeadersFor allowing catalog wanted headers =
    AllZip
    (λ first header. IsHeaderFor allowing catalog first (filter (alike first) wanted) header)
    (firsts [] wanted) headers

-- the load of a group, by its first cell and its header: of the present version, for the sake of the first cell
abbrev pub load_with : CacheOf → Who → Cell → Header → Load
load_with cache who first header =
    record {
      who = who;
      header = header;
      version = version cache.entries first.cube;
      reason = first;
    }

-- the loads of some groups, by their first cells and their headers
abbrev pub loads_over : CacheOf → Who → List Cell → List Header → List Load
loads_over cache who firsts headers =
    map (λ pair. load_with cache who pair.0 pair.1) (zip firsts headers)

-- the cells that want a load: they have no source, and await no load in flight
abbrev pub wanted_of : CacheOf → List Cell → List Cell
wanted_of cache cells =
    unawaited cache.entries (wanting cache.setting.catalog cache.entries cells)

-- the loads that a look starts for some cells with these headers: one for each group of those that want a load
abbrev pub loads_with : CacheOf → Who → List Cell → List Header → List Load
loads_with cache who cells headers =
    loads_over cache who (firsts [] (wanted_of cache cells)) headers

-- how many they are
abbrev pub load_count : CacheOf → List Cell → ℕ
load_count cache cells = length (firsts [] (wanted_of cache cells))
