-- Which loads are rolled up to a cell, and whether some are.
use Rattle.std.specs.Prelude.{ℕ, zero, suc, ◌≡◌, ◌≢◌, ◌<◌, ⊤, List, [], ◌∷◌, ◌++◌, Bool, true, false, not, ◌==◌, ◌&&◌, ◌||◌, Option, Some, MatchOption, All, Contains, IsTrue, if◌then◌else◌, length, map, filter_map, option_map, bytes_eq}
use Rattle.std.specs.List.{list_any, list_all}
use Rattle.olap_meaning.specs.declared.Aggregator.{Aggregator}
use Rattle.olap_meaning.specs.declared.Aggregator.TheVariants.{Sum, Count, Min, Max, Avg, DistinctCount}
use Rattle.olap_meaning.specs.declared.cells.Allowed.{Allowed}
use Rattle.olap_meaning.specs.declared.cells.Allowed.TheVariants.{Any, Set}
use Rattle.olap_meaning.specs.declared.cells.Cell.{Cell}
use Rattle.olap_meaning.specs.declared.cells.Header.{Header}
use Rattle.olap_meaning.specs.declared.tables.Catalog.{Catalog}
use Rattle.olap_meaning.specs.declared.tables.Measure.{Measure}
use Rattle.olap_meaning.specs.Catalog.{values}
use Rattle.olap_meaning.specs.Covering.{allows, names_column, header_covers}
use Rattle.olap_meaning.specs.History.{Entry, is_some_and, live, load_at}
use Rattle.olap_meaning.specs.Worth.{measure_of}

-- what a load offers: the cells of a header, in a version of its cube
pub record Offer : Type 0 where
  pub header : Header
  pub version : ℕ

-- the columns of a header
abbrev pub header_columns : Header → List ℕ
header_columns header = map (λ own. own.0) header.columns

-- any value is allowed; a set is not open, though it may hold every value
abbrev pub is_any : Allowed → Bool
is_any Any = true
is_any (Set values) = false

-- a header is open in a column: any value is allowed there, or it lacks the column
abbrev pub is_open_in : Header → ℕ → Bool
is_open_in header column =
    list_all (λ own. not (own.0 == column) || is_any own.1) header.columns

-- a header allows a value in one of its columns
abbrev pub allows_in : Header → ℕ → ℕ → Bool
allows_in header column value =
    list_any (λ own. (own.0 == column) && allows own.1 value) header.columns

-- some offer allows a value in a column
abbrev pub some_allows : List Offer → ℕ → ℕ → Bool
some_allows offers column value =
    list_any (λ offer. allows_in offer.header column value) offers

-- a column of some that a cell lacks
pub record IsLacking (cell : Cell) (columns : List ℕ) (column : ℕ) : Type 0 where
  pub own : Contains columns column
  pub lacked : names_column cell column ≡ false

-- offers hold every value of a column together, which is one that a cell lacks; the values of a column are numbered from
-- 0, and `size` tells how many there are
pub record IsHeld (size : ℕ → ℕ) (cell : Cell) (columns : List ℕ) (offers : List Offer)
    (split : ℕ) : Type 0 where
  pub lacking : IsLacking cell columns split
  pub every : (value : ℕ) → value < size split → IsTrue (some_allows offers split value)

-- offers are rolled up to a cell: there is one; all have one version, and one list of columns, which has more than the
-- cell's; each covers the cell; in each column that the cell lacks, except for at most one, the split, any value is allowed;
-- the offers hold every value of the split together; and the measure is no distinct count
pub record IsRolled (aggregator : Aggregator) (size : ℕ → ℕ) (cell : Cell)
    (offers : List Offer) : Type 0 where
  pub some : 0 < length offers
  pub version : ℕ
  pub one_version : All (λ offer. offer.version ≡ version) offers
  pub columns : List ℕ
  pub one_list : All (λ offer. header_columns offer.header ≡ columns) offers
  pub more : (column : ℕ) × IsLacking cell columns column
  pub covering : All (λ offer. IsTrue (header_covers offer.header cell)) offers
  pub split : Option ℕ
  pub opened : (column : ℕ) → IsLacking cell columns column → split ≢ Some column
      → All (λ offer. IsTrue (is_open_in offer.header column)) offers
  pub held : MatchOption split ⊤ (IsHeld size cell columns offers)
  pub adds_up : aggregator ≢ DistinctCount

-- the aggregates of parts make that of the whole
abbrev pub adds_up : Aggregator → Bool
adds_up Sum = true
adds_up Count = true
adds_up Min = true
adds_up Max = true
adds_up Avg = true
adds_up DistinctCount = false

-- each number below one passes
abbrev pub all_below : ℕ → (ℕ → Bool) → Bool
all_below zero test = true
all_below (suc n) test = all_below n test && test n

-- any value is allowed in each column of a header that a cell lacks, except for the split
abbrev pub is_open_but : Cell → ℕ → Header → Bool
is_open_but cell split header =
    list_all
    (λ own. (own.0 == split) || names_column cell own.0 || is_any own.1) header.columns

-- an offer fits another: it has its version and its columns, covers the cell, and is open except for the split
abbrev pub fits : Cell → ℕ → Offer → Offer → Bool
fits cell split first other =
    (other.version == first.version)
    && bytes_eq (header_columns other.header) (header_columns first.header)
    && header_covers other.header cell && is_open_but cell split other.header

-- the offers that fit one hold every value of the split together
abbrev pub fitting_hold : (ℕ → ℕ) → Cell → List Offer → Offer → ℕ → Bool
fitting_hold size cell offers first split =
    all_below (size split)
    (λ value. list_any
    (λ other. fits cell split first other && allows_in other.header split value) offers)

-- the offers that fit one are rolled up to a cell along a split
abbrev pub can_split : (ℕ → ℕ) → Cell → List Offer → Offer → ℕ → Bool
can_split size cell offers first split =
    not (names_column cell split) && fits cell split first first
    && fitting_hold size cell offers first split

-- so they are along some split
abbrev pub can_begin : (ℕ → ℕ) → Cell → List Offer → Offer → Bool
can_begin size cell offers first =
    list_any (λ own. can_split size cell offers first own.0) first.header.columns

-- some of the offers are rolled up to a cell, as a decision
abbrev pub can_roll : Aggregator → (ℕ → ℕ) → Cell → List Offer → Bool
can_roll aggregator size cell offers =
    adds_up aggregator && list_any (can_begin size cell offers) offers

-- how many values a column of a catalog has
abbrev pub value_count : Catalog → ℕ → ℕ
value_count catalog column = length (values catalog column)

-- what load j offers
abbrev pub offered : List Entry → ℕ → Option Offer
offered history j =
    option_map (λ load. record { header = load.header; version = load.version }) (load_at history j)

-- the loads are a rolled source of a cell: each is live for the cell, and what they offer is rolled up to it
pub record IsRolledSource (catalog : Catalog) (history : List Entry) (cell : Cell)
    (loads : List ℕ) : Type 0 where
  pub lives : All (λ j. IsTrue (live history j cell)) loads
  pub measure : Measure
  pub is_measure : measure_of catalog cell ≡ Some measure
  pub rolled : IsRolled measure.aggregator (value_count catalog) cell
      (filter_map (offered history) loads)

-- the loads up to a position that are live for a cell, rising
abbrev pub live_up_to : List Entry → Cell → ℕ → List ℕ
live_up_to history cell zero = []
live_up_to history cell (suc n) =
    live_up_to history cell n ++ (if live history (suc n) cell then suc n ∷ [] else [])

-- what the loads that are live for a cell offer
abbrev pub live_offers : List Entry → Cell → List Offer
live_offers history cell =
    filter_map (offered history) (live_up_to history cell (length history))

-- a cell has a rolled source, as a decision
abbrev pub has_rolled_source : Catalog → List Entry → Cell → Bool
has_rolled_source catalog history cell =
    is_some_and
    (λ measure. can_roll measure.aggregator (value_count catalog) cell (live_offers history cell))
    (measure_of catalog cell)
