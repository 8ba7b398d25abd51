-- The conditions of a rolled source as a test, for the plain code that decides it.
use Rattle.std.specs.Prelude.{ℕ, List, Bool, ◌&&◌, not, option_and_then, slice_get}
use Rattle.std.specs.List.{list_any, list_all}
use Rattle.olap_meaning.specs.declared.cells.Cell.{Cell}
use Rattle.olap_meaning.specs.declared.tables.Catalog.{Catalog}
use Rattle.olap_meaning.specs.Covering.{names_column}
use Rattle.olap_meaning.specs.History.{Entry, is_some_and, live}
use Rattle.olap_meaning.specs.Worth.{measure_of}
use Rattle.olap_meaning.specs.Rolled.{Offer, adds_up, all_below, allows_in, fits, offered, value_count}
use Rattle.olap_plain.specs.declared.offers.PlainOffer.{PlainOffer}

-- what a plain offer says
abbrev pub offer_of : PlainOffer → Offer
offer_of offer = record { header = offer.header.now; version = offer.version }

-- a cell is of a measure whose parts make the whole
abbrev pub can_add : Catalog → Cell → Bool
can_add catalog cell =
    is_some_and (λ measure. adds_up measure.aggregator) (measure_of catalog cell)

-- some load of a list allows a value in a column
abbrev pub some_load_allows : List Entry → List ℕ → ℕ → ℕ → Bool
some_load_allows history loads column value =
    list_any
    (λ j. is_some_and (λ offer. allows_in offer.header column value) (offered history j)) loads

-- all loads of a list fit the first along a column, and hold each of its values together
abbrev pub roll_along : Catalog → List Entry → Cell → List ℕ → Offer → ℕ → Bool
roll_along catalog history cell loads first split =
    not (names_column cell split)
    && list_all (λ j. is_some_and (fits cell split first) (offered history j)) loads
    && all_below (value_count catalog split) (some_load_allows history loads split)

-- they do so along some column of the first
abbrev pub roll_from : Catalog → List Entry → Cell → List ℕ → Offer → Bool
roll_from catalog history cell loads first =
    list_any (λ own. roll_along catalog history cell loads first own.0) first.header.columns

-- the loads of a list are live, and are rolled up as they stand
abbrev pub rolled_test : Catalog → List Entry → Cell → List ℕ → Bool
rolled_test catalog history cell loads =
    can_add catalog cell && list_all (λ j. live history j cell) loads
    && is_some_and (roll_from catalog history cell loads)
    (option_and_then (offered history) (slice_get loads 0))
