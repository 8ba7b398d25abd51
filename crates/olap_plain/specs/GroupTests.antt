-- The groups of rows as tests of two rows, for the plain code that counts them.
use Rattle.std.specs.Prelude.{ℕ, List, Bool, ◌==◌, ◌&&◌, not, Option, bytes_eq, filter_map, is_some, option_and_then}
use Rattle.std.specs.List.{list_any}
use Rattle.olap_meaning.specs.declared.cells.Allowed.{Allowed}
use Rattle.olap_meaning.specs.declared.cells.Header.{Header}
use Rattle.olap_meaning.specs.declared.tables.Catalog.{Catalog}
use Rattle.olap_meaning.specs.declared.tables.Row.{Row}
use Rattle.olap_meaning.specs.Budget.{if_allowed, row_values}
use Rattle.olap_meaning.specs.Catalog.{first_appearances}
use Rattle.olap_meaning.specs.History.{is_some_and}
use Rattle.olap_meaning.specs.Worth.{row_value}

-- the value of a row in a column of a header, where it is allowed
abbrev pub value_in : Catalog → ℕ → Row → ℕ × Allowed → Option ℕ
value_in catalog cube row column =
    option_and_then (if_allowed column.1) (row_value catalog cube row column.0)

-- two values are there, and are the same
abbrev pub both_are : Option ℕ → Option ℕ → Bool
both_are one other = is_some_and (λ value. is_some_and (λ v. value == v) other) one

-- two rows are of one group of a header
abbrev pub have_same : Catalog → Header → Row → Row → Bool
have_same catalog header one other =
    is_some_and
    (λ values. is_some_and (bytes_eq values) (row_values catalog header other))
    (row_values catalog header one)

-- the groups of some rows
abbrev pub groups_of : Catalog → Header → List Row → List (List ℕ)
groups_of catalog header rows = first_appearances (filter_map (row_values catalog header) rows)

-- a row is of a group that no row of two lists is of
abbrev pub adds_group : Catalog → Header → List Row → List Row → Row → Bool
adds_group catalog header rows earlier row =
    is_some (row_values catalog header row)
    && not (list_any (have_same catalog header row) rows)
    && not (list_any (have_same catalog header row) earlier)
