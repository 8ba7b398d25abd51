-- What a header is, and the rows that it allows.
use Rattle.std.specs.Prelude.{ℕ, ◌≡◌, List, Bool, true, ◌==◌, ◌&&◌, length, map, nat_lt, not}
use Rattle.std.specs.List.{list_all, list_any, zip}
use Rattle.olap_meaning.specs.declared.cells.Cell.{Cell}
use Rattle.olap_meaning.specs.declared.cells.Header.{Header}
use Rattle.olap_meaning.specs.declared.cells.Allowed.{Allowed}
use Rattle.olap_meaning.specs.declared.cells.Allowed.TheVariants.{Any, Set}
use Rattle.olap_meaning.specs.Covering.{allows, names_column}
use Rattle.olap_meaning.specs.Legal.{rise}

-- allowed values are well formed: any value, or a set that rises and is not empty
abbrev pub is_set : Allowed → Bool
is_set Any = true
is_set (Set values) = nat_lt 0 (length values) && rise values

-- columns with their allowed values are a header's: the columns rise, and each column's allowed values are well
-- formed
abbrev pub are_columns : List (ℕ × Allowed) → Bool
are_columns columns =
    rise (map (λ column. column.0) columns) && list_all (λ column. is_set column.1) columns

-- a header is well formed: its columns are
abbrev pub is_header : Header → Bool
is_header header = are_columns header.columns

-- values are allowed on a header's columns: there is one for each column, and it is allowed there
abbrev pub are_allowed : Header → List ℕ → Bool
are_allowed header values =
    (length values == length header.columns)
    && list_all (λ own. allows own.0.1 own.1) (zip header.columns values)

-- a column is a header's and not a cell's
abbrev pub drops : Header → Cell → ℕ → Bool
drops header cell column =
    list_any (λ own. own.0 == column) header.columns && not (names_column cell column)

-- a header has a cell's columns, and no others
abbrev pub HasColumnsOf : Header → Cell → Type 0
HasColumnsOf header cell =
    (column : ℕ) → list_any (λ own. own.0 == column) header.columns ≡ names_column cell column
