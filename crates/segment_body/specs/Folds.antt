-- What the folds of a body take.
use Rattle.std.specs.Prelude.{ℕ, ℤ, List, [], Bool, ◌==◌, ◌&&◌, Option, map, filter, flat_map, if◌then◌else◌}
use Rattle.std.specs.List.{list_any, list_all, zip}
use Rattle.olap_meaning.specs.declared.cells.Allowed.{Allowed}
use Rattle.olap_meaning.specs.declared.cells.Cell.{Cell}
use Rattle.olap_meaning.specs.declared.cells.Header.{Header}
use Rattle.olap_meaning.specs.Covering.{allows}
use Rattle.segment_body.specs.Groups.{Group}
use Rattle.segment_body.specs.BodyOf.{body_row_in, has_value}

-- the numbers of the groups whose values pass a test, group by group
abbrev pub picked : (List ℕ → Bool) → List Group → List (Option ℤ)
picked test groups =
    flat_map (λ group. if test group.values then group.tally.values else []) groups

-- the numbers of the rows that pass a test, in order
abbrev pub numbers_where : ((List ℕ × Option ℤ) → Bool) → List (List ℕ × Option ℤ)
    → List (Option ℤ)
numbers_where test rows = map (λ row. row.1) (filter test rows)

-- values on some columns have the values of pairs
abbrev pub are_at : List (ℕ × Allowed) → List (ℕ × ℕ) → List ℕ → Bool
are_at columns at values =
    list_all
    (λ pair. list_any
    (λ own. (own.0.0 == pair.0) && (own.1 == pair.1)) (zip columns values)) at

-- values on some columns have the values of pairs, and a value in one column
abbrev pub are_at_value : List (ℕ × Allowed) → List (ℕ × ℕ) → ℕ → ℕ → List ℕ → Bool
are_at_value columns at column value values =
    are_at columns at values
    && list_any (λ own. (own.0.0 == column) && (own.1 == value)) (zip columns values)

-- a row of a header's columns is in a cell, and has a value in one column
abbrev pub body_row_at : Header → Cell → ℕ → ℕ → (List ℕ × Option ℤ) → Bool
body_row_at header cell column value row =
    body_row_in header cell row && has_value header row.0 (column, value)

-- values on some columns have in one column a value that is allowed
abbrev pub has_allowed : List (ℕ × Allowed) → ℕ → Allowed → List ℕ → Bool
has_allowed columns column allowed values =
    list_any (λ own. (own.0.0 == column) && allows allowed own.1) (zip columns values)

-- values on some columns have the values of pairs, and in one column a value that is allowed
abbrev pub are_at_allowed : List (ℕ × Allowed) → List (ℕ × ℕ) → ℕ → Allowed → List ℕ → Bool
are_at_allowed columns at column allowed values =
    are_at columns at values && has_allowed columns column allowed values

-- a row of a header's columns is in a cell, and has in one column a value that is allowed
abbrev pub body_row_within : Header → Cell → ℕ → Allowed → (List ℕ × Option ℤ) → Bool
body_row_within header cell column allowed row =
    body_row_in header cell row && has_allowed header.columns column allowed row.0
