-- What a header takes of the rows of a body of another header.
use Rattle.std.specs.Prelude.{ℕ, ℤ, ◌≡◌, List, [], ◌==◌, Option, Some, None, filter_map, map, option_and_then, option_map, position, slice_get}
use Rattle.std.specs.List.Sorted.{IsPermutation}
use Rattle.olap_meaning.specs.declared.cells.Allowed.{Allowed}
use Rattle.olap_meaning.specs.declared.cells.Header.{Header}
use Rattle.olap_meaning.specs.Budget.{allowed_values}
use Rattle.segment_body.specs.BodyOf.{BodyOf}
use Rattle.segment_body.specs.Groups.{Group}

-- the value in a column, of values on some columns
abbrev pub value_in : List (ℕ × Allowed) → List ℕ → ℕ → Option ℕ
value_in columns values column =
    option_and_then (slice_get values) (position (λ own. own.0 == column) columns)

-- values on the columns of one header as another header has them: none where one is missing or is not allowed
abbrev pub narrowed_values : Header → Header → List ℕ → Option (List ℕ)
narrowed_values wide header values =
    allowed_values (value_in wide.columns values) header.columns

-- a row of one header as another header has it: none where that does not allow its values
abbrev pub narrowed_row : Header → Header → (List ℕ × Option ℤ) → Option (List ℕ × Option ℤ)
narrowed_row wide header row =
    option_map (λ values. (values, row.1)) (narrowed_values wide header row.0)

-- numbers with the values of their rows, where there are any
abbrev pub rows_with : Option (List ℕ) → List (Option ℤ) → List (List ℕ × Option ℤ)
rows_with None numbers = []
rows_with (Some values) numbers = map (λ number. (values, number)) numbers

-- the rows of a group as another header has them
abbrev pub narrowed_group : Header → Header → Group → List (List ℕ × Option ℤ)
narrowed_group wide header group =
    rows_with (narrowed_values wide header group.values) group.tally.values

-- a body narrowed to a header: it is of this header and summed up as before, and has those rows that the header allows, with
-- their values on its columns, in some order
pub record IsNarrowed (wide : BodyOf) (header : Header) (body : BodyOf) : Type 0 where
  pub own_header : body.header ≡ header
  pub own_aggregator : body.aggregator ≡ wide.aggregator
  pub own_rows : IsPermutation (filter_map (narrowed_row wide.header header) wide.rows) body.rows
