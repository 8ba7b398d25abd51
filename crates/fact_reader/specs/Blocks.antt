-- Rows that are read once for several bodies.
use Rattle.std.specs.Prelude.{ℕ, ℤ, ◌≡◌, ◌<◌, ◌++◌, List, [], Option, filter_map, length, map, option_map, slice_index_or}
use Rattle.olap_meaning.specs.declared.cells.Header.{Header}
use Rattle.olap_meaning.specs.declared.tables.Catalog.{Catalog}
use Rattle.olap_meaning.specs.declared.tables.Row.{Row}
use Rattle.fact_versions.specs.FactRows.{FactRows}
use Rattle.segment_body.specs.BodyOf.{BodyOf}
use Rattle.fact_reader.specs.declared.blocks.PlacedRow.{PlacedRow}
use Rattle.fact_reader.specs.BodyRows.{row_number, values_in}
use Rattle.olap_meaning.specs.Budget.{row_values}
use Rattle.fact_reader.specs.Reading.{row_at}

-- a row that a header allows, with its values on the header's columns
abbrev pub kept_row : Catalog → Header → Row → Option (Row × List ℕ)
kept_row catalog header row =
    option_map (λ values. (row, values)) (row_values catalog header row)

-- the rows that a header allows, each with its values
abbrev pub kept_rows : Catalog → Header → List Row → List (Row × List ℕ)
kept_rows catalog header rows = filter_map (kept_row catalog header) rows

-- a placed row, by its place in a piece, with the values of its group: those at a place of some list
abbrev pub valued_row : List (List ℕ) → PlacedRow → ℕ × List ℕ
valued_row values own = (own.row, slice_index_or values own.group [])

-- so for each of some placed rows
abbrev pub valued_rows : List (List ℕ) → List PlacedRow → List (ℕ × List ℕ)
valued_rows values block = map (valued_row values) block

-- the row of a batch at the place of a pair, with the values of the pair
abbrev pub own_row : FactRows → ℕ × List ℕ → Row × List ℕ
own_row batch own = (row_at batch own.0, own.1)

-- the values of a pair, with the number that the row at its place has in the fact column of a header's measure
abbrev pub numbered_row : Catalog → Header → FactRows → ℕ × List ℕ → List ℕ × Option ℤ
numbered_row catalog header batch own = (own.1, row_number catalog header (row_at batch own.0))

-- a placed row is one of a batch, and its group is one of those that have these values
pub record IsPlacedRow (batch : FactRows) (values : List (List ℕ)) (own : PlacedRow) : Type 0 where
  pub within : own.row < length batch.rows
  pub grouped : own.group < length values

-- a body with the rows of a batch at some places, which have these values
abbrev pub with_block : Catalog → FactRows → List (ℕ × List ℕ) → BodyOf → BodyOf
with_block catalog batch rows body =
    record body { rows = body.rows ++ map (numbered_row catalog body.header batch) rows }

-- a body has the cube and the columns of a first one, and the values of all its rows but the last ones
pub record IsBehind (first : BodyOf) (last : List (ℕ × List ℕ)) (body : BodyOf) : Type 0 where
  pub cube : body.header.cube ≡ first.header.cube
  pub columns : body.header.columns ≡ first.header.columns
  pub values : values_in body ++ map (λ own. own.1) last ≡ values_in first
