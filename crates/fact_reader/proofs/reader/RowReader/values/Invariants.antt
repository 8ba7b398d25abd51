-- What holds at each turn of `values`.
use Rattle.std.proofs.Common.{◌≡◌, ◌++◌, drop}
use Rattle.std.specs.Prelude.{option_map}
use Rattle.olap_meaning.specs.Worth.{row_value}
use Rattle.fact_reader.specs.Reading.{row_at}
use Rattle.olap_meaning.specs.Budget.{allowed_values, row_values}
use Rattle.fact_reader.proofs.reader.RowReader.values.Given as goal

-- the values so far, and those on the columns that are left
abbrev pub invariant-loop-k : goal.invariant-loop-k
invariant-loop-k l =
    option_map (λ rest. l.values.items ++ rest) (allowed_values (row_value l.self.catalog l.self.header.cube (row_at l.piece l.i)) (drop l.k l.self.header.columns))
    ≡ row_values l.self.catalog l.self.header (row_at l.piece l.i)
