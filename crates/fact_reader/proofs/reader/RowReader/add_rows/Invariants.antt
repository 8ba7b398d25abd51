-- What holds at each turn of `add_rows`.
use Rattle.std.proofs.Common.{◌≡◌, ◌++◌, take}
use Rattle.fact_reader.specs.BodyRows.{body_rows}
use Rattle.fact_reader.proofs.reader.RowReader.add_rows.Given as goal

-- the rows so far are added
abbrev pub invariant-loop-i : goal.invariant-loop-i
invariant-loop-i l = l.body ≡ record l.initial.body { rows = l.initial.body.rows ++ body_rows l.self.catalog l.self.header (take l.i l.piece.rows) }
