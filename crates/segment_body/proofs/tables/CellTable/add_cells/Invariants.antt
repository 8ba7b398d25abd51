-- What holds at each turn of `add_cells`.
use Rattle.std.proofs.Common.{◌≡◌, take}
use Rattle.segment_body.specs.Tables.{AreKeyed}
use Rattle.segment_body.proofs.tables.CellTable.add_cells.Given as goal

-- the table has the cells so far, and its columns
abbrev pub invariant-loop-cell : goal.invariant-loop-cell
invariant-loop-cell l = AreKeyed l.fn.aggregator (take l.cell-index l.cells) l.self × (l.self.columns ≡ l.fn.self.columns)
