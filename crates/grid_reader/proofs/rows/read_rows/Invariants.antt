-- What holds at each turn of `read_rows`.
use Rattle.std.proofs.Common.{drop}
use Rattle.grid_reader.specs.Lines.{IsRowLine}
use Rattle.grid_reader.proofs.Lists.{AreRead, bytes_of}
use Rattle.grid_reader.proofs.rows.read_rows.Given as goal

abbrev pub invariant-loop-line : goal.invariant-loop-line
invariant-loop-line l = AreRead (IsRowLine l.columns) (bytes_of l.lines) (bytes_of (drop l.line-index l.lines)) l.rows
