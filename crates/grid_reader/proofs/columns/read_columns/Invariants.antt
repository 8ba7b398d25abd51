-- What holds at each turn of `read_columns`.
use Rattle.std.proofs.Common.{drop}
use Rattle.grid_reader.specs.Lines.{IsColumnLine}
use Rattle.grid_reader.proofs.Lists.{AreRead, bytes_of}
use Rattle.grid_reader.proofs.columns.read_columns.Given as goal

abbrev pub invariant-loop-line : goal.invariant-loop-line
invariant-loop-line l = AreRead IsColumnLine (bytes_of l.lines) (bytes_of (drop l.line-index l.lines)) l.titles
