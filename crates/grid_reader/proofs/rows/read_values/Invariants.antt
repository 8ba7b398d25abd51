-- What holds at each turn of `read_values`.
use Rattle.std.proofs.Common.{drop}
use Rattle.grid_reader.specs.Lines.{IsShown}
use Rattle.grid_reader.proofs.Lists.{AreRead, bytes_of}
use Rattle.grid_reader.proofs.rows.read_values.Given as goal

abbrev pub invariant-loop-text : goal.invariant-loop-text
invariant-loop-text l = AreRead IsShown (bytes_of l.texts) (bytes_of (drop l.text-index l.texts)) l.values
