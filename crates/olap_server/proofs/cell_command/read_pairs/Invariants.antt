-- What holds at each turn of `read_pairs`.
use Rattle.std.proofs.Common.{string_bytes}
use Rattle.olap_server.proofs.WordFacts.{AreRead}
use Rattle.olap_server.proofs.cell_command.read_pairs.Given as goal

abbrev pub invariant-loop-i : goal.invariant-loop-i
invariant-loop-i l = AreRead string_bytes l.words l.pairs l.i
