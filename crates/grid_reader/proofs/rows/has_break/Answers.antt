-- That `has_break` tells whether a text has a break.
use Rattle.std.proofs.Common.{ap}
use Rattle.query_meaning.specs.Shown.{is_break}
use Rattle.grid_reader.proofs.Breaks.{broken}
use Rattle.grid_reader.proofs.rows.has_break.Goals.{then-byte-eq9-via-then-byte-eq9, then-byte-eq9-via-else-byte-eq9+then-byte-eq13, then-byte-eq9-via-else-byte-eq9+else-byte-eq13+then-byte-eq10}
use Rattle.grid_reader.proofs.rows.has_break.Goals as goal

pub returns-then-byte-eq9 : goal.returns-then-byte-eq9
returns-then-byte-eq9 c = elim c.then-byte-eq9.branch [
  | then-byte-eq9-via-then-byte-eq9 w ↦ broken c.args.text.now c.loop-byte.byte-index 0 c.loop-byte-test.true (ap is_break w.if-byte-eq9.true)
  | then-byte-eq9-via-else-byte-eq9+then-byte-eq13 w ↦ broken c.args.text.now c.loop-byte.byte-index 0 c.loop-byte-test.true (ap is_break w.if-byte-eq13.true)
  | then-byte-eq9-via-else-byte-eq9+else-byte-eq13+then-byte-eq10 w ↦ broken c.args.text.now c.loop-byte.byte-index 0 c.loop-byte-test.true (ap is_break w.if-byte-eq10.true)
]
