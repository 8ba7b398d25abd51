-- That `flushed_after` ensures what it says.
use Rattle.std.proofs.Common.{◌∙◌}
use Rattle.olap_plain.proofs.EntryFacts.{flushed_tail}
use Rattle.olap_plain.proofs.history.flushed_after.Goals as goal

pub returns : goal.returns
returns c = c.some_flushes.ensures ∙ flushed_tail c.args.cell.now c.args.position c.args.entries.now
