-- That `touching_after` ensures what it says.
use Rattle.std.proofs.Common.{◌∙◌}
use Rattle.olap_plain.proofs.EntryFacts.{touching_tail}
use Rattle.olap_plain.proofs.history.touching_after.Goals as goal

pub returns : goal.returns
returns c = c.count_touching.ensures ∙ touching_tail c.args.header.now c.args.position c.args.entries.now
