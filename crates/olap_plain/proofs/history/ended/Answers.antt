-- That `ended` ensures what it says.
use Rattle.std.proofs.Common.{sym, ◌∙◌}
use Rattle.olap_meaning.specs.History as meaning
use Rattle.olap_plain.proofs.EntryFacts.{any_entries}
use Rattle.olap_plain.proofs.history.ended.Goals as goal

pub returns : goal.returns
returns c = c.some_ends.ensures ∙ sym (any_entries (meaning.ends c.args.j) c.args.entries.now)
