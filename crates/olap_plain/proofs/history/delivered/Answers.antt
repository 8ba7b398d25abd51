-- That `delivered` ensures what it says.
use Rattle.std.proofs.Common.{sym, ◌∙◌}
use Rattle.olap_meaning.specs.History as meaning
use Rattle.olap_plain.proofs.EntryFacts.{any_entries}
use Rattle.olap_plain.proofs.history.delivered.Goals as goal

pub returns : goal.returns
returns c = c.some_delivers.ensures ∙ sym (any_entries (meaning.delivers c.args.j) c.args.entries.now)
