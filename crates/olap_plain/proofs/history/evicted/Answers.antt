-- That `evicted` ensures what it says.
use Rattle.std.proofs.Common.{sym, ◌∙◌}
use Rattle.olap_meaning.specs.History as meaning
use Rattle.olap_plain.proofs.EntryFacts.{any_entries}
use Rattle.olap_plain.proofs.history.evicted.Goals as goal

pub returns : goal.returns
returns c = c.some_evicts.ensures ∙ sym (any_entries (meaning.evicts c.args.j) c.args.entries.now)
