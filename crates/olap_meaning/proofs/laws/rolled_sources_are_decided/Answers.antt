-- That `rolled_sources_are_decided` ensures what it says.
use Rattle.olap_meaning.proofs.RolledSources.{rolled_sources_are_decided}
use Rattle.olap_meaning.proofs.laws.rolled_sources_are_decided.Goals as goal

pub returns : goal.returns
returns c = rolled_sources_are_decided
