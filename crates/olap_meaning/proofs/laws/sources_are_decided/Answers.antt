-- That `sources_are_decided` ensures what it says.
use Rattle.olap_meaning.proofs.RolledSources.{sources_are_decided}
use Rattle.olap_meaning.proofs.laws.sources_are_decided.Goals as goal

pub returns : goal.returns
returns c = sources_are_decided
