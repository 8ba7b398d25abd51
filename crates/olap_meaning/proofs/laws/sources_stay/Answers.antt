-- That `sources_stay` ensures what it says.
use Rattle.olap_meaning.proofs.Evicting.{sources_stay}
use Rattle.olap_meaning.proofs.laws.sources_stay.Goals as goal

pub returns : goal.returns
returns c = sources_stay
