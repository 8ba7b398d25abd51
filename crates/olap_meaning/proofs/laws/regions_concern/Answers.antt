-- That `regions_concern` ensures what it says.
use Rattle.olap_meaning.proofs.Shutting.{regions_concern}
use Rattle.olap_meaning.proofs.laws.regions_concern.Goals as goal

pub returns : goal.returns
returns c = regions_concern
