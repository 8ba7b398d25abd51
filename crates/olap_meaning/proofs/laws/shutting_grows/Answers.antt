-- That `shutting_grows` ensures what it says.
use Rattle.olap_meaning.proofs.Shutting.{shutting_grows}
use Rattle.olap_meaning.proofs.laws.shutting_grows.Goals as goal

pub returns : goal.returns
returns c = shutting_grows
