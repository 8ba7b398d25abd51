-- That `regions_shut_off` ensures what it says.
use Rattle.olap_meaning.proofs.Shutting.{regions_shut_off}
use Rattle.olap_meaning.proofs.laws.regions_shut_off.Goals as goal

pub returns : goal.returns
returns c = regions_shut_off
