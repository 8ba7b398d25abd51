-- That `regions_reach_up` ensures what it says.
use Rattle.olap_meaning.proofs.ReachUp.{regions_reach_up}
use Rattle.olap_meaning.proofs.laws.regions_reach_up.Goals as goal

pub returns : goal.returns
returns c = regions_reach_up
