-- That `loads_are_evicted_once` ensures what it says.
use Rattle.olap_meaning.proofs.Evicting.{loads_are_evicted_once}
use Rattle.olap_meaning.proofs.laws.loads_are_evicted_once.Goals as goal

pub returns : goal.returns
returns c = loads_are_evicted_once
