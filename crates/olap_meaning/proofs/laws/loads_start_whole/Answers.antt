-- That `loads_start_whole` ensures what it says.
use Rattle.olap_meaning.proofs.Shutting.{loads_start_whole}
use Rattle.olap_meaning.proofs.laws.loads_start_whole.Goals as goal

pub returns : goal.returns
returns c = loads_start_whole
