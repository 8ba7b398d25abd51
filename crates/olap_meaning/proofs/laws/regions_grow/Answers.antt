-- That `regions_grow` ensures what it says.
use Rattle.olap_meaning.proofs.Shutting.{regions_grow}
use Rattle.olap_meaning.proofs.laws.regions_grow.Goals as goal

pub returns : goal.returns
returns c = regions_grow
