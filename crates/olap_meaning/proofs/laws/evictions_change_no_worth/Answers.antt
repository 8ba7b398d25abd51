-- That `evictions_change_no_worth` ensures what it says.
use Rattle.olap_meaning.proofs.Evicting.{evictions_change_no_worth}
use Rattle.olap_meaning.proofs.laws.evictions_change_no_worth.Goals as goal

pub returns : goal.returns
returns c = evictions_change_no_worth
