-- That `oldest_is_least` ensures what it says.
use Rattle.olap_meaning.proofs.Evicting.{oldest_is_least}
use Rattle.olap_meaning.proofs.laws.oldest_is_least.Goals as goal

pub returns : goal.returns
returns c = oldest_is_least
