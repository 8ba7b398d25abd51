-- That `awaited_load_is_least` ensures what it says.
use Rattle.olap_meaning.proofs.Evicting.{awaited_load_is_least}
use Rattle.olap_meaning.proofs.laws.awaited_load_is_least.Goals as goal

pub returns : goal.returns
returns c = awaited_load_is_least
