-- That `evicted_serve_none` ensures what it says.
use Rattle.olap_meaning.proofs.Evicting.{evicted_serve_none}
use Rattle.olap_meaning.proofs.laws.evicted_serve_none.Goals as goal

pub returns : goal.returns
returns c = evicted_serve_none
