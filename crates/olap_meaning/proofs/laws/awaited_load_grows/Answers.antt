-- That `awaited_load_grows` ensures what it says.
use Rattle.olap_meaning.proofs.Sources.{awaited_load_grows}
use Rattle.olap_meaning.proofs.laws.awaited_load_grows.Goals as goal

pub returns : goal.returns
returns c = awaited_load_grows
