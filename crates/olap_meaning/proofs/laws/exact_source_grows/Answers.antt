-- That `exact_source_grows` ensures what it says.
use Rattle.olap_meaning.proofs.Sources.{exact_source_grows}
use Rattle.olap_meaning.proofs.laws.exact_source_grows.Goals as goal

pub returns : goal.returns
returns c = exact_source_grows
