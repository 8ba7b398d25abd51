-- That `starts_give_no_source` ensures what it says.
use Rattle.olap_meaning.proofs.SourceLaws.{starts_give_no_source}
use Rattle.olap_meaning.proofs.laws.starts_give_no_source.Goals as goal

pub returns : goal.returns
returns c = starts_give_no_source
