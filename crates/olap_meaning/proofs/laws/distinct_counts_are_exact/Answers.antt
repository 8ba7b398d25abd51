-- That `distinct_counts_are_exact` ensures what it says.
use Rattle.olap_meaning.proofs.SourceLaws.{distinct_counts_are_exact}
use Rattle.olap_meaning.proofs.laws.distinct_counts_are_exact.Goals as goal

pub returns : goal.returns
returns c = distinct_counts_are_exact
