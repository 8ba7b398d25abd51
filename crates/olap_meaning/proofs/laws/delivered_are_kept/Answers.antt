-- That `delivered_are_kept` ensures what it says.
use Rattle.olap_meaning.proofs.Shutting.{delivered_are_kept}
use Rattle.olap_meaning.proofs.laws.delivered_are_kept.Goals as goal

pub returns : goal.returns
returns c = delivered_are_kept
