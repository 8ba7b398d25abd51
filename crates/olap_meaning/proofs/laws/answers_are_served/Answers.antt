-- That `answers_are_served` ensures what it says.
use Rattle.olap_meaning.proofs.Fresh.{answers_are_served}
use Rattle.olap_meaning.proofs.laws.answers_are_served.Goals as goal

pub returns : goal.returns
returns c = answers_are_served
