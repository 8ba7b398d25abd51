-- That `touching_are_counted` ensures what it says.
use Rattle.olap_meaning.proofs.Shutting.{touching_are_counted}
use Rattle.olap_meaning.proofs.laws.touching_are_counted.Goals as goal

pub returns : goal.returns
returns c = touching_are_counted
