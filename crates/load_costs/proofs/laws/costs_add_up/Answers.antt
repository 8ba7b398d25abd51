-- That `costs_add_up` ensures what it says.
use Rattle.load_costs.proofs.CostFacts.{costs-append}
use Rattle.load_costs.proofs.laws.costs_add_up.Goals as goal

pub returns : goal.returns
returns c = costs-append
