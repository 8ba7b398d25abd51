-- That `costs_stay` ensures what it says.
use Rattle.load_costs.proofs.CostFacts.{cost_on, reads_on}
use Rattle.load_costs.proofs.laws.costs_stay.Goals as goal

pub returns : goal.returns
returns c = λ catalog entries more j load at. (cost_on catalog entries more j load at, reads_on catalog entries more j load at)
