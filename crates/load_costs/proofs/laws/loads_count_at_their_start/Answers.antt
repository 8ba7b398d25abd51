-- That `loads_count_at_their_start` ensures what it says.
use Rattle.load_costs.proofs.CostFacts.{cost_at, reads_at}
use Rattle.load_costs.proofs.laws.loads_count_at_their_start.Goals as goal

pub returns : goal.returns
returns c = λ catalog before after load. (reads_at catalog before after load, cost_at catalog before after load)
