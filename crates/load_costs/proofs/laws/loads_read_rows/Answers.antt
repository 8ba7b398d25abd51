-- That `loads_read_rows` ensures what it says.
use Rattle.load_costs.proofs.CostFacts.{reads_rows}
use Rattle.load_costs.proofs.laws.loads_read_rows.Goals as goal

pub returns : goal.returns
returns c = reads_rows
