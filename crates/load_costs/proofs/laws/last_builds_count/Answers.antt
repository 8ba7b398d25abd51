-- That `last_builds_count` ensures what it says.
use Rattle.load_costs.proofs.BuiltFacts.{last_counts}
use Rattle.load_costs.proofs.laws.last_builds_count.Goals as goal

pub returns : goal.returns
returns c = last_counts
