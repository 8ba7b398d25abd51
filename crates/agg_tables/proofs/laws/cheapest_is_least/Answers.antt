-- That `cheapest_is_least` ensures what it says.
use Rattle.agg_tables.proofs.CheapFacts.{is_cheapest}
use Rattle.agg_tables.proofs.laws.cheapest_is_least.Goals as goal

pub returns : goal.returns
returns c = is_cheapest
