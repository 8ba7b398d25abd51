-- That `loads_read_the_cheapest` ensures what it says.
use Rattle.olap_meaning.specs.Worth.{load_rows}
use Rattle.agg_tables.proofs.CheapFacts.{is_cheapest}
use Rattle.load_costs.specs.Costs.{tables_built}
use Rattle.load_costs.proofs.laws.loads_read_the_cheapest.Goals as goal

pub returns : goal.returns
returns c = λ catalog history load. is_cheapest load.header load.version (load_rows history load) (tables_built catalog history)
