-- That `tables_are_those_built` ensures what it says.
use Rattle.load_costs.proofs.BuiltFacts.{tables_are}
use Rattle.load_costs.proofs.laws.tables_are_those_built.Goals as goal

pub returns : goal.returns
returns c = tables_are
