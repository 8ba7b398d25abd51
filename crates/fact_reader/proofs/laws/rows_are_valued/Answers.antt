-- That `rows_are_valued` ensures what it says.
use Rattle.fact_reader.proofs.ValuedFacts.{row_valued}
use Rattle.fact_reader.proofs.laws.rows_are_valued.Goals as goal

pub returns : goal.returns
returns c = row_valued c.args.catalog.now c.leaves_have_values.ensures
