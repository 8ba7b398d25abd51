-- That `loads_are_worth` ensures what it says.
use Rattle.fact_reader.proofs.LawFacts.{body_value-body_of}
use Rattle.segment_load.proofs.laws.loads_are_worth.Goals as goal

pub returns : goal.returns
returns c = body_value-body_of
