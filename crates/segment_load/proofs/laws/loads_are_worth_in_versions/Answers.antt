-- That `loads_are_worth_in_versions` ensures what it says.
use Rattle.fact_reader.proofs.LawFacts.{body_value-version}
use Rattle.segment_load.proofs.laws.loads_are_worth_in_versions.Goals as goal

pub returns : goal.returns
returns c = body_value-version
