-- That `held_rows_are_worth_in_versions` ensures what it says.
use Rattle.fact_reader.proofs.LawFacts.{held_rows_are_worth_in_versions}
use Rattle.segment_load.proofs.laws.held_rows_are_worth_in_versions.Goals as goal

pub returns : goal.returns
returns c = held_rows_are_worth_in_versions
