-- That `loads_hold_rows` ensures what it says.
use Rattle.fact_reader.proofs.LawFacts.{loads_hold_rows}
use Rattle.segment_load.proofs.laws.loads_hold_rows.Goals as goal

pub returns : goal.returns
returns c = loads_hold_rows
