-- That `cost_of` ensures what it says.
use Rattle.std.proofs.Common.{◌∙◌, sym}
use Rattle.fact_reader.proofs.BatchFacts.{length-rows_in}
use Rattle.segment_load.proofs.choice.cost_of.Goals as goal

pub returns-in-None : goal.returns-in-None
returns-in-None c = rw c.in-None.is (c.from.ensures ∙ c.rows.ensures.rows ∙ sym (length-rows_in c.args.snapshot.now))
