-- That `cost` ensures what it says.
use Rattle.std.proofs.Common.{arith}
use Rattle.fact_reader.proofs.BatchFacts.{length-rows_in}
use Rattle.agg_tables.proofs.table.AggTable.cost.Goals as goal

pub returns : goal.returns
returns c = omega (arith, c.groups.ensures.count, c.from.ensures, c.saturating_sub.ensures, c.rows.ensures.rows, c.rows-2.ensures, length-rows_in c.args.snapshot.now)
