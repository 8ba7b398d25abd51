-- That `len` ensures `rows`, `bound` and `fit`.
use Rattle.std.proofs.Common.{sym, arith}
use Rattle.fact_versions.proofs.RowFacts.{length-rows_of_columns, rows_fit}
use Rattle.fact_versions.proofs.batch.Batch.len.Goals as goal

pub returns-clause-rows : goal.returns-clause-rows
returns-clause-rows c = rw (← c.self.view_is) (sym (length-rows_of_columns c.self.inside.rows c.self.inside.leaves c.self.inside.values))

pub returns-clause-bound : goal.returns-clause-bound
returns-clause-bound c = rw (← c.self.view_is, length-rows_of_columns c.self.inside.rows c.self.inside.leaves c.self.inside.values) c.self.invariant.rows_fit

pub returns-clause-fit : goal.returns-clause-fit
returns-clause-fit c = rw (← c.self.view_is) (rows_fit c.self.inside.rows c.self.inside.rows c.self.inside.leaves c.self.inside.values c.self.invariant.leaf_each c.self.invariant.value_each (omega arith))
