-- That `header_for` ensures `formed`.
use Rattle.agg_tables.proofs.ColumnFacts.{is_formed}
use Rattle.agg_tables.proofs.columns.header_for.Goals as goal

pub returns-clause-formed : goal.returns-clause-formed
returns-clause-formed c = rw (c.in_ok-columns_of.ensures, c.as_slice.ensures) (is_formed c.args.catalog.now c.args.declared.now c.args.measure)
