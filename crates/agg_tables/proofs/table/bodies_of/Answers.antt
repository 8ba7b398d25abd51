-- That `bodies_of` may call `sum_up`.
use Rattle.agg_tables.proofs.FoldFacts.{folds_known}
use Rattle.agg_tables.proofs.table.bodies_of.Goals as goal

pub sum_up-requires-clause-known : goal.sum_up-requires-clause-known
sum_up-requires-clause-known g c = rw (c.as_slice-2.ensures.value, c.in_ok-folds.ensures, c.as_slice.ensures) (folds_known c.args.catalog.now c.args.declared.now c.requires.placed)
