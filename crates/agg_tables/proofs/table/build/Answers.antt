-- That `build` may call `new`.
use Rattle.fact_reader.specs.BodyRows.{rows_in}
use Rattle.agg_tables.proofs.TableFacts.{is_table}
use Rattle.agg_tables.proofs.table.build.Goals as goal

pub new-requires : goal.new-requires
new-requires g c = rw c.in_ok-bodies.ensures.folded (is_table c.args.catalog.now c.in_ok-declared.declared (rows_in c.args.snapshot.now))
