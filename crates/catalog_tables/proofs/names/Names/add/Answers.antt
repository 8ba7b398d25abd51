-- That `add` ensures `ok`.
use Rattle.catalog_tables.proofs.SeenFacts.{seen-insert}
use Rattle.catalog_tables.proofs.names.Names.add.Goals as goal

pub returns-clause-ok : goal.returns-clause-ok
returns-clause-ok c = rw (← c.self.view_is, c.in_ok-insert_full.ensures.keys) (seen-insert c.self.inside.set.keys c.args.name)
