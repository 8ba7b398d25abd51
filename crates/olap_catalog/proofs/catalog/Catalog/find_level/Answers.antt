-- That `find_level` ensures `own`.
use Rattle.olap_catalog.proofs.LevelFacts.{roots_own}
use Rattle.olap_catalog.proofs.catalog.Catalog.find_level.Goals as goal

pub returns-then-path-eq1-clause-own : goal.returns-then-path-eq1-clause-own
returns-then-path-eq1-clause-own c =
    roots_own c.args.self.now c.args.cube c.as_str.result.now c.find_root.result c.in-Some.root c.find_root.ensures c.in-Some.is
