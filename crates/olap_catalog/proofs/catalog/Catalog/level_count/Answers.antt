-- That `level_count` ensures what it says of the measures.
use Rattle.std.proofs.Common.{◌∙◌, ap, sym, length}
use Rattle.olap_meaning.specs.Catalog.{level_members}
use Rattle.olap_catalog.proofs.TreeFacts.{measures_counted}
use Rattle.olap_catalog.proofs.catalog.Catalog.level_count.Goals as goal

pub returns-in-Measures : goal.returns-in-Measures
returns-in-Measures c = c.len.ensures ∙ measures_counted c.args.self.now c.args.cube c.cube.result.now c.cube.ensures ∙ ap (λ level. length (level_members c.args.self.now c.args.cube level)) (sym c.in-Measures.is)
