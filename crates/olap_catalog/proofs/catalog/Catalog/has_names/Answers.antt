-- That `has_names` ensures what it says.
use Rattle.std.proofs.Common.{subst}
use Rattle.olap_catalog.specs.Named.{HasNames}
use Rattle.olap_catalog.proofs.NameFacts.{names_hold}
use Rattle.olap_catalog.proofs.catalog.Catalog.has_names.Goals as goal

pub returns : goal.returns
returns c =
    subst HasNames c.self.view_is
    (names_hold c.self.inside.schema c.self.inside.tables c.self.inside.columns c.self.inside.hierarchies c.self.inside.cubes _ _ _ _ c.self.invariant)
