-- That `texts_have_values` ensures what it says.
use Rattle.olap_catalog.proofs.LeafFacts.{texts_valued}
use Rattle.olap_catalog.proofs.catalog.Catalog.texts_have_values.Goals as goal

pub returns : goal.returns
returns c =
    rw (← c.self.view_is)
    (texts_valued c.self.inside.schema c.self.inside.tables c.self.inside.columns c.self.inside.hierarchies c.self.inside.cubes c.self.invariant.even c.self.invariant.columned c.self.invariant.paired)
