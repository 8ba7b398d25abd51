-- That `tree_at` ensures what it says.
use Rattle.std.proofs.Common.{◌∙◌, ap, option_map, slice_get}
use Rattle.std.proofs.lemmas.Option.{slice_get-map}
use Rattle.olap_meaning.specs.declared.tables.Catalog.{Catalog}
use Rattle.olap_catalog.specs.Parts.{plain, tree_of}
use Rattle.olap_catalog.proofs.catalog.Catalog.tree_at.Goals as goal

pub returns : goal.returns
returns c =
    c.get.ensures ∙ ap (slice_get c.self.inside.trees) c.h.view_is ∙ ap (λ ts. slice_get ts c.args.h) c.self.invariant.treed
    ∙ slice_get-map (tree_of (plain c.self.inside.schema c.self.inside.tables c.self.inside.columns c.self.inside.hierarchies c.self.inside.cubes)) c.self.inside.hierarchies c.args.h
    ∙ ap (λ (k : Catalog). option_map (tree_of k) (slice_get k.hierarchies c.args.h)) c.self.view_is
