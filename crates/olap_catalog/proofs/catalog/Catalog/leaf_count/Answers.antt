-- That `leaf_count` ensures what it says.
use Rattle.std.proofs.Common.{◌∙◌, ap, length}
use Rattle.olap_meaning.specs.Catalog.{records}
use Rattle.olap_catalog.proofs.catalog.Catalog.leaf_count.Goals as goal

pub leaf_count-requires : goal.leaf_count-requires
leaf_count-requires c = record {
  paired = c.self.invariant.paired;
  even = c.self.invariant.even;
  columned = c.self.invariant.columned;
}

pub returns : goal.returns
returns c = c.leaf_count.ensures.count ∙ ap (λ k. length (records k c.args.dimension)) c.self.view_is
