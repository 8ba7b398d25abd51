-- That `field_of` ensures what it says.
use Rattle.std.proofs.Common.{◌∙◌, ap}
use Rattle.olap_catalog.specs.Columns.{column_texts}
use Rattle.olap_catalog.proofs.catalog.Catalog.field_of.Goals as goal

pub field_of-requires-clause-tables : goal.field_of-requires-clause-tables
field_of-requires-clause-tables c = record {
  paired = c.self.invariant.paired;
  even = c.self.invariant.even;
  columned = c.self.invariant.columned;
}

pub returns : goal.returns
returns c = c.field_of.ensures ∙ ap (λ k. column_texts k c.args.column) c.self.view_is
