-- That `column` ensures what it says.
use Rattle.std.proofs.Common.{◌∙◌, ap, slice_get}
use Rattle.catalog_tables.specs.Tables.{column_of, TableOf}
use Rattle.catalog_tables.proofs.ColumnFacts.{column_here}
use Rattle.catalog_tables.proofs.dimension.DimensionTable.column.Goals as goal

pub returns : goal.returns
returns c =
    c.get.ensures ∙ ap (λ columns. slice_get columns c.args.field) c.self.invariant.filled
    ∙ column_here c.self.inside.levels c.args.field c.self.inside.of.items
    ∙ ap (λ (t : TableOf). column_of t.levels t.records c.args.field) c.self.view_is
