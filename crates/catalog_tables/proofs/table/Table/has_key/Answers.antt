-- That `has_key` ensures what it says.
use Rattle.std.proofs.Common.{◌∙◌, ap}
use Rattle.catalog_tables.specs.Tables.{has_key, TableOf}
use Rattle.catalog_tables.proofs.RecordFacts.{keyed_any}
use Rattle.catalog_tables.proofs.table.Table.has_key.Goals as goal

pub returns : goal.returns
returns c =
    c.contains.ensures ∙ keyed_any c.self.inside.keys c.self.inside.of.items c.args.key.now c.self.invariant.keyed
    ∙ ap (λ (t : TableOf). has_key t.records c.args.key.now) c.self.view_is
