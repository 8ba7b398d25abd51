-- That `find_key` ensures what it says.
use Rattle.std.proofs.Common.{◌∙◌, ap, sym}
use Rattle.catalog_tables.specs.Tables.{find_key, TableOf}
use Rattle.catalog_tables.proofs.ColumnFacts.{key_here}
use Rattle.catalog_tables.proofs.dimension.DimensionTable.find_key.Goals as goal

pub returns-in-None : goal.returns-in-None
returns-in-None c =
    sym c.in-None.is ∙ c.find.ensures ∙ key_here c.self.inside.keys c.self.inside.of.items c.args.key.now c.self.invariant.keyed
    ∙ ap (λ (t : TableOf). find_key t.records c.args.key.now) c.self.view_is

pub returns-in-Some : goal.returns-in-Some
returns-in-Some c =
    sym c.in-Some.is ∙ c.find.ensures ∙ key_here c.self.inside.keys c.self.inside.of.items c.args.key.now c.self.invariant.keyed
    ∙ ap (λ (t : TableOf). find_key t.records c.args.key.now) c.self.view_is
