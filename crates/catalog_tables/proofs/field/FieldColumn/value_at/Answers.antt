-- That `value_at` ensures what it says.
use Rattle.std.proofs.Common.{◌<◌, length}
use Rattle.catalog_tables.proofs.FieldFacts.{number_here}
use Rattle.catalog_tables.proofs.field.FieldColumn.value_at.Goals as goal

pub returns : goal.returns
returns c =
    let within : c.leaf.inside.0 < length c.self.inside.of.items = rw (c.self.view_is, c.leaf.view_is) c.requires in
    rw (← c.self.view_is, ← c.leaf.view_is)
    (number_here c.self.inside.names c.self.inside.numbers.items c.self.inside.of.items c.leaf.inside.0 c.index.result.now c.self.invariant within c.index.ensures)
