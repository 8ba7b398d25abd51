-- That `number` stays within its numbers.
use Rattle.std.proofs.Common.{◌∙◌, sym, arith}
use Rattle.catalog_tables.proofs.FieldFacts.{found_fits}
use Rattle.catalog_tables.proofs.field.FieldColumn.number.Goals as goal

pub overflow_cast-result : goal.overflow_cast-result
overflow_cast-result c =
    let fits = found_fits c.self.inside.names c.self.inside.numbers.items c.self.inside.of.items c.args.text.now c.in-Some.number c.self.invariant (sym c.find.ensures ∙ c.in-Some.is) in
    omega (arith, fits)
