-- That `push` leaves a value that is whole and stays within its numbers.
use Rattle.std.proofs.Common.{◌<◌, ◌≡◌, length, arith, ap, ◌∙◌, ◌++◌, ◌∷◌, []}
use Rattle.olap_meaning.specs.declared.schema.TheConstants.{RECORD_LIMIT}
use Rattle.catalog_tables.specs.Tables.{seen_with}
use Rattle.catalog_tables.proofs.FieldFacts.{numbered_push, number_fits}
use Rattle.catalog_tables.proofs.field.FieldColumn.push.Goals as goal

pub invariant_of-self-2 : goal.invariant_of-self-2
invariant_of-self-2 c =
    let room : length c.self.inside.of.items < RECORD_LIMIT = rw c.self.view_is c.requires in
    let items : c.push.new.self.items ≡ c.self.inside.numbers.items ++ c.in_ok-number.number ∷ [] = (rw c.unwrap.ensures at c.push.ensures.items) ∙ ap (λ ns. ns ++ c.in_ok-number.number ∷ []) c.reserve.ensures.items in
    let seen : c.number.new.self ≡ seen_with c.self.inside.names c.args.text.now = c.in_ok-number.ensures.seen ∙ ap (seen_with c.self.inside.names) c.as_str.ensures in
    rw (items, c.and-self-inside.ensures)
    (numbered_push c.self.inside.names c.number.new.self c.self.inside.numbers.items c.self.inside.of.items c.args.text.now c.in_ok-number.number c.self.invariant room seen
    (rw c.as_str.ensures at c.in_ok-number.ensures.number))

pub overflow_cast-number : goal.overflow_cast-number
overflow_cast-number c =
    let room : length c.self.inside.of.items < RECORD_LIMIT = rw c.self.view_is c.requires in
    let seen : c.number.new.self ≡ seen_with c.self.inside.names c.args.text.now = c.in_ok-number.ensures.seen ∙ ap (seen_with c.self.inside.names) c.as_str.ensures in
    let fits = number_fits c.self.inside.names c.number.new.self c.self.inside.numbers.items c.self.inside.of.items c.args.text.now c.in_ok-number.number c.self.invariant room seen
    (rw c.as_str.ensures at c.in_ok-number.ensures.number) in
    omega (arith, fits)
