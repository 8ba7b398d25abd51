-- That `bind` leaves a value that is whole.
use Rattle.std.proofs.Common.{◌≡◌, ◌∙◌, ap, sym, arith, map, Some}
use Rattle.olap_meaning.specs.Records.{column_place}
use Rattle.olap_meaning.specs.Schema.{levels_of}
use Rattle.dim_tables.proofs.PlaceFacts.{as_many, placed_columns}
use Rattle.dim_tables.proofs.bound.BoundDimension.bind.Goals as goal

pub invariant_of-result : goal.invariant_of-result
invariant_of-result c =
    let d = c.args.dimension.now in
    let placed : map (λ place. Some place) c.in_ok-fields.fields.items ≡ map (λ level. column_place level.column c.args.header) (levels_of d) = rw c.as_slice.ensures at c.in_ok-fields.ensures.placed in
    let many = as_many c.in_ok-fields.fields.items (levels_of d) (λ level. column_place level.column c.args.header) placed in
    record {
      key_found = sym (c.find.ensures ∙ ap (λ name. column_place name c.args.header) c.as_str.ensures) ∙ c.in-Some.is;
      fields_found = placed ∙ placed_columns c.args.header (levels_of d);
      few = omega arith;
    }
